-- The bytes of a keyboard in a ring.
use Rattle.std.specs.Prelude.{ℕ, Bool, not, ◌||◌, ◌==◌}

-- every byte but the prefixes E0, E1 and F0 closes a group
abbrev pub closes_code : ℕ → Bool
closes_code b = not (b == 0xe0 || (b == 0xe1 || b == 0xf0))

-- the mark is 00, whatever byte it is made from
abbrev pub lost_byte : ℕ → ℕ
lost_byte b = 0x00
