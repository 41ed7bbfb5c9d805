-- The bits of a number.
use Rattle.std.specs.Prelude.{ℕ, Bool, not, ◌==◌}
use Rattle.std.specs.Int.{bit_at}
use Rattle.std.specs.Bool.{beq}

-- bit k of w
abbrev pub bit : ℕ → ℕ → Bool
bit w k = bit_at w k == 1

-- whether the two are not the same
abbrev pub unlike : Bool → Bool → Bool
unlike a b = not (beq a b)
