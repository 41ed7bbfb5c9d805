-- One step of a loop over the codes that are held.
use Rattle.std.specs.Prelude.{◌≡◌, ℕ, ◌++◌, Option}
use Rattle.std.specs.Option.{option_to_list}
use Rattle.keys.specs.declared.iter.Codes.{Codes}
use Rattle.keys.specs.KeySet.{held_codes, first_held}

-- the smallest code comes, if any is left, and the others are still to come
abbrev pub gives : Codes → Option ℕ → Codes → Type 0
gives s r t = (r ≡ first_held s.keys) × (held_codes s.keys ≡ option_to_list r ++ held_codes t.keys)
