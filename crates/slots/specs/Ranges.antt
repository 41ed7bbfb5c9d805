-- The fields of a slot, the codes that set them, and the values that they and a selection take.
use Rattle.std.specs.Prelude.{◌≡◌, ℕ, ◌<◌, ◌≤◌, Bool, true, false, cond, ◌&&◌, ℤ, pos, negsuc, Some, None, Option, Result, MatchResult, ◌==◌, int_le, nat_le, unsigned_abs, refl}
use Rattle.std.proofs.Common.{arith}
use Rattle.std.proofs.lemmas.Bool.{leb-true, and_parts}
use Rattle.slots.specs.declared.Field.{Field}
use Rattle.slots.specs.declared.Field.TheVariants.{Id, X, Y}

-- from one integer to another, both included
abbrev pub within : ℤ → ℤ → ℤ → Bool
within low high v = int_le low v && int_le v high

-- an id is −1 to 65534, x and y are 0 to 65535
abbrev pub legal : Field → ℤ → Bool
legal Id v = within (negsuc 0) (pos 65534) v
legal X v = within (pos 0) (pos 65535) v
legal Y v = within (pos 0) (pos 65535) v

-- what a slot may hold
abbrev pub Legal : ℤ → ℤ → ℤ → Type 0
Legal id x y = (legal Id id ≡ true) × (legal X x ≡ true) × (legal Y y ≡ true)

-- a selection is 0 to 9
abbrev pub is_slot : ℤ → Bool
is_slot v = within (pos 0) (pos 9) v

-- the code that sets a field
abbrev pub code_of : Field → ℕ
code_of Id = 57
code_of X = 53
code_of Y = 54

-- the field that a code sets
abbrev pub field_of : ℕ → Option Field
field_of c = cond (c == 57) (Some Id) (cond (c == 53) (Some X) (cond (c == 54) (Some Y) None))

-- a code is read as the field that it sets, or refused where it sets none
abbrev pub Names : {E : Type 0} → ℕ → Result Field E → Type 0
Names c r = MatchResult r (λ f. field_of c ≡ Some f) (λ e. field_of c ≡ None)

-- what a field holds after a write: the new value where it is allowed, and else the old one
abbrev pub written : Field → ℤ → ℤ → ℤ
written f v old = cond (legal f v) v old

pub written_ok : (f : Field) (v old : ℤ) → legal f old ≡ true → legal f (written f v old) ≡ true
written_ok f v old h = either (legal f v) refl
  where
    either : (b : Bool) → legal f v ≡ b → legal f (cond b v old) ≡ true
    either true e = e
    either false e = h

-- the slot that is selected after a selection: the new one where there is one, and else the old one
abbrev pub chosen : ℤ → ℕ → ℕ
chosen v old = cond (is_slot v) (unsigned_abs v) old

pub chosen_ok : (v : ℤ) (old : ℕ) → old < 10 → chosen v old < 10
chosen_ok (negsuc n) old h = h
chosen_ok (pos n) old h = either (nat_le 0 n && nat_le n 9) refl
  where
    either : (b : Bool) → (nat_le 0 n && nat_le n 9) ≡ b → cond b n old < 10
    either true e = let l : n ≤ 9 = leb-true n 9 (and_parts (nat_le 0 n) (nat_le n 9) e).1 in omega arith
    either false e = h
