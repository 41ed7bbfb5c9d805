-- Laws of one slot: when two are equal, where they differ first, and what a write does.
use Rattle.std.specs.Prelude.{◌≡◌, Bool, true, false, cond, not, ◌&&◌, ℤ, pos, negsuc, is_some, Some, None, Option, ◌≢◌, nat_le, refl}
use Rattle.std.proofs.Common.{sym, ap, ◌∙◌, arith}
use mathlib.Core.HLevel.{is_prop→PathP}
use denote.Struct.Props.{props}
use Rattle.std.specs.Ordering.{int_eq}
use Rattle.std.proofs.lemmas.Bool.Decides.{same_from_decides, Decides-int_eq}
use Rattle.std.proofs.lemmas.Bool.{cond-true, cond-false, leb-true, le-leb, and_parts, and_from, not-false, not_from_true, true≢false, false≢true}
use Rattle.events.specs.Items.{same_value}
use Rattle.slots.specs.declared.Field.{Field}
use Rattle.slots.specs.declared.Field.TheVariants.{Id, X, Y}
use Rattle.slots.specs.declared.Slot.{Slot}
use Rattle.slots.specs.Ranges.{legal, Legal, written}
use Rattle.slots.specs.SlotsPart.{get, put, differs_in, first_difference}

-- ---- equal values

pub same_true : (u v : ℤ) → same_value u v ≡ true → u ≡ v
same_true (pos a) (pos b) e = let h = and_parts (nat_le a b) (nat_le b a) e in ap pos (omega (arith, leb-true a b h.0, leb-true b a h.1))
same_true (pos a) (negsuc b) e = absurd (false≢true e)
same_true (negsuc a) (pos b) e = absurd (false≢true e)
same_true (negsuc a) (negsuc b) e = let h = and_parts (nat_le b a) (nat_le a b) e in ap negsuc (omega (arith, leb-true b a h.0, leb-true a b h.1))

pub same_self : (u : ℤ) → same_value u u ≡ true
same_self (pos a) = and_from (nat_le a a) (nat_le a a) (le-leb a a (omega arith)) (le-leb a a (omega arith))
same_self (negsuc a) = and_from (nat_le a a) (nat_le a a) (le-leb a a (omega arith)) (le-leb a a (omega arith))

pub true_same : (u v : ℤ) → u ≡ v → same_value u v ≡ true
true_same u v e = ap (same_value u) (sym e) ∙ same_self u

-- ---- equal slots

legal_prop : (i x y : ℤ) → IsProp (Legal i x y)
legal_prop i x y = hlevel props

pub same_slot : (a b : Slot) → a.id ≡ b.id → a.x ≡ b.x → a.y ≡ b.y → a ≡ b
same_slot a b p q r = λ i. record { id = p i; x = q i; y = r i; ok = is_prop→PathP (λ j. Legal (p j) (q j) (r j)) (λ j. legal_prop (p j) (q j) (r j)) a.ok b.ok i }

-- ---- where two slots differ

pub alike_in : (f : Field) (a b : Slot) → differs_in f a b ≡ false → get a f ≡ get b f
alike_in f a b e = same_true (get a f) (get b f) (not-false (same_value (get a f) (get b f)) e)

pub equal_in : (f : Field) (a b : Slot) → get a f ≡ get b f → differs_in f a b ≡ false
equal_in f a b e = not_from_true (same_value (get a f) (get b f)) (true_same (get a f) (get b f) e)

pub first_some : (a b : Slot) (f : Field) → first_difference a b ≡ Some f → differs_in f a b ≡ true
first_some a b f e = grind arith

pub first_none : (a b : Slot) (f : Field) → first_difference a b ≡ None → differs_in f a b ≡ false
first_none a b Id e = grind arith
first_none a b X e = grind arith
first_none a b Y e = grind arith

pub none_first : (a b : Slot) → ((f : Field) → differs_in f a b ≡ false) → first_difference a b ≡ None
none_first a b h = cond-false (differs_in Id a b) _ _ (h Id) ∙ cond-false (differs_in X a b) _ _ (h X) ∙ cond-false (differs_in Y a b) _ _ (h Y)

pub first_self : (a : Slot) → first_difference a a ≡ None
first_self a = none_first a a (λ f. equal_in f a a refl)

-- slots that differ in no field are equal
pub none_apart : (a b : Slot) → ((f : Field) → differs_in f a b ≡ false) → a ≡ b
none_apart a b h = same_slot a b (alike_in Id a b (h Id)) (alike_in X a b (h X)) (alike_in Y a b (h Y))

some_is : (o : Option Field) → is_some o ≡ true → (f : Field) × (o ≡ Some f)
some_is None e = absurd (false≢true e)
some_is (Some f) e = (f, refl)

pub none_is : (o : Option Field) → is_some o ≡ false → o ≡ None
none_is None e = refl
none_is (Some f) e = absurd (true≢false e)

pub differ_first : (a b : Slot) → is_some (first_difference a b) ≡ true → (f : Field) × (first_difference a b ≡ Some f)
differ_first a b e = some_is (first_difference a b) e

pub alike : (a b : Slot) → is_some (first_difference a b) ≡ false → a ≡ b
alike a b e = none_apart a b (λ f. first_none a b f (none_is (first_difference a b) e))

-- slots are unequal where there is a first difference
pub unequal_first : (a b : Slot) → not (int_eq a.id b.id && (int_eq a.x b.x && int_eq a.y b.y)) ≡ is_some (first_difference a b)
unequal_first a b = rw (same a.id b.id, same a.x b.x, same a.y b.y) (found (same_value a.id b.id) (same_value a.x b.x) (same_value a.y b.y))
  where
    same : (u v : ℤ) → int_eq u v ≡ same_value u v
    same u v = same_from_decides (int_eq u v) (same_value u v) (Decides-int_eq u v) (same_true u v, true_same u v)

    found : (i x y : Bool) → not (i && (x && y)) ≡ is_some (cond (not i) (Some Id) (cond (not x) (Some X) (cond (not y) (Some Y) None)))
    found true true true = refl
    found true true false = refl
    found true false y = refl
    found false x y = refl

-- ---- writes

pub get_legal : (a : Slot) (f : Field) → legal f (get a f) ≡ true
get_legal a Id = a.ok.0
get_legal a X = a.ok.1
get_legal a Y = a.ok.2

pub get_put : (a : Slot) (f : Field) (v : ℤ) → legal f v ≡ true → get (put a f v) f ≡ v
get_put a Id v l = cond-true (legal Id v) v a.id l
get_put a X v l = cond-true (legal X v) v a.x l
get_put a Y v l = cond-true (legal Y v) v a.y l

pub get_other : (a : Slot) (f g : Field) (v : ℤ) → (g ≢ f) → get (put a f v) g ≡ get a g
get_other a Id Id v n = absurd (n refl)
get_other a Id X v n = refl
get_other a Id Y v n = refl
get_other a X Id v n = refl
get_other a X X v n = absurd (n refl)
get_other a X Y v n = refl
get_other a Y Id v n = refl
get_other a Y X v n = refl
get_other a Y Y v n = absurd (n refl)

-- a write that leaves the field leaves the slot
pub put_same : (a : Slot) (f : Field) (v : ℤ) → written f v (get a f) ≡ get a f → put a f v ≡ a
put_same a Id v e = same_slot _ _ e refl refl
put_same a X v e = same_slot _ _ refl e refl
put_same a Y v e = same_slot _ _ refl refl e
