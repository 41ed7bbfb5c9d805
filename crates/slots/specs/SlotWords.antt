-- The words of the slots that are in use.
use Rattle.std.specs.Prelude.{◌≡◌, ℕ, zero, suc, List, [], ◌++◌, ℤ, Some, None, codes, decimal, Option}
use Rattle.std.specs.Fmt.{signed_decimal}
use Rattle.slots.specs.declared.Slots.{Slots}
use Rattle.slots.specs.SlotsPart.{finger}

-- a finger in slot i, with a space in front: S3:5,0
abbrev pub finger_word : ℕ → ℤ → ℤ → List ℕ
finger_word i x y = codes " S" ++ (decimal i ++ (codes ":" ++ (signed_decimal x ++ (codes "," ++ signed_decimal y))))

-- slot i, by the place of its finger
abbrev pub slot_word : ℕ → Option (ℤ × ℤ) → List ℕ
slot_word i None = []
slot_word i (Some p) = finger_word i p.0 p.1

-- the n slots from i on, by the places of their fingers
unfoldable pub words_from : (ℕ → Option (ℤ × ℤ)) → ℕ → ℕ → List ℕ
words_from f i zero = []
words_from f i (suc n) = slot_word i (f i) ++ words_from f (suc i) n

-- the slots in use, ascending
abbrev pub slot_words : Slots → List ℕ
slot_words s = words_from (finger s) 0 10

-- two panels whose slots are written alike have the same fingers
abbrev pub FingersApart : Type 0
FingersApart = (s t : Slots) → slot_words s ≡ slot_words t → (i : ℕ) → finger s i ≡ finger t i
