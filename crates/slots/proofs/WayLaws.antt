-- The way to a target, slot by slot: what the loops have counted and what is left.
use Rattle.std.proofs.Common.{◌≡◌, ℕ, suc, ◌+◌, ◌<◌, ◌≤◌, Bool, true, false, cond, not, eqb, List, [], ◌∷◌, ◌++◌, length, drop, get_or, Some, None, Option, unwrap_or, sym, refl, ap, ap₂, ◌∙◌, subst, arith, length-append}
use Rattle.std.specs.Int.{from_bool}
use Rattle.std.specs.List.{filter, range_with_len, zip, position, position_from}
use Rattle.std.proofs.lemmas.List.{drop_more, drop_all, get_or_default}
use Rattle.std.proofs.lemmas.Iterator.Adapters.{position_from-zero}
use Rattle.std.proofs.lemmas.Slice.Zip.{length-zip, get_or-zip}
use Rattle.codes.specs.Search.{smallest, counted, ascending}
use Rattle.codes.proofs.SearchLaws.{smallest_some, counted_le, counted_items, filter_range, length_ascending}
use Rattle.slots.specs.declared.Field.{Field}
use Rattle.slots.specs.declared.Slot.{Slot}
use Rattle.slots.specs.declared.Slots.{Slots}
use Rattle.slots.specs.SlotsPart.{unused, unlike, slot, differs_in, apart_in, differs, aimed, order, selections, selections_made}

-- the first item that passes, each tried at its place
first_item : {X : Type 0} (test : X → Bool) (p : ℕ → Bool) (xs : List X) (c : ℕ)
    → ((i : ℕ) (d : X) → i < length xs → test (get_or xs i d) ≡ p (c + i)) → position_from test c xs ≡ smallest p c (length xs)
unfolding smallest
first_item test p [] c f = refl
first_item test p (x ∷ xs) c f =
    let on : c + 1 ≡ suc c = omega arith in
    let here : test x ≡ p c = f 0 x (omega arith) ∙ ap p (omega arith) in
    ap₂ (λ (b : Bool) (r : Option ℕ). cond b (Some c) r) here
    (ap (λ (d : ℕ). position_from test d xs) on ∙ first_item test p xs (suc c) (λ i d l. f (suc i) d (omega arith) ∙ ap p (omega arith)))

-- pair i
pair_at : (s t : Slots) (i : ℕ) (d : Slot × Slot) → i < 10 → (f : Slot → Slot → Bool) → f (get_or (zip s.slots t.slots) i d).0 (get_or (zip s.slots t.slots) i d).1 ≡ f (slot s i) (slot t i)
pair_at s t i d l f =
    ap (λ (p : Slot × Slot). f p.0 p.1) (get_or-zip s.slots t.slots i d (omega (arith, s.ok.0)) (omega (arith, t.ok.0)))
    ∙ ap₂ f (get_or_default s.slots i d.0 unused (omega (arith, s.ok.0))) (get_or_default t.slots i d.1 unused (omega (arith, t.ok.0)))

-- the slots, pair by pair
pub apart_counted : (f : Field) (s t : Slots) → length (filter (λ p. differs_in f p.0 p.1) (zip s.slots t.slots)) ≡ apart_in f s t
apart_counted f s t =
    let ten : length (zip s.slots t.slots) ≡ 10 = omega (arith, length-zip s.slots t.slots, s.ok.0, t.ok.0) in
    counted_items (λ p. differs_in f p.0 p.1) (λ i. differs_in f (slot s i) (slot t i)) (zip s.slots t.slots) 0
    (λ i d l. let here : i ≡ 0 + i = omega arith in pair_at s t i d (omega arith) (differs_in f) ∙ ap (λ (j : ℕ). differs_in f (slot s j) (slot t j)) here)
    ∙ ap (counted (λ i. differs_in f (slot s i) (slot t i)) 0) ten

-- the first pair that differs
pub first_unlike : (s t : Slots) → position (λ p. unlike p.0 p.1) (zip s.slots t.slots) ≡ smallest (differs s t) 0 10
first_unlike s t =
    let ten : length (zip s.slots t.slots) ≡ 10 = omega (arith, length-zip s.slots t.slots, s.ok.0, t.ok.0) in
    position_from-zero (λ p. unlike p.0 p.1) (zip s.slots t.slots)
    ∙ first_item (λ p. unlike p.0 p.1) (differs s t) (zip s.slots t.slots) 0
    (λ i d l. let here : i ≡ 0 + i = omega arith in pair_at s t i d (omega arith) unlike ∙ ap (differs s t) here)
    ∙ ap (smallest (differs s t) 0) ten

pub apart_le : (f : Field) (s t : Slots) → apart_in f s t ≤ 10
apart_le f s t = counted_le (λ i. differs_in f (slot s i) (slot t i)) 0 10

-- the slots that differ, and then the target's
abbrev pub visited : Slots → Slots → List ℕ
visited s t = filter (differs s t) (range_with_len 0 10) ++ (t.selected ∷ [])

pub visited_order : (s t : Slots) → visited s t ≡ order s t
visited_order s t = ap (λ (js : List ℕ). js ++ (t.selected ∷ [])) (filter_range (differs s t) 0 10)

-- `count` selections were made for the first n of the order, of `made` in all, and slot `at` is selected
module _ (s t : Slots) (n at count made : ℕ) (so_far : count + selections at (drop n (order s t)) ≡ made) where
  next_one : (i : ℕ) → n < length (visited s t) → i ≡ get_or (visited s t) n i → drop n (order s t) ≡ i ∷ drop (n + 1) (order s t)
  next_one i l e =
      subst (λ (js : List ℕ). drop n js ≡ i ∷ drop (n + 1) js) (visited_order s t)
      (drop_more (visited s t) n i l ∙ ap (λ (j : ℕ). j ∷ drop (n + 1) (visited s t)) (sym e))

  -- the next one is selected, where it is not yet
  pub one_more : (i m turn : ℕ) → n < length (visited s t) → i ≡ get_or (visited s t) n i → m ≡ n + 1 → turn ≡ from_bool (not (eqb at i))
      → count + turn + selections i (drop m (order s t)) ≡ made
  one_more i m turn l e om ot =
      let turned : turn ≡ cond (eqb at i) 0 1 = ot ∙ swapped (eqb at i) in
      omega (arith, ap (selections at) (next_one i l e), ap (λ (k : ℕ). selections i (drop k (order s t))) om)
    where
      swapped : (b : Bool) → from_bool (not b) ≡ cond {A = ℕ} b 0 1
      swapped true = refl
      swapped false = refl

  -- none is left
  pub all_made : n ≡ length (visited s t) → count ≡ made
  all_made e =
      let none : drop n (order s t) ≡ [] = drop_all n (order s t) (omega (arith, ap length (visited_order s t))) in
      omega (arith, ap (selections at) none)

pub selections_le : (s t : Slots) → selections_made s t ≤ 11
selections_le s t =
    let made : selections_made s t ≤ length (order s t) = turns_le s.selected (order s t) in
    let size = length-append (ascending (differs s t) 0 10) (t.selected ∷ []) in
    let ten : length (ascending (differs s t) 0 10) ≤ 10 = omega (arith, length_ascending (differs s t) 0 10, counted_le (differs s t) 0 10) in
    omega arith
  where
    turn_le : (b : Bool) → cond {A = ℕ} b 0 1 ≤ 1
    turn_le true = omega arith
    turn_le false = omega arith

    turns_le : (i : ℕ) (js : List ℕ) → selections i js ≤ length js
    turns_le i [] = omega arith
    turns_le i (j ∷ js) = omega (arith, turn_le (eqb i j), turns_le j js)

pub aimed_lt : (s t : Slots) → aimed s t < 10
aimed_lt s t = by (smallest (differs s t) 0 10) refl
  where
    by : (o : Option ℕ) → smallest (differs s t) 0 10 ≡ o → unwrap_or o t.selected < 10
    by None e = t.ok.1
    by (Some k) e = let r = smallest_some (differs s t) 0 10 k e in omega arith
