-- The laws of the part of slots.
use Rattle.std.specs.Prelude.{◌≡◌, ℕ, suc, ◌+◌, ◌<◌, ◌≤◌, Bool, true, false, cond, not, ◌⊎◌, List, [], ◌∷◌, ◌++◌, length, set, ℤ, pos, negsuc, is_some, Some, None, Option, ◌==◌, ◌≢◌, nat_le, slice_index_or, unsigned_abs, refl}
use Rattle.std.proofs.Common.{sym, ap₂, ◌∙◌, subst, inl, inr, ⊎_elim, zero-add, lit≤, get_or-set_same, get_or-set_other}
use Rattle.std.proofs.Math.Path.{ap}
use mathlib.Core.HLevel.{is_prop→PathP}
use native.Mathlib.Omega.{arith}
use denote.Struct.Props.{props}
use Rattle.std.proofs.lemmas.List.{set-get_or, same_lists, get_or_default}
use Rattle.std.proofs.lemmas.Bool.{cases_Bool, cases_eq, cond-true, cond-false, eqb-true, eqb-false, eq-eqb, ne_eqb, le-leb, and_from, not-true, true≢false, false≢true}
use Rattle.std.specs.Option.{option_map, unwrap_or}
use Rattle.std.proofs.lemmas.Option.{none-some, same_Some}
use Rattle.events.specs.declared.items.Event.{Event}
use Rattle.events.specs.Items.{address, same_value}
use Rattle.codes.specs.Search.{smallest, ascending}
use Rattle.codes.proofs.SearchLaws.{smallest_some, smallest_none, false_from_none, counted_zero, false_from_zero, counted_same, counted_less, ascending_none, ascending_same, ascending_some}
use Rattle.parts.specs.declared.Verdict.TheVariants.{Stranger, Change}
use Rattle.parts.specs.Meaning.{Laws}
use Rattle.parts.proofs.ByCode.{mapped_some, mapped_none}
use Rattle.slots.specs.declared.Field.{Field}
use Rattle.slots.specs.declared.Field.TheVariants.{Id, X, Y}
use Rattle.slots.specs.declared.changes.Subject.{Subject}
use Rattle.slots.specs.declared.changes.Subject.TheVariants.{Selection, Field as OfField}
use Rattle.slots.specs.declared.Slot.{Slot}
use Rattle.slots.specs.declared.Slots.{Slots}
use Rattle.slots.specs.Ranges.{legal, is_slot, field_of, written, chosen}
use Rattle.slots.specs.SlotsPart.{unused, get, put, differs_in, first_difference, slot, judged, subject, verdict_on, verdict, fill, set_to, taken, differs, selecting, setting, next_for, next, apart_in, fields_apart, order, selections, selections_made, distance, slots}
use Rattle.slots.specs.SlotLaws.{same_true, true_same, equal_in, first_some, first_self, differ_first, alike, get_legal, get_put, get_other, put_same, none_apart}

-- ---- equal states

ten_prop : (l : List Slot) (n : ℕ) → IsProp ((length l ≡ 10) × (n < 10))
ten_prop l n = hlevel props

pub same_slots : (s t : Slots) → s.slots ≡ t.slots → s.selected ≡ t.selected → s ≡ t
same_slots s t p q = λ i. record { slots = p i; selected = q i; ok = is_prop→PathP (λ j. (length (p j) ≡ 10) × (q j < 10)) (λ j. ten_prop (p j) (q j)) s.ok t.ok i }

pub within_ten : (s : Slots) (i : ℕ) → i < 10 → i < length s.slots
within_ten s i h = subst (λ (n : ℕ). i < n) (sym s.ok.0) h

-- where each slot is equal, the slots are
each_slot : (s t : Slots) → ((i : ℕ) → i < 10 → slot s i ≡ slot t i) → s.slots ≡ t.slots
each_slot s t h = same_lists s.slots t.slots (s.ok.0 ∙ sym t.ok.0) (λ k d l.
    let small : k < 10 = subst (λ (n : ℕ). k < n) s.ok.0 l in
    get_or_default s.slots k d unused l ∙ h k small ∙ get_or_default t.slots k unused d (within_ten t k small))

-- where no slot differs, the slots are equal
none_differs : (s t : Slots) → smallest (differs s t) 0 10 ≡ None → s.slots ≡ t.slots
none_differs s t e = each_slot s t (λ i h. alike (slot s i) (slot t i) (false_from_none (differs s t) 0 10 e i (omega arith) (omega arith)))

differs_self : (s : Slots) → smallest (differs s s) 0 10 ≡ None
differs_self s = smallest_none (differs s s) 0 10 (λ j l u. ap is_some (first_self (slot s j)))

order_none : (s t : Slots) → smallest (differs s t) 0 10 ≡ None → order s t ≡ t.selected ∷ []
order_none s t e = ap (λ (x : List ℕ). x ++ (t.selected ∷ [])) (ascending_none (differs s t) 0 10 e)

-- ---- law 3

-- where no field differs, the slots are equal
no_fields : (s t : Slots) → fields_apart s t ≡ 0 → s.slots ≡ t.slots
no_fields s t z = each_slot s t (λ i h. alike_slot i h)
  where
    in_none : (f : Field) → apart_in f s t ≡ 0
    in_none Id = omega arith
    in_none X = omega arith
    in_none Y = omega arith

    alike_slot : (i : ℕ) → i < 10 → slot s i ≡ slot t i
    alike_slot i h = none_apart (slot s i) (slot t i) (λ f. false_from_zero (λ j. differs_in f (slot s j) (slot t j)) 0 10 (in_none f) i (omega arith) (omega arith))

turn_zero : (i j : ℕ) → cond (i == j) 0 1 + 0 ≡ 0 → i ≡ j
turn_zero i j z = ⊎_elim (eqb-true i j) (λ o. absurd (omega (arith, cond-false {A = ℕ} (i == j) 0 1 o))) (cases_Bool (i == j))

no_turn : (i : ℕ) (js : List ℕ) → selections i (i ∷ js) ≡ selections i js
no_turn i js = ap (λ (x : ℕ). x + selections i js) (cond-true {A = ℕ} (i == i) 0 1 (eq-eqb i i refl)) ∙ zero-add _

pub apart : (s t : Slots) → distance s t ≡ 0 → s ≡ t
apart s t z =
    let eq : s.slots ≡ t.slots = no_fields s t (omega arith) in
    let none : smallest (differs s t) 0 10 ≡ None = smallest_none (differs s t) 0 10 (λ j l u. ap (λ (x : List Slot). is_some (first_difference (slice_index_or x j unused) (slot t j))) eq ∙ ap is_some (first_self (slot t j))) in
    let still : selections_made s t ≡ 0 = omega arith in
    same_slots s t eq (turn_zero _ _ (ap (selections s.selected) (sym (order_none s t none)) ∙ still))

pub together : (s : Slots) → distance s s ≡ 0
together s = ap₂ ◌+◌ none (ap (selections s.selected) (order_none s s (differs_self s)) ∙ no_turn s.selected [])
  where
    in_none : (f : Field) → apart_in f s s ≡ 0
    in_none f = counted_zero _ 0 10 (λ j l u. equal_in f (slot s j) (slot s j) refl)

    none : fields_apart s s ≡ 0
    none = ap₂ ◌+◌ (in_none Id) (ap₂ ◌+◌ (in_none X) (in_none Y))

-- ---- events

nine : (i : ℕ) → i < 10 → is_slot (pos i) ≡ true
nine i h = and_from (nat_le 0 i) (nat_le i 9) (le-leb 0 i (omega arith)) (le-leb i 9 (omega arith))

-- a judgement is a change exactly where the value is allowed and another
judged_change : (allowed : Bool) (there v : ℤ) → judged allowed there v ≡ Change → (allowed ≡ true) × (same_value there v ≡ false)
judged_change allowed there v e = grind arith

change_judged : (allowed : Bool) (there v : ℤ) → allowed ≡ true → same_value there v ≡ false → judged allowed there v ≡ Change
change_judged allowed there v p q = cond-true allowed _ _ p ∙ cond-false (same_value there v) _ _ q

-- a field of the selected slot
setting_verdict : (s : Slots) (b : Slot) (f : Field) → verdict s (setting b f) ≡ judged (legal f (get b f)) (get (slot s s.selected) f) (get b f)
setting_verdict s b Id = refl
setting_verdict s b X = refl
setting_verdict s b Y = refl

setting_taken : (s : Slots) (b : Slot) (f : Field) → taken s (setting b f) ≡ fill s f (get b f)
setting_taken s b Id = refl
setting_taken s b X = refl
setting_taken s b Y = refl

-- ---- law 4: one event towards a target

Step : Slots → Slots → Event → Type 0
Step s t e = (verdict s e ≡ Change) × (suc (distance (taken s e) t) ≡ distance s t)

-- where the order begins with i, and another slot is selected
select_step : (s t : Slots) (i : ℕ) (rest : List ℕ) → i < 10 → order s t ≡ i ∷ rest → (s.selected == i) ≡ false → Step s t (selecting i)
unfolding Step
select_step s t i rest h e o =
    let before : selections_made s t ≡ 1 + selections i rest =
    ap (selections s.selected) e ∙ ap (λ (x : ℕ). x + selections i rest) (cond-false {A = ℕ} (s.selected == i) 0 1 o) in
    let now_selected : chosen (pos i) s.selected ≡ i = cond-true (is_slot (pos i)) i s.selected (nine i h) in
    let after : selections (chosen (pos i) s.selected) (order s t) ≡ selections i rest = ap₂ selections now_selected e ∙ no_turn i rest in
    let other : same_value (pos s.selected) (pos i) ≡ false = another s.selected i o in
    (change_judged (is_slot (pos i)) (pos s.selected) (pos i) (nine i h) other, count (fields_apart s t) _ _ (selections i rest) after before)
  where
    another : (m n : ℕ) → (m == n) ≡ false → same_value (pos m) (pos n) ≡ false
    another m n o = ⊎_elim (λ y. absurd (eqb-false m n o (let p : m ≡ n = ap unsigned_abs (same_true (pos m) (pos n) y) in p))) (λ n. n) (cases_Bool (same_value (pos m) (pos n)))

    count : (n a b r : ℕ) → a ≡ r → b ≡ 1 + r → suc (n + a) ≡ n + b
    count n a b r p q = omega arith

-- one field fewer differs, and the others as before
fewer : (f : Field) (u s t : Slots) → suc (apart_in f u t) ≡ apart_in f s t → ((g : Field) → (g ≢ f) → apart_in g u t ≡ apart_in g s t) → suc (fields_apart u t) ≡ fields_apart s t
fewer Id u s t p q = let x = q X (λ e. cc) in let y = q Y (λ e. cc) in omega arith
fewer X u s t p q = let i = q Id (λ e. cc) in let y = q Y (λ e. cc) in omega arith
fewer Y u s t p q = let i = q Id (λ e. cc) in let x = q X (λ e. cc) in omega arith

-- a field of the selected slot is set as the target has it
module _ (s t : Slots) (f : Field) (differ : differs_in f (slot s s.selected) (slot t s.selected) ≡ true) where
  abbrev filled : Slots
  filled = fill s f (get (slot t s.selected) f)

  there : slot filled s.selected ≡ put (slot s s.selected) f (get (slot t s.selected) f)
  there = get_or-set_same s.slots s.selected _ unused (within_ten s s.selected s.ok.1)

  elsewhere : (j : ℕ) → (j ≢ s.selected) → slot filled j ≡ slot s j
  elsewhere j n = get_or-set_other s.slots s.selected j _ unused n

  met : differs_in f (slot filled s.selected) (slot t s.selected) ≡ false
  met = equal_in f (slot filled s.selected) (slot t s.selected) (ap (λ (x : Slot). get x f) there ∙ get_put (slot s s.selected) f _ (get_legal (slot t s.selected) f))

  own : suc (apart_in f filled t) ≡ apart_in f s t
  own =
      let small : s.selected < 10 = s.ok.1 in
      counted_less (λ j. differs_in f (slot s j) (slot t j)) (λ j. differs_in f (slot filled j) (slot t j)) 0 10 s.selected (omega arith) (omega arith) differ met
      (λ j n. ap (λ (x : Slot). differs_in f x (slot t j)) (sym (elsewhere j n)))

  others : (g : Field) → (g ≢ f) → apart_in g filled t ≡ apart_in g s t
  others g n = counted_same _ _ 0 10 (λ j l u. ⊎_elim (at j) (λ o. ap (λ (x : Slot). differs_in g x (slot t j)) (elsewhere j o)) (cases_eq j s.selected))
    where
      at : (j : ℕ) → j ≡ s.selected → differs_in g (slot filled j) (slot t j) ≡ differs_in g (slot s j) (slot t j)
      at j e =
          ap (λ (i : ℕ). differs_in g (slot filled i) (slot t i)) e ∙ ap (λ (x : Slot). differs_in g x (slot t s.selected)) there
          ∙ ap (λ (v : ℤ). not (same_value v (get (slot t s.selected) g))) (get_other (slot s s.selected) f g _ n) ∙ sym (ap (λ (i : ℕ). differs_in g (slot s i) (slot t i)) e)

  -- the order loses at most its first slot, which is selected
  kept : smallest (differs s t) 0 10 ≡ Some s.selected → selections_made filled t ≡ selections_made s t
  kept e = ⊎_elim
      (λ y. ap (λ (x : List ℕ). selections s.selected (x ++ (t.selected ∷ []))) (ascending_same (differs filled t) (differs s t) 0 10 (λ j l u. ⊎_elim (at y j) (other j) (cases_eq j s.selected))))
      (λ n. sym (ap (λ (x : List ℕ). selections s.selected (x ++ (t.selected ∷ []))) (ascending_some (differs s t) (differs filled t) 0 10 s.selected e n (λ j o. sym (other j o))) ∙ no_turn s.selected _))
      (cases_Bool (differs filled t s.selected))
    where
      at : differs filled t s.selected ≡ true → (j : ℕ) → j ≡ s.selected → differs filled t j ≡ differs s t j
      at y j i = ap (differs filled t) i ∙ y ∙ sym (smallest_some (differs s t) 0 10 s.selected e).2 ∙ ap (differs s t) (sym i)

      other : (j : ℕ) → (j ≢ s.selected) → differs filled t j ≡ differs s t j
      other j o = ap (λ (x : Slot). is_some (first_difference x (slot t j))) (elsewhere j o)

  set_step : smallest (differs s t) 0 10 ≡ Some s.selected → Step s t (setting (slot t s.selected) f)
  unfolding Step
  set_step e =
      let b = slot t s.selected in (
        setting_verdict s b f ∙ change_judged (legal f (get b f)) (get (slot s s.selected) f) (get b f) (get_legal b f) (not-true _ differ),
        ap (λ (x : Slots). suc (distance x t)) (setting_taken s b f) ∙ suc_sum _ _ _ _ (fewer f filled s t own others) (kept e),
      )
    where
      suc_sum : (m n x y : ℕ) → suc m ≡ n → x ≡ y → suc (m + x) ≡ n + y
      suc_sum m n x y p q = omega arith

-- the order begins with the smallest slot that differs
order_some : (s t : Slots) (k : ℕ) → smallest (differs s t) 0 10 ≡ Some k → (rest : List ℕ) × (order s t ≡ k ∷ rest)
order_some s t k e =
    let p = differs s t in
    let q : ℕ → Bool = λ j. cond (j == k) false (p j) in
    (ascending q 0 10 ++ (t.selected ∷ []), ap (λ (x : List ℕ). x ++ (t.selected ∷ [])) (ascending_some p q 0 10 k e (cond-true (k == k) false (p k) (eq-eqb k k refl)) (λ j n. sym (cond-false (j == k) false (p j) (ne_eqb j k n)))))

-- the next event for slot i, which the order begins with
next_step : (s t : Slots) (e : Event) (i : ℕ) (rest : List ℕ) → i < 10 → order s t ≡ i ∷ rest
    → ((f : Field) → s.selected ≡ i → first_difference (slot s i) (slot t i) ≡ Some f → Step s t (setting (slot t i) f))
    → next_for s t i ≡ Some e → Step s t e
next_step s t e i rest small o set h = ⊎_elim
    (λ y. let m = mapped_some (setting (slot t i)) (first_difference (slot s i) (slot t i)) e (sym (cond-true (s.selected == i) _ _ y) ∙ h) in
    subst (Step s t) (sym m.2) (set m.0 (eqb-true s.selected i y) m.1))
    (λ n. subst (Step s t) (same_Some _ _ (sym (cond-false (s.selected == i) _ _ n) ∙ h)) (select_step s t i rest small o n))
    (cases_Bool (s.selected == i))

step : (s t : Slots) (e : Event) → next s t ≡ Some e → Step s t e
step s t e h = by (smallest (differs s t) 0 10) refl
  where
    by : (o : Option ℕ) → smallest (differs s t) 0 10 ≡ o → Step s t e
    by None q =
        let same : s.slots ≡ t.slots = none_differs s t q in
        next_step s t e t.selected [] t.ok.1 (order_none s t q)
        (λ f at d. absurd (none-some _ (sym (ap (λ (x : List Slot). first_difference (slice_index_or x t.selected unused) (slot t t.selected)) same ∙ first_self (slot t t.selected)) ∙ d)))
        (ap (λ (x : Option ℕ). next_for s t (unwrap_or x t.selected)) (sym q) ∙ h)
    by (Some k) q =
        let r = smallest_some (differs s t) 0 10 k q in
        let o = order_some s t k q in
        next_step s t e k o.0 (omega arith) o.1
        (λ f at d. subst (λ (i : ℕ). first_difference (slot s i) (slot t i) ≡ Some f → Step s t (setting (slot t i) f)) at
        (λ d. set_step s t f (first_some (slot s s.selected) (slot t s.selected) f d) (q ∙ ap Some (sym at))) d)
        (ap (λ (x : Option ℕ). next_for s t (unwrap_or x t.selected)) (sym q) ∙ h)

next_self : (s : Slots) → next s s ≡ None
next_self s =
    ap (λ (x : Option ℕ). next_for s s (unwrap_or x s.selected)) (differs_self s)
    ∙ cond-true (s.selected == s.selected) _ _ (eq-eqb _ _ refl) ∙ ap (option_map (setting (slot s s.selected))) (first_self (slot s s.selected))

-- where there is no next event, the states are equal
done : (s t : Slots) → next s t ≡ None → s ≡ t
done s t h = by (smallest (differs s t) 0 10) refl
  where
    selected : (i : ℕ) → next_for s t i ≡ None → s.selected ≡ i
    selected i h = ⊎_elim (eqb-true s.selected i) (λ n. absurd (none-some _ (sym h ∙ cond-false (s.selected == i) _ _ n))) (cases_Bool (s.selected == i))

    by : (o : Option ℕ) → smallest (differs s t) 0 10 ≡ o → s ≡ t
    by None q = same_slots s t (none_differs s t q) (selected t.selected (ap (λ (x : Option ℕ). next_for s t (unwrap_or x t.selected)) (sym q) ∙ h))
    by (Some k) q =
        let here : next_for s t k ≡ None = ap (λ (x : Option ℕ). next_for s t (unwrap_or x t.selected)) (sym q) ∙ h in
        let d = differ_first (slot s k) (slot t k) (smallest_some (differs s t) 0 10 k q).2 in
        absurd (none-some _ (sym (mapped_none (setting (slot t k)) (first_difference (slot s k) (slot t k)) (sym (cond-true (s.selected == k) _ _ (eq-eqb _ _ (selected k here))) ∙ here)) ∙ d.1))

-- ---- law 1

other_type : (e : Event) → (e.kind ≢ 3) → subject e ≡ None
other_type e n = cond-false (e.kind == 3) _ _ (ne_eqb _ _ n)

other_code : (e : Event) → (e.code ≢ 47) → field_of e.code ≡ None → subject e ≡ None
other_code e n f = ⊎_elim
    (λ k. cond-true (e.kind == 3) _ _ k ∙ cond-false (e.code == 47) _ _ (ne_eqb _ _ n) ∙ ap (option_map OfField) f)
    (λ k. cond-false (e.kind == 3) _ _ k) (cases_Bool (e.kind == 3))

no_field : (c : ℕ) → (c ≢ 57) → (c ≢ 53) → (c ≢ 54) → field_of c ≡ None
no_field c p q r = cond-false (c == 57) _ _ (ne_eqb c 57 p) ∙ cond-false (c == 53) _ _ (ne_eqb c 53 q) ∙ cond-false (c == 54) _ _ (ne_eqb c 54 r)

outside : (s : Slots) (e : Event) → (address e < 196655) ⊎ (196671 < address e) → verdict s e ≡ Stranger
outside s e w = ap (λ (o : Option Subject). verdict_on s o e.value) (⊎_elim
    (λ k. other_code e (off 47 k (lit≤ tt) (lit≤ tt)) (no_field e.code (off 57 k (lit≤ tt) (lit≤ tt)) (off 53 k (lit≤ tt) (lit≤ tt)) (off 54 k (lit≤ tt) (lit≤ tt))))
    (other_type e) (cases_eq e.kind 3))
  where
    off : (c : ℕ) → e.kind ≡ 3 → 47 ≤ c → c ≤ 63 → e.code ≢ c
    off c k l u h = ⊎_elim (λ a. omega arith) (λ a. omega arith) w

-- ---- law 2

chosen_moves : (v : ℤ) (old : ℕ) → is_slot v ≡ true → same_value (pos old) v ≡ false → chosen v old ≢ old
chosen_moves (negsuc n) old w o e = false≢true w
chosen_moves (pos n) old w o e = true≢false (sym (true_same (pos old) (pos n) (ap pos (sym (sym (cond-true (is_slot (pos n)) n old w) ∙ e)))) ∙ o)

chosen_stays : (v : ℤ) (old : ℕ) → (judged (is_slot v) (pos old) v ≢ Change) → chosen v old ≡ old
chosen_stays (negsuc n) old h = refl
chosen_stays (pos n) old h = ⊎_elim
    (λ w. cond-true (is_slot (pos n)) n old w ∙ ⊎_elim (λ y. sym (ap unsigned_abs (same_true (pos old) (pos n) y))) (λ o. absurd (h (change_judged _ (pos old) (pos n) w o))) (cases_Bool (same_value (pos old) (pos n))))
    (λ o. cond-false (is_slot (pos n)) n old o) (cases_Bool (is_slot (pos n)))

written_stays : (f : Field) (v old : ℤ) → (judged (legal f v) old v ≢ Change) → written f v old ≡ old
written_stays f v old h = ⊎_elim
    (λ w. cond-true (legal f v) v old w ∙ ⊎_elim (λ y. sym (same_true old v y)) (λ o. absurd (h (change_judged _ old v w o))) (cases_Bool (same_value old v)))
    (λ o. cond-false (legal f v) v old o) (cases_Bool (legal f v))

set_moves : (s : Slots) (o : Option Subject) (v : ℤ) → verdict_on s o v ≡ Change → set_to s o v ≢ s
set_moves s None v h e = cc
set_moves s (Some Selection) v h e =
    let w = judged_change (is_slot v) (pos s.selected) v h in
    chosen_moves v s.selected w.0 w.1 (ap (λ (x : Slots). x.selected) e)
set_moves s (Some (OfField f)) v h e =
    let i = s.selected in
    let a = slot s i in
    let j = judged_change (legal f v) (get a f) v h in
    let kept : put a f v ≡ a = sym (get_or-set_same s.slots i (put a f v) unused (within_ten s i s.ok.1)) ∙ ap (λ (x : Slots). slot x i) e in
    true≢false (sym (true_same (get a f) v (sym (ap (λ (x : Slot). get x f) kept) ∙ get_put a f v j.0)) ∙ j.1)

set_stays : (s : Slots) (o : Option Subject) (v : ℤ) → (verdict_on s o v ≢ Change) → set_to s o v ≡ s
set_stays s None v h = refl
set_stays s (Some Selection) v h = same_slots _ _ refl (chosen_stays v s.selected h)
set_stays s (Some (OfField f)) v h =
    let i = s.selected in
    let a = slot s i in
    same_slots _ _ (ap (set s.slots i) (put_same a f v (written_stays f v (get a f) h)) ∙ set-get_or s.slots i unused) refl

moves : (s : Slots) (e : Event) → verdict s e ≡ Change → taken s e ≢ s
moves s e = set_moves s (subject e) e.value

stays : (s : Slots) (e : Event) → (verdict s e ≢ Change) → taken s e ≡ s
stays s e = set_stays s (subject e) e.value

-- ---- the laws

pub slots_laws : Laws slots
unfolding Step
slots_laws = record {
  low = lit≤ tt;
  ordered = lit≤ tt;
  below = λ s e h. outside s e (inl h);
  above = λ s e h. outside s e (inr h);
  moves = moves;
  stays = stays;
  apart = apart;
  together = together;
  done = λ s t h. ap (λ (x : Slots). distance x t) (done s t h) ∙ together t;
  none = λ s t z. ap (λ (x : Slots). next x t) (apart s t z) ∙ next_self t;
  changes = λ s t e h. (step s t e h).0;
  nearer = λ s t e h. (step s t e h).1;
}
