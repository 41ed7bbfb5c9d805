-- Laws of the words of the slots.
use Rattle.std.proofs.Common.{◌≡◌, ℕ, zero, suc, ◌+◌, ◌-◌, ◌^◌, ◌<◌, ◌≤◌, true, false, cond, leb, ◌⊎◌, List, [], ◌∷◌, ◌++◌, ℤ, pos, negsuc, Some, None, decimal, Option, sym, refl, ap, ◌∙◌, subst, ap₂, inl, inr, ⊎_elim, append_assoc, append-nil, add-one, arith}
use Rattle.std.specs.Fmt.{signed_decimal}
use Rattle.std.proofs.lemmas.List.{append_cancel_left, get_or_past}
use Rattle.std.proofs.lemmas.Bool.{cases_lt, cases_eq, leb-true, and_parts, false≢true}
use Rattle.std.proofs.lemmas.Fmt.{decimal_injective}
use Rattle.events.specs.Items.{same_value}
use Rattle.slots.specs.declared.Slot.{Slot}
use Rattle.slots.specs.declared.Slots.{Slots}
use Rattle.slots.specs.Ranges.{within}
use Rattle.slots.specs.SlotsPart.{slot, finger, unused}
use Rattle.slots.specs.SlotWords.{finger_word, slot_word, words_from, FingersApart}
use Rattle.codes.proofs.DigitLaws.{Stops, digits, split}

-- ---- one slot after another

-- slot i is written, or has no finger
pub word_on : (f : ℕ → Option (ℤ × ℤ)) (i : ℕ) (done word whole : List ℕ) → i < 10 → word ≡ slot_word i (f i) → done ++ words_from f i (10 - i) ≡ whole
    → (done ++ word) ++ words_from f (i + 1) (10 - (i + 1)) ≡ whole
unfolding words_from
word_on f i done word whole l w e =
    let one : 10 - i ≡ suc (10 - (i + 1)) = omega arith in
    append_assoc done word _
    ∙ ap₂ (λ (a : List ℕ) (j : ℕ). done ++ (a ++ words_from f j (10 - (i + 1)))) w (add-one i)
    ∙ ap (λ (n : ℕ). done ++ words_from f i n) (sym one) ∙ e

-- no slot is left
pub words_end : (f : ℕ → Option (ℤ × ℤ)) (i : ℕ) (done whole : List ℕ) → 10 ≤ i → done ++ words_from f i (10 - i) ≡ whole → done ≡ whole
unfolding words_from
words_end f i done whole l e =
    let none : 10 - i ≡ 0 = omega arith in
    sym (append-nil done) ∙ ap (λ (n : ℕ). done ++ words_from f i n) (sym none) ∙ e

-- ---- a place within the panel

-- a number of at most 16 bits, not below zero
Within : ℤ → Type 0
Within v = (n : ℕ) × (v ≡ pos n) × (n ≤ 65535)

within_panel : (v : ℤ) → within (pos 0) (pos 65535) v ≡ true → Within v
unfolding Within
within_panel (pos n) h = (n, refl, leb-true n 65535 (and_parts (leb 0 n) (leb n 65535) h).1)
within_panel (negsuc n) h = absurd (false≢true h)

Placed : Option (ℤ × ℤ) → Type 0
Placed None = Unit {0}
Placed (Some p) = Within p.0 × Within p.1

placed : (s : Slots) (i : ℕ) → Placed (finger s i)
unfolding Placed
placed s i = elim (same_value (slot s i).id (negsuc 0)) as (λ b. Placed (cond b None (Some ((slot s i).x, (slot s i).y)))) [
  | true ↦ tt
  | false ↦ (within_panel (slot s i).x (slot s i).ok.1, within_panel (slot s i).y (slot s i).ok.2)
]

-- ---- the words say the fingers

-- a finger's word in front of others
joined : (i : ℕ) (x y : ℤ) (ws : List ℕ) → finger_word i x y ++ ws ≡ 32 ∷ (83 ∷ (decimal i ++ (58 ∷ (signed_decimal x ++ (44 ∷ (signed_decimal y ++ ws))))))
joined i x y ws = ap (λ (l : List ℕ). 32 ∷ (83 ∷ l))
    (append_assoc (decimal i) (58 ∷ (signed_decimal x ++ (44 ∷ signed_decimal y))) ws ∙ ap (λ (l : List ℕ). decimal i ++ (58 ∷ l)) (append_assoc (signed_decimal x) (44 ∷ signed_decimal y) ws))

-- the words end, or begin with a slot that is among those written
Begins : List ℕ → ℕ → ℕ → Type 0
Begins ws i n = (ws ≡ []) ⊎ ((j : ℕ) × (more : List ℕ) × (i ≤ j) × (j < i + n) × (ws ≡ 32 ∷ (83 ∷ (decimal j ++ (58 ∷ more)))))

begins : (f : ℕ → Option (ℤ × ℤ)) (i n : ℕ) → Begins (words_from f i n) i n
unfolding words_from Begins
begins f i zero = inl refl
begins f i (suc n) = by (f i) (begins f (suc i) n)
  where
    by : (o : Option (ℤ × ℤ)) → Begins (words_from f (suc i) n) (suc i) n → Begins (slot_word i o ++ words_from f (suc i) n) i (suc n)
    by None again = ⊎_elim inl (λ h. inr (h.0, h.1, omega arith, omega arith, h.4)) again
    by (Some p) again = inr (
      i,
      signed_decimal p.0 ++ (44 ∷ (signed_decimal p.1 ++ words_from f (suc i) n)),
      omega arith,
      omega arith,
      joined i p.0 p.1 (words_from f (suc i) n),
    )

-- words that begin with a later slot are none of slot i
none_before : (i n : ℕ) (ws more : List ℕ) → i + suc n ≤ 10 → Begins ws (suc i) n → ws ≡ 32 ∷ (83 ∷ (decimal i ++ (58 ∷ more))) → ⊥
unfolding Begins
none_before i n ws more l (inl none) e = cc
none_before i n ws more l (inr h) e =
    let t : decimal h.0 ++ (58 ∷ h.1) ≡ decimal i ++ (58 ∷ more) = cc h.4 in
    let same = split (decimal h.0) (decimal i) (58 ∷ h.1) (58 ∷ more) (digits h.0 (omega arith)) (digits i (omega arith)) (λ d. omega arith) (λ d. omega arith) t in
    let j : h.0 ≡ i = decimal_injective h.0 i (omega arith) (omega arith) same.0 in
    omega (arith, h.2)

stop : (ws : List ℕ) (i n : ℕ) → Begins ws i n → Stops ws
unfolding Begins
stop ws i n (inl e) = subst Stops (sym e) tt
stop ws i n (inr h) = subst Stops (sym h.4) (λ d. omega arith)

-- two numbers in front of what is no digit
same_number : (u v : ℤ) (r s : List ℕ) → Within u → Within v → Stops r → Stops s → signed_decimal u ++ r ≡ signed_decimal v ++ s → (u ≡ v) × (r ≡ s)
unfolding Within
same_number u v r s a b p q e =
    let t : decimal a.0 ++ r ≡ decimal b.0 ++ s = ap (λ (z : ℤ). signed_decimal z ++ r) (sym a.1) ∙ e ∙ ap (λ (z : ℤ). signed_decimal z ++ s) b.1 in
    let x : a.0 < 2 ^ 64 = omega (arith, a.2) in
    let y : b.0 < 2 ^ 64 = omega (arith, b.2) in
    let same = split (decimal a.0) (decimal b.0) r s (digits a.0 x) (digits b.0 y) p q t in
    (a.1 ∙ ap pos (decimal_injective a.0 b.0 x y same.0) ∙ sym b.1, same.1)

same_first : (i n : ℕ) (o p : Option (ℤ × ℤ)) (v w : List ℕ) → Placed o → Placed p → Begins v (suc i) n → Begins w (suc i) n → i + suc n ≤ 10
    → slot_word i o ++ v ≡ slot_word i p ++ w → (o ≡ p) × (v ≡ w)
unfolding Placed
same_first i n None None v w a b bv bw l e = (refl, e)
same_first i n None (Some q) v w a b bv bw l e = absurd (none_before i n v _ l bv (e ∙ joined i q.0 q.1 w))
same_first i n (Some q) None v w a b bv bw l e = absurd (none_before i n w _ l bw (sym e ∙ joined i q.0 q.1 v))
same_first i n (Some o) (Some p) v w a b bv bw l e =
    let whole = sym (joined i o.0 o.1 v) ∙ e ∙ joined i p.0 p.1 w in
    let t : decimal i ++ (58 ∷ (signed_decimal o.0 ++ (44 ∷ (signed_decimal o.1 ++ v)))) ≡ decimal i ++ (58 ∷ (signed_decimal p.0 ++ (44 ∷ (signed_decimal p.1 ++ w)))) = cc in
    let colon = append_cancel_left (decimal i) _ _ t in
    let u : signed_decimal o.0 ++ (44 ∷ (signed_decimal o.1 ++ v)) ≡ signed_decimal p.0 ++ (44 ∷ (signed_decimal p.1 ++ w)) = cc in
    let x = same_number o.0 p.0 _ _ a.0 b.0 (λ d. omega arith) (λ d. omega arith) u in
    let comma = x.1 in
    let r : signed_decimal o.1 ++ v ≡ signed_decimal p.1 ++ w = cc in
    let y = same_number o.1 p.1 v w a.1 b.1 (stop v (suc i) n bv) (stop w (suc i) n bw) r in
    (ap₂ (λ (k m : ℤ). Some (k, m)) x.0 y.0, y.1)

same_fingers : (f g : ℕ → Option (ℤ × ℤ)) → ((j : ℕ) → Placed (f j)) → ((j : ℕ) → Placed (g j)) → (i n : ℕ) → i + n ≤ 10
    → words_from f i n ≡ words_from g i n → (j : ℕ) → i ≤ j → j < i + n → f j ≡ g j
unfolding words_from
same_fingers f g p q i zero h e j l u = absurd (omega arith)
same_fingers f g p q i (suc n) h e j l u =
    let first = same_first i n (f i) (g i) (words_from f (suc i) n) (words_from g (suc i) n) (p i) (q i) (begins f (suc i) n) (begins g (suc i) n) h e in
    ⊎_elim (λ here. ap f (sym here) ∙ first.0 ∙ ap g here)
    (λ ne. same_fingers f g p q (suc i) n (omega arith) first.1 j (omega arith) (omega arith)) (cases_eq i j)

-- there is no finger in a slot past 9
no_slot : (s : Slots) (i : ℕ) → 10 ≤ i → finger s i ≡ None
no_slot s i l = ap (λ (a : Slot). cond (same_value a.id (negsuc 0)) None (Some (a.x, a.y))) (get_or_past s.slots i unused (omega (arith, s.ok.0)))

pub fingers_apart : FingersApart
fingers_apart s t e i = ⊎_elim
    (λ l. same_fingers (finger s) (finger t) (placed s) (placed t) 0 10 (omega arith) e i (omega arith) (omega arith))
    (λ g. no_slot s i g ∙ sym (no_slot t i g)) (cases_lt i 10)
