-- What holds of a ring over every list of puts and takes.
use Rattle.std.proofs.Common.{◌≡◌, ℕ, zero, suc, ◌+◌, ◌<◌, ◌≤◌, Bool, true, false, cond, ltb, ◌⊎◌, List, [], ◌∷◌, ◌++◌, length, take, drop, sym, refl, ap, ◌∙◌, subst, inl, inr, ⊎_elim, append_assoc, one-add, arith}
use Rattle.std.specs.List.{AllByRecursion as Each}
use Rattle.std.proofs.lemmas.List.{append-nil}
use Rattle.std.proofs.lemmas.Bool.Decides.{nat_tests}
use Rattle.std.proofs.lemmas.Grind.{common_steps}
use Rattle.std.proofs.lemmas.Bool.{cases_Bool, cases_lt, lt-ltb, cond-true, cond-false}
use Rattle.ring.specs.Waiting.{none, one, after_put, take_of, readable_of, closed}
use Rattle.ring.specs.Runs.{Turn, puts, takes, State, fresh, put_in, moved, after_turn, after, NeverFull, InOrder, Overrun, OneMark, ReadableCloses, Runs}

-- the state that holds these lists
abbrev holds : {T : Type 0} → List T → List T → State T
holds ts ws = record { taken = ts; waiting = ws }

module _ {T : Type 0} (closing : T → Bool) (lost : T → T) (capacity : ℕ) where
  put_room : (ws : List T) (x : T) → length ws < capacity → after_put lost capacity ws x ≡ ws ++ (x ∷ [])
  put_room ws x h = grind (arith, nat_tests)

  put_full : (ws : List T) (x : T) → capacity ≤ length ws → after_put lost capacity ws x ≡ lost x ∷ (x ∷ [])
  put_full ws x h = grind (arith, nat_tests)

  -- a take moves an item from one list to the end of the other
  take_keeps : (ts ws : List T) → (moved (holds ts ws) (take_of closing ws)).taken ++ (moved (holds ts ws) (take_of closing ws)).waiting ≡ ts ++ ws
  take_keeps ts [] = refl
  take_keeps ts (x ∷ ws) = grind (arith, common_steps)

  in_order_from : (turns : List (Turn T)) (s : State T) → NeverFull closing lost capacity s turns
      → (after closing lost capacity s turns).taken ++ (after closing lost capacity s turns).waiting ≡ (s.taken ++ s.waiting) ++ put_in turns
  in_order_from [] s calm = sym (append-nil (s.taken ++ s.waiting))
  in_order_from (puts x ∷ turns) s calm =
      in_order_from turns (after_turn closing lost capacity s (puts x)) (λ us vs y e. calm (puts x ∷ us) vs y (ap (λ (l : List (Turn T)). puts x ∷ l) e))
      ∙ (rw (put_room s.waiting x (calm [] turns x refl)) (simp append_assoc))
  in_order_from (takes ∷ turns) s calm =
      in_order_from turns (after_turn closing lost capacity s takes) (λ us vs y e. calm (takes ∷ us) vs y (ap (λ (l : List (Turn T)). takes ∷ l) e))
      ∙ (rw (take_keeps s.taken s.waiting) refl)

  in_order : InOrder closing lost capacity
  in_order turns calm = in_order_from turns fresh calm

  after-++ : (us vs : List (Turn T)) (s : State T) → after closing lost capacity s (us ++ vs) ≡ after closing lost capacity (after closing lost capacity s us) vs
  after-++ [] vs s = refl
  after-++ (u ∷ us) vs s = after-++ us vs (after_turn closing lost capacity s u)

  overrun : Overrun closing lost capacity
  overrun before later x full calm =
      let s = after closing lost capacity fresh before in
      let e : after closing lost capacity fresh (before ++ (puts x ∷ later)) ≡ after closing lost capacity (holds s.taken (lost x ∷ (x ∷ []))) later =
      after-++ before (puts x ∷ later) fresh ∙ ap (λ (ws : List T). after closing lost capacity (holds s.taken ws) later) (put_full s.waiting x full) in
      ap (λ (z : State T). z.taken ++ z.waiting) e
      ∙ in_order_from later (holds s.taken (lost x ∷ (x ∷ []))) calm
      ∙ append_assoc s.taken (lost x ∷ (x ∷ [])) (put_in later)

  -- the items put last wait, perhaps behind a mark
  Kept : List T → List T → Type 0
  Kept all ws =
      (early late : List T) × (early ++ late ≡ all)
      × ((ws ≡ late) ⊎ ((x : T) × (rest : List T) × (late ≡ x ∷ rest) × (ws ≡ lost x ∷ late)))

  kept_put : (all ws : List T) (x : T) → Kept all ws → Kept (all ++ (x ∷ [])) (after_put lost capacity ws x)
  unfolding Kept
  kept_put all ws x (early, late, e, k) = ⊎_elim
      (λ room. let r = put_room ws x room in (
        early,
        late ++ (x ∷ []),
        rw (← append_assoc, e) refl,
        ⊎_elim (λ same. inl (r ∙ (rw same refl))) (λ m. inr (m.0, m.1 ++ (x ∷ []), rw m.2 refl, r ∙ (rw m.3 refl))) k,
      ))
      (λ full. (all, x ∷ [], refl, inr (x, [], refl, put_full ws x full)))
      (cases_lt (length ws) capacity)

  kept_first : (all ws : List T) (y : T) → Kept all (y ∷ ws) → Kept all ws
  unfolding Kept
  kept_first all ws y (early, late, e, inl same) = (early ++ (y ∷ []), ws, append_assoc early (y ∷ []) ws ∙ ap (λ (l : List T). early ++ l) same ∙ e, inl refl)
  kept_first all ws y (early, late, e, inr m) = let same : ws ≡ late = cc m.3 in (early, late, e, inl same)

  kept_take : (all ts ws : List T) → Kept all ws → Kept all (moved (holds ts ws) (take_of closing ws)).waiting
  kept_take all ts [] k = k
  kept_take all ts (y ∷ ws) k = by (closed closing (y ∷ ws))
    where
      by : (b : Bool) → Kept all (moved (holds ts (y ∷ ws)) (cond b (one y ws) none)).waiting
      by true = kept_first all ws y k
      by false = k

  kept_from : (turns : List (Turn T)) (s : State T) (all : List T) → Kept all s.waiting → Kept (all ++ put_in turns) (after closing lost capacity s turns).waiting
  kept_from [] s all k = subst (λ (l : List T). Kept l s.waiting) (sym (append-nil all)) k
  kept_from (puts x ∷ turns) s all k =
      subst (λ (l : List T). Kept l (after closing lost capacity s (puts x ∷ turns)).waiting) (append_assoc all (x ∷ []) (put_in turns))
      (kept_from turns (after_turn closing lost capacity s (puts x)) (all ++ (x ∷ [])) (kept_put all s.waiting x k))
  kept_from (takes ∷ turns) s all k = kept_from turns (after_turn closing lost capacity s takes) all (kept_take all s.taken s.waiting k)

  one_mark : OneMark closing lost capacity
  unfolding Kept
  one_mark turns = kept_from turns fresh [] ([], [], refl, inl refl)

  bounded_put : 2 ≤ capacity → (ws : List T) (x : T) → length (after_put lost capacity ws x) ≤ capacity
  bounded_put two ws x = grind (arith, common_steps)

  bounded_take : (ts ws : List T) → length ws ≤ capacity → length (moved (holds ts ws) (take_of closing ws)).waiting ≤ capacity
  bounded_take ts [] h = h
  bounded_take ts (y ∷ ws) h = grind (arith, common_steps)

  bounded_from : 2 ≤ capacity → (turns : List (Turn T)) (s : State T) → length s.waiting ≤ capacity → length (after closing lost capacity s turns).waiting ≤ capacity
  bounded_from two [] s h = h
  bounded_from two (puts x ∷ turns) s h = bounded_from two turns (after_turn closing lost capacity s (puts x)) (bounded_put two s.waiting x)
  bounded_from two (takes ∷ turns) s h = bounded_from two turns (after_turn closing lost capacity s takes) (bounded_take s.taken s.waiting h)

  -- the first n are those up to the last closing one
  LastCloses : List T → ℕ → Type 0
  LastCloses ws n =
      Each (λ x. closing x ≡ false) (drop n ws)
      × ((n ≡ 0) ⊎ ((front : List T) × (x : T) × (take n ws ≡ front ++ (x ∷ [])) × (closing x ≡ true)))

  one_more : (x : T) (ws : List T) (n : ℕ) → LastCloses ws n → LastCloses (x ∷ ws) (cond (ltb 0 n) (1 + n) (cond (closing x) 1 0))
  unfolding LastCloses
  one_more x ws zero (none_close, k) = ⊎_elim
      (λ e. subst (LastCloses (x ∷ ws)) (sym (cond-true {A = ℕ} (closing x) 1 0 e)) (none_close, inr ([], x, refl, e)))
      (λ e. subst (LastCloses (x ∷ ws)) (sym (cond-false {A = ℕ} (closing x) 1 0 e)) ((e, none_close), inl refl))
      (cases_Bool (closing x))
  one_more x ws (suc n) (none_close, k) =
      let s : cond (ltb 0 (suc n)) (1 + suc n) (cond (closing x) 1 0) ≡ suc (suc n) = cond-true (ltb 0 (suc n)) _ _ (lt-ltb 0 (suc n) (omega arith)) ∙ one-add (suc n) in
      subst (LastCloses (x ∷ ws)) (sym s)
      (none_close, ⊎_elim (λ z. absurd (omega arith)) (λ m. inr (x ∷ m.0, m.1, ap (λ (l : List T). x ∷ l) m.2, m.3)) k)

  readable_closes : ReadableCloses closing lost capacity
  unfolding LastCloses
  readable_closes [] = (tt, inl refl)
  readable_closes (x ∷ ws) = one_more x ws (readable_of closing ws) (readable_closes ws)

  pub run_laws : 2 ≤ capacity → Runs closing lost capacity
  run_laws two =
      record {
        in_order = in_order;
        overrun = overrun;
        one_mark = one_mark;
        bounded = λ turns. bounded_from two turns fresh (omega arith);
        readable_closes = readable_closes;
      }
