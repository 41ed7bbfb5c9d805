-- A ring by its slots, its head and its length: what a write behind the waiting items and a step of the head leave.
use Rattle.std.proofs.Common.{◌≡◌, ◌≢◌, ℕ, suc, ◌+◌, ◌-◌, ◌<◌, ◌≤◌, Bool, cond, ltb, List, [], ◌∷◌, ◌++◌, length, get_or, take, drop, set, refl, arith, ap, ◌∙◌, length-append, length-drop, length-set, length-take}
use Rattle.std.proofs.lemmas.List.{take-append-le, drop_more, take_more, same_lists}
use Rattle.std.proofs.lemmas.Bool.Decides.{nat_tests}
use Rattle.std.proofs.lemmas.Grind.{common_steps, elements}
use Rattle.ring.specs.Waiting.{turned, waiting_at, readable_of, place_of, closed, none, one, take_of, ValidAt}

pub readable_push : {T : Type 0} (closing : T → Bool) (ws : List T) (x : T) → readable_of closing (ws ++ (x ∷ [])) ≡ cond (closing x) (length ws + 1) (readable_of closing ws)
readable_push closing [] x = refl
readable_push closing (w ∷ ws) x = let ih = readable_push closing ws x in grind (arith, nat_tests)

pub readable_drop : {T : Type 0} (closing : T → Bool) (ws : List T) → readable_of closing (drop 1 ws) ≡ readable_of closing ws - 1
readable_drop closing [] = refl
readable_drop closing (w ∷ ws) = grind (arith, nat_tests)

pub readable_le : {T : Type 0} (closing : T → Bool) (ws : List T) → readable_of closing ws ≤ length ws
readable_le closing [] = omega arith
readable_le closing (w ∷ ws) = let ih = readable_le closing ws in grind (arith, nat_tests)

pub closed_readable : {T : Type 0} (closing : T → Bool) (ws : List T) → closed closing ws ≡ ltb 0 (readable_of closing ws)
closed_readable closing [] = refl
closed_readable closing (w ∷ ws) = let ih = closed_readable closing ws in grind (arith, nat_tests)

-- a take where nothing is readable
nothing : {T : Type 0} (closing : T → Bool) (ws : List T) → readable_of closing ws ≡ 0 → take_of closing ws ≡ none
nothing closing [] h = refl
nothing closing (x ∷ ws) h = let c = closed_readable closing (x ∷ ws) in grind (arith, nat_tests)

-- and where something is
take_one : {T : Type 0} (closing : T → Bool) (x : T) (ws : List T) → readable_of closing (x ∷ ws) ≢ 0 → take_of closing (x ∷ ws) ≡ one x ws
take_one closing x ws some = let c = closed_readable closing (x ∷ ws) in grind (arith, nat_tests)

module _ {T : Type 0} (slots : List T) (head : ℕ) (inside : head < length slots) where
  pub length_waiting : (len : ℕ) → len ≤ length slots → length (waiting_at slots head len) ≡ len
  length_waiting len h = grind (arith, common_steps)

  -- a write behind the waiting items
  pub waiting_put : (len at : ℕ) (x : T) → len < length slots → at ≡ place_of (length slots) head len → waiting_at (set slots at x) head (len + 1) ≡ waiting_at slots head len ++ (x ∷ [])
  waiting_put len at x room there = same_lists _ _ (grind (arith, common_steps)) (λ k d h. grind (arith, nat_tests, elements))

  -- the slots, one step on
  turned_step : (d : T) → turned (place_of (length slots) head 1) slots ≡ (drop (head + 1) slots ++ take head slots) ++ (get_or slots head d ∷ [])
  turned_step d = grind (arith, common_steps, take_more)

  -- the oldest item, and those one step on
  waiting_step : (d : T) (n : ℕ) → n < length slots → waiting_at slots head (suc n) ≡ get_or slots head d ∷ waiting_at slots (place_of (length slots) head 1) n
  waiting_step d n h =
      let first = drop_more slots head d inside in
      let step = turned_step d in
      let left = take-append-le n (drop (head + 1) slots ++ take head slots) (get_or slots head d ∷ []) (simp (length-append, length-take, length-drop) (omega arith)) in
      rw (first, step, left) refl

module _ {T : Type 0} (closing : T → Bool) (slots : List T) (head len ready : ℕ) (s : ValidAt closing slots head len ready) where
  -- a put into a ring that is not full
  module _ (x : T) (room : len < length slots) (at : ℕ) (there : at ≡ place_of (length slots) head len) where
    pub put_valid : (ready' : ℕ) → ready' ≡ cond (closing x) (len + 1) ready → ValidAt closing (set slots at x) head (len + 1) ready'
    put_valid ready' e =
        let n = length_waiting slots head s.2 len s.3 in
        let r = readable_push closing (waiting_at slots head len) x in
        (simp length-set s.0, simp length-set s.1, simp length-set s.2, simp length-set (omega arith), rw (waiting_put slots head s.2 len at x room there) cc)

  pub take_none : ready ≡ 0 → take_of closing (waiting_at slots head len) ≡ none
  take_none h = nothing closing _ (omega (arith, s.4))

  -- a take where something is readable
  module _ (some : ready ≢ 0) (d : T) (at : ℕ) (there : at ≡ place_of (length slots) head 1) where
    waits : waiting_at slots head len ≡ get_or slots head d ∷ waiting_at slots at (len - 1)
    waits =
        let r = readable_le closing (waiting_at slots head len) in
        let n = length_waiting slots head s.2 len s.3 in
        let z : len ≡ suc (len - 1) = omega (arith, s.4) in
        let w = waiting_step slots head s.2 d (len - 1) (omega arith) in
        cc

    pub taken : take_of closing (waiting_at slots head len) ≡ one (get_or slots head d) (waiting_at slots at (len - 1))
    taken = rw waits (take_one closing _ _ (λ e. some (s.4 ∙ ap (readable_of closing) waits ∙ e)))

    pub take_valid : at < length slots → ValidAt closing slots at (len - 1) (ready - 1)
    take_valid h =
        let left = rw waits at (readable_drop closing (waiting_at slots head len)) in
        (s.0, s.1, h, omega (arith, s.3), omega (arith, s.4, ap (readable_of closing) waits))
