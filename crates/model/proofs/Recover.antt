-- (c): after a loss mark, how many reads it takes.
use Rattle.std.proofs.Common.{◌≡◌, ℕ, zero, suc, ◌+◌, ◌<◌, Bool, true, false, eqb, List, [], ◌∷◌, ◌++◌, length, replicate, Some, None, Option, sym, refl, ap, ◌∙◌, subst, arith}
use mathlib.Core.Path.{subst⁻¹}
use Rattle.std.specs.List.{AllByRecursion as Each}
use Rattle.std.proofs.lemmas.Grind.{common_steps}
use Rattle.std.proofs.lemmas.Bool.{both_ways, ne_eqb, true≢false, false≢true, cond-false}
use Rattle.events.specs.Items.{address}
use Rattle.events.specs.declared.items.Event.{Event}
use Rattle.events.specs.declared.items.Item.{Item}
use Rattle.parts.specs.declared.Verdict.TheVariants.{Stranger, Change}
use Rattle.model.specs.declared.Phase.{Phase}
use Rattle.model.specs.declared.Phase.TheVariants.{NotOpen, InStep, Lost, Due, CatchingUp}
use Rattle.parts.specs.Meaning.{Meaning, Laws}
use Rattle.events.specs.Items.{item, report_end, is_report_end, is_loss_mark}
use Rattle.model.specs.Core.{Core, Met, Seat, met, some_end, seat_at, waiting, barred, is_open, is_free, with_seats, here, Client}
use Rattle.model.specs.Calls.{for_client}
use Rattle.model.specs.Reads.{read_call, look, looked, moved, bound_for}
use Rattle.model.specs.Runs.{World, Out, step, on_client, Turn, Run, put_client}
use Rattle.model.specs.declared.Call.{Call}
use Rattle.model.specs.declared.Call.TheVariants.{Read as reading}
use Rattle.model.specs.Runs.Run.{rest, turn, elsewhere}
use Rattle.model.specs.Core.Seat.{free, taken_by}
use Rattle.model.specs.Answers.{Answered, refused, skipped, caught_up}
use Rattle.model.specs.Log.{logged}
use Rattle.model.specs.Heard.{CaughtEnd, calls, answers}
use Rattle.model.specs.Promises.{up_to_end, Recovers}

-- an event that is no stranger ends no report
module _ {S : Type 0} (P : Meaning S) (L : Laws P) where
  pub end_strange : (s : S) (x : Item) → is_report_end x ≡ true → P.verdict s x.event ≡ Stranger
  end_strange s x h =
      let z : address x.event < 65536 = grind (arith, common_steps) in
      L.below s x.event (omega (arith, L.low, z))

  pub end_leaves : (s : S) (x : Item) → is_report_end x ≡ true → P.taken s x.event ≡ s
  end_leaves s x h = L.stays s x.event (λ e. let v = end_strange s x h in cc)

  pub logged_no_end : (s : S) (x : Item) → logged (P.verdict s x.event) ≡ true → is_report_end x ≡ false
  logged_no_end s x h = let e = end_strange s x in grind (arith, common_steps, e)

  pub change_no_end : (s : S) (x : Item) → P.verdict s x.event ≡ Change → is_report_end x ≡ false
  change_no_end s x h = let e = end_strange s x in grind (arith, common_steps, e)

-- the reads of one client, by its ring and itself
module _ {S : Type 0} (P : Meaning S) where
  abbrev pub looks : Core S → List Item → Client S → ℕ → List Answered
  looks k q c zero = []
  looks k q c (suc n) =
      let g = look P k q c c.phase in
      g.answer ∷ looks k g.ring g.client n

abbrev pub Reaches : List Answered → ℕ → Type 0
Reaches ans n = (before : List Answered) × (a : Answered) × (ans ≡ before ++ a ∷ []) × CaughtEnd n a × Each (λ b. (m : ℕ) → CaughtEnd m b → ⊥) before

reach_more : (b : Answered) (ans : List Answered) (n : ℕ) → ((m : ℕ) → CaughtEnd m b → ⊥) → Reaches ans n → Reaches (b ∷ ans) n
reach_more b ans n h r = (b ∷ r.0, r.1, ap (λ (t : List Answered). b ∷ t) r.2, r.3, (h, r.4))

skipped_no_end : (x : Item) (m : ℕ) → CaughtEnd m (skipped x) → ⊥
skipped_no_end x m c = cc

event_no_end : (x : Item) → is_report_end x ≡ false → (m : ℕ) → CaughtEnd m (caught_up x) → ⊥
event_no_end x h m c = grind (arith, common_steps)

module _ {S : Type 0} (P : Meaning S) (L : Laws P) (k : Core S) where
  catch_reaches : (n t d : ℕ) (q : List Item) (c : Client S) (s : S) → P.distance s c.target ≡ d → Reaches (looks P k q (moved c (CatchingUp n t) s) (suc d)) n
  catch_reaches n t zero q c s h = rw (L.none s c.target h) ([], caught_up (item report_end t n), refl, (item report_end t n, refl, refl, refl), tt)
  catch_reaches n t (suc d) q c s h = go (P.next s c.target) refl (λ s' h'. catch_reaches n t d q c s' h')
    where
      go : (o : Option Event) → P.next s c.target ≡ o → ((s' : S) → P.distance s' c.target ≡ d → Reaches (looks P k q (moved c (CatchingUp n t) s') (suc d)) n)
          → Reaches (looks P k q (moved c (CatchingUp n t) s) (suc (suc d))) n
      go None e ih = let z = L.done s c.target e in absurd (omega arith)
      go (Some e) p ih = rw p
          (reach_more (caught_up (item e t n)) (looks P k q (moved c (CatchingUp n t) (P.taken s e)) (suc d)) n
          (event_no_end (item e t n) (change_no_end P L s (item e t n) (L.changes s c.target e p)))
          (ih (P.taken s e) (let z = L.nearer s c.target e p in omega arith)))

  due_reaches : (q : List Item) (c : Client S) (s : S) (d : ℕ) → k.reporting ≡ false → barred k.holder c.seat ≡ false → P.distance s k.state ≡ d
      → Reaches (looks P k q (moved c Due s) (suc d)) k.reports
  due_reaches q c s d nb nr h = rw (nb, nr) (catch_reaches k.reports k.time d [] (bound_for (moved c Due s) k) s h)

  lost_reaches : (q : List Item) (c : Client S) (s : S) (d : ℕ) → k.reporting ≡ false → barred k.holder c.seat ≡ false → P.distance s k.state ≡ d
      → some_end q ≡ true → Reaches (looks P k q (moved c Lost s) (up_to_end q + suc d)) k.reports
  lost_reaches [] c s d nb nr h r = absurd (false≢true r)
  lost_reaches (x ∷ q) c s d nb nr h r = go (is_report_end x) refl (λ r'. lost_reaches q c s d nb nr h r')
    where
      go : (b : Bool) → is_report_end x ≡ b → (some_end q ≡ true → Reaches (looks P k q (moved c Lost s) (up_to_end q + suc d)) k.reports)
          → Reaches (looks P k (x ∷ q) (moved c Lost s) (up_to_end (x ∷ q) + suc d)) k.reports
      go true e ih =
          let n : up_to_end (x ∷ q) + suc d ≡ suc (suc d) = rw e (omega arith) in
          rw (n, e, e)
          (reach_more (skipped x) (looks P k q (moved c Due s) (suc d)) k.reports (skipped_no_end x) (due_reaches q c s d nb nr h))
      go false e ih =
          let n : up_to_end (x ∷ q) + suc d ≡ suc (up_to_end q + suc d) = rw e (omega arith) in
          let r' : some_end q ≡ true = rw e at r in
          rw (n, e, r', e)
          (reach_more (skipped x) (looks P k q (moved c Lost s) (up_to_end q + suc d)) k.reports (skipped_no_end x) (ih r'))

-- what a read at the world sees
module _ {S : Type 0} (P : Meaning S) where
  pub record Sight (w : World S) (i : ℕ) (capacity : ℕ) (q : List Item) : Type 0 where
    pub sound : P.sound ≡ true
    pub open' : is_open (w.clients i).phase ≡ true
    pub device : eqb (w.clients i).device w.core.device ≡ true
    pub seat : seat_at w.core.seats (w.clients i).seat ≡ taken_by capacity q

  pub read_is : (w : World S) (i capacity : ℕ) (q : List Item) → Sight w i capacity q
      → read_call P w.core (w.clients i) ≡ looked P w.core (w.clients i) (look P w.core q (w.clients i) (w.clients i).phase)
  unfolding read_call
  read_is w i capacity q h = rw (h.sound, h.open', h.device, h.seat)

  pub taken_seat : (s : Seat) → is_free s ≡ false → (capacity : ℕ) × (q : List Item) × (s ≡ taken_by capacity q)
  taken_seat free h = absurd (true≢false h)
  taken_seat (taken_by capacity q) h = (capacity, q, refl)

  -- an answer that is no refusal shows what the read saw
  pub sight_of : (w : World S) (i : ℕ) (o : Met S) → ((n : ℕ) → (for_client P (λ n. met w.core (w.clients i) (refused n)) w.core (w.clients i) o).answer ≡ refused n → ⊥)
      → (capacity : ℕ) × (q : List Item) × Sight w i capacity q
  sight_of w i o h =
      let k = w.core in
      let c = w.clients i in
      let fr : is_free (seat_at k.seats c.seat) ≡ false = grind (arith, common_steps, h 5, h 23, h 24) in
      let t = taken_seat (seat_at k.seats c.seat) fr in
      (t.0, t.1, record { sound = grind (arith, h 5); open' = grind (arith, h 23); device = grind (arith, h 24); seat = t.2 })

  pub put_client_same : (f : ℕ → Client S) (i : ℕ) (c : Client S) → put_client f i c i ≡ c
  put_client_same f i c = grind arith

  -- a seat that is taken is one of the seats
  pub in_range : (seats : List Seat) (k capacity : ℕ) (q : List Item) → seat_at seats k ≡ taken_by capacity q → k < length seats
  in_range seats k capacity q h = grind (arith, common_steps)

  -- a read keeps the client where it sits
  pub record Kept (c c' : Client S) : Type 0 where
    pub device : c'.device ≡ c.device
    pub seat : c'.seat ≡ c.seat
    pub open' : is_open c.phase ≡ true → is_open c'.phase ≡ true

  pub kept_look : (k : Core S) (q : List Item) (c : Client S) (p : Phase) → Kept c (look P k q c p).client
  kept_look k q c p = record { device = grind (arith, common_steps); seat = grind (arith, common_steps); open' = λ h. grind (arith, common_steps) }

  look_seats : (k : Core S) (ss : List Seat) (q : List Item) (c : Client S) (p : Phase) → look P (with_seats k ss) q c p ≡ look P k q c p
  look_seats k ss q c p = grind arith

  looks_seats : (k : Core S) (ss : List Seat) (q : List Item) (c : Client S) (n : ℕ) → looks P (with_seats k ss) q c n ≡ looks P k q c n
  looks_seats k ss q c zero = refl
  looks_seats k ss q c (suc n) =
      let e = look_seats k ss q c c.phase in
      let ih = looks_seats k ss (look P k q c c.phase).ring (look P k q c c.phase).client n in
      cc

  sight_next : (w : World S) (i capacity : ℕ) (q : List Item) → Sight w i capacity q
      → Sight (on_client w i (looked P w.core (w.clients i) (look P w.core q (w.clients i) (w.clients i).phase))).world i capacity (look P w.core q (w.clients i) (w.clients i).phase).ring
  sight_next w i capacity q h =
      let g = look P w.core q (w.clients i) (w.clients i).phase in
      let k = kept_look w.core q (w.clients i) (w.clients i).phase in
      let e = put_client_same w.clients i g.client in
      let r = in_range w.core.seats (w.clients i).seat capacity q h.seat in
      let o = k.open' h.open' in
      record { sound = h.sound; open' = grind (arith, common_steps); device = grind (arith, common_steps); seat = grind (arith, common_steps) }

  here_of : (w : World S) (i capacity : ℕ) (q : List Item) → Sight w i capacity q → here w.core.device (w.clients i) ≡ true
  here_of w i capacity q h = grind arith

  -- only this client's reads are called: the answers are those of its ring and itself
  pub answers_are : (n : ℕ) {w v : World S} {ts : List Turn} (i capacity : ℕ) (q : List Item) → Sight w i capacity q → Run P w ts v → calls ts ≡ replicate n (reading i)
      → answers ts ≡ looks P w.core q (w.clients i) n
  answers_are zero i capacity q h rest e = refl
  answers_are (suc n) i capacity q h rest e = cc
  answers_are zero i capacity q h (turn c r) e = cc
  answers_are (suc n) i capacity q h (turn {w = w} {ts = ts} c r) e =
      let e₀ : c ≡ reading i = cc in
      let e₁ : calls ts ≡ replicate n (reading i) = cc in
      let g = look P w.core q (w.clients i) (w.clients i).phase in
      let eq : step P w c ≡ on_client w i (looked P w.core (w.clients i) g) = ap (λ (c : Call). step P w c) e₀ ∙ unfold step in ap (λ (m : Met S). on_client w i m) (read_is w i capacity q h) in
      let h' = subst⁻¹ (λ (o : Out S). Sight o.world i capacity g.ring) eq (sight_next w i capacity q h) in
      let ih = answers_are n i capacity g.ring h' r e₁ in
      let w' = (on_client w i (looked P w.core (w.clients i) g)).world in
      let ih' = subst (λ (o : Out S). answers ts ≡ looks P o.world.core g.ring (o.world.clients i) n) eq ih in
      let pc = put_client_same w.clients i g.client in
      let tail = ih' ∙ looks_seats w.core w'.core.seats g.ring (w'.clients i) n ∙ ap (λ (c : Client S). looks P w.core g.ring c n) pc in
      λ k. (eq k).answer ∷ tail k
  answers_are n i capacity q h (elsewhere {w = w} j c nj nc r) e =
      let ne : eqb j i ≡ false = ne_eqb j i (λ p. both_ways (here w.core.device (w.clients i)) (subst (λ (m : ℕ). here w.core.device (w.clients m) ≡ false) p nj) (here_of w i capacity q h)) in
      let pc : put_client w.clients j c i ≡ w.clients i = cond-false (eqb j i) c (w.clients i) ne in
      let h' : Sight (record { core = w.core; clients = put_client w.clients j c }) i capacity q = record { sound = h.sound; open' = rw pc h.open'; device = rw pc h.device; seat = rw pc h.seat } in
      answers_are n i capacity q h' r e ∙ ap (λ (c : Client S). looks P w.core q c n) pc

-- a mark ends no report
mark_no_end : (x : Item) → is_loss_mark x ≡ true → is_report_end x ≡ false
mark_no_end x h = grind (arith, common_steps)

module _ {S : Type 0} (P : Meaning S) (L : Laws P) (k : Core S) (nb : k.reporting ≡ false) where
  first_reaches : (p : Phase) (q : List Item) (c : Client S) (s : S) (d : ℕ) (x : Item) → barred k.holder c.seat ≡ false → P.distance s k.state ≡ d
      → (look P k q (moved c p s) p).answer ≡ skipped x → is_loss_mark x ≡ true → Reaches (looks P k q (moved c p s) (up_to_end q + suc d)) k.reports
  first_reaches NotOpen q c s d x nr h e m = cc
  first_reaches InStep [] c s d x nr h e m = cc
  first_reaches InStep (y ∷ r) c s d x nr h e m =
      let t : some_end (y ∷ r) ≡ true = grind (arith, common_steps) in
      let f : is_loss_mark y ≡ true = grind (arith, common_steps) in
      let u = mark_no_end y f in
      let n : up_to_end (y ∷ r) + suc d ≡ suc (up_to_end r + suc d) = rw u (omega arith) in
      let t' : some_end r ≡ true = rw u at t in
      rw (n, t, f) (reach_more (skipped y) (looks P k r (moved c Lost s) (up_to_end r + suc d)) k.reports (skipped_no_end y) (lost_reaches P L k r c s d nb nr h t'))
  first_reaches Lost [] c s d x nr h e m = cc
  first_reaches Lost (y ∷ r) c s d x nr h e m =
      let t : some_end (y ∷ r) ≡ true = grind (arith, common_steps) in
      lost_reaches P L k (y ∷ r) c s d nb nr h t
  first_reaches Due q c s d x nr h e m = grind (arith, common_steps)
  first_reaches (CatchingUp n t) q c s d x nr h e m = grind (arith, common_steps)

pub recovers : {S : Type 0} (P : Meaning S) → (P.sound ≡ true → Laws P) → (w : World S) (i : ℕ)
    → Recovers P w i
unfolding step read_call
recovers P laws w i loss nb nr ts v run cs =
    let c = w.clients i in
    let o = looked P w.core c (look P w.core (waiting (seat_at w.core.seats c.seat)) c c.phase) in
    let s = sight_of P w i o (λ n r. cc) in
    let q = s.1 in
    let d = P.distance c.state w.core.state in
    let e : (look P w.core q c c.phase).answer ≡ skipped loss.0 = (let r = ap (λ (o : Met _). o.answer) (read_is P w i s.0 q s.2) in sym r ∙ loss.1) in
    let r = first_reaches P (laws s.2.sound) w.core nb c.phase q c c.state d loss.0 nr refl e loss.2 in
    let n : up_to_end q + d + 1 ≡ up_to_end q + suc d = omega arith in
    let cs' : calls ts ≡ replicate (up_to_end q + suc d) (reading i) = subst (λ (m : ℕ). calls ts ≡ replicate m (reading i)) n (rw s.2.seat at cs) in
    let an = answers_are P (up_to_end q + suc d) i s.0 q s.2 run cs' in
    (r.0, r.1, w.core.reports, an ∙ r.2, r.3, r.4)
