-- Every call keeps what is true of the core, the clients and the log.
use Rattle.std.proofs.Common.{◌≡◌, ℕ, suc, ◌<◌, Bool, true, false, cond, not, eqb, List, [], ◌∷◌, ◌++◌, map, length, set, sym, refl, ap, ◌∙◌, subst, inl, inr, append_assoc, append-nil, arith, length-set}
use mathlib.Core.Path.{subst⁻¹, fun_ext}
use lib.ListN.{get_or-map, length-map}
use Rattle.std.proofs.lemmas.List.{get_or-set_same, get_or-set_other}
use Rattle.std.specs.Result.{is_ok}
use Rattle.std.proofs.lemmas.Grind.{common_steps}
use Rattle.std.proofs.lemmas.Bool.{cond_both, both_ways, eqb-true, eqb-false, cases_Bool, eq-eqb, ne_eqb, true≢false, false≢true, cond-true, cond-false, cases_eq}
use Rattle.events.specs.declared.items.Event.{Event}
use Rattle.events.specs.declared.items.Item.{Item}
use Rattle.parts.specs.Meaning.{Meaning, Laws}
use Rattle.events.specs.Items.{item, report_end, is_report_end, is_loss_mark}
use Rattle.model.specs.Core.{Core, Seat, Holder, put_seat, feed, mark_seat, left_ring, most, seat_at, waiting, room, barred, holds, is_held, is_free, here, met, with_seats, with_holder, Client}
use Rattle.model.specs.Calls.{accepted, ended, opened, shut, event_call, report_call, open_call, close_call, grab_call, release_call}
use Rattle.model.specs.Reads.{Got, look, looked, read_call}
use Rattle.model.specs.Runs.{World, Fresh, on_core, on_client, put_client, step, Turn, Run}
use Rattle.model.specs.Core.Seat.{free, taken_by}
use Rattle.model.specs.Core.Holder.{nobody, held}
use Rattle.model.specs.declared.Call.{Call}
use Rattle.model.specs.declared.Call.TheVariants.{Event as event, Report as report, Open as opening, Close as closing, Grab as grab, Release as release, Read as reading}
use Rattle.model.specs.Runs.Run.{rest, turn, elsewhere}
use Rattle.model.specs.Answers.{Answered, number, live}
use Rattle.model.specs.Log.{ends, last_number, after, logged, growing, grown, grown_by, log}
use Rattle.model.specs.Heard.{hear, heard_from, calls, told, Loss}
use Rattle.model.specs.Promises.{Faithful}
use Rattle.model.proofs.Runs.{nil_not, split_last, after_append, ends_push_end, ends_push_event, last_push}
use Rattle.model.proofs.Recover.{logged_no_end, end_leaves, recovers, put_client_same, in_range, taken_seat, kept_look}
use Rattle.model.proofs.Inv.{Numbered, CoreInv, AtPhase, Stated, Always, always_push, fed, stated_grow, phase_fed, phase_barred, phase_marked, stated_quiet, phase_quiet, told_quiet, Quiet, quiet, after_look, one_state}

-- seats ----------------------------------------------------------------------------------------------------------

fed_seat : (hd : Holder) (x : Item) (seats : List Seat) (s : ℕ) → seat_at (feed hd x seats) s ≡ cond (barred hd s) (seat_at seats s) (put_seat x (seat_at seats s))
fed_seat nobody x seats s = get_or-map (put_seat x) seats s free
fed_seat (held h) x seats s = grind (arith, common_steps)

fed_taken : (hd : Holder) (x : Item) (seats : List Seat) (s capacity : ℕ) (q : List Item) → seat_at seats s ≡ taken_by capacity q
    → seat_at (feed hd x seats) s ≡ taken_by capacity (fed (barred hd s) capacity q x)
fed_taken hd x seats s capacity q e = let f = fed_seat hd x seats s in grind (arith, common_steps)

free_fed : (hd : Holder) (x : Item) (seats : List Seat) (s : ℕ) → is_free (seat_at (feed hd x seats) s) ≡ is_free (seat_at seats s)
free_fed hd x seats s = let f = fed_seat hd x seats s in grind (arith, common_steps)

length_fed : (hd : Holder) (x : Item) (seats : List Seat) → length (feed hd x seats) ≡ length seats
length_fed hd x seats = grind (arith, common_steps)

-- what is true of a client that is open here
abbrev pub Own : {S : Type 0} → Meaning S → ℕ → Holder → List Seat → Client S → List Item → List Answered → Type 0
Own P d hd ss c l h =
    here d c ≡ true
    → (after P P.empty (told h) ≡ c.state)
    × ((capacity : ℕ) (q : List Item) → seat_at ss c.seat ≡ taken_by capacity q → AtPhase P c.phase c q l (barred hd c.seat) h)

-- the whole invariant, for one client and what it heard
pub record Good {S : Type 0} (P : Meaning S) (i : ℕ) (w : World S) (l : List Item) (h : List Answered) : Type 0 where
  pub core : CoreInv P w.core l
  pub sits : (j : ℕ) → here w.core.device (w.clients j) ≡ true → is_free (seat_at w.core.seats (w.clients j).seat) ≡ false
  pub apart : (j k : ℕ) → here w.core.device (w.clients j) ≡ true → here w.core.device (w.clients k) ≡ true → (w.clients j).seat ≡ (w.clients k).seat → j ≡ k
  pub stated : Always P l h
  pub own : Own P w.core.device w.core.holder w.core.seats (w.clients i) l h

released_seat : (b : Bool) (t n : ℕ) (seats : List Seat) (s₀ s : ℕ)
    → seat_at (set (map (mark_seat b t n) seats) s₀ (seat_at seats s₀)) s ≡ cond (eqb s₀ s) (seat_at seats s) (mark_seat b t n (seat_at seats s))
released_seat b t n seats s₀ s = grind (arith, common_steps)

free_marked : (b : Bool) (t n : ℕ) (s : Seat) → is_free (mark_seat b t n s) ≡ is_free s
free_marked b t n s = grind arith

holds_is : (hd : Holder) (s b : ℕ) → holds hd s ≡ true → barred hd b ≡ not (eqb s b)
holds_is hd s b e = grind (arith, common_steps)

left_marked : (b : Bool) (t n : ℕ) → (m : Item) × (r : List Item) × (left_ring b t n ≡ m ∷ r) × (is_loss_mark m ≡ true)
left_marked true t n = (_, _, refl, refl)
left_marked false t n = (_, _, refl, refl)

stated_none : {S : Type 0} (P : Meaning S) (l : List Item) → Always P l []
stated_none P l [] late e = record {
  true_at_ends = λ past a n e t. absurd (nil_not past a [] e);
  gapless = λ n since t. absurd (nil_not t.0 t.1 since t.2);
  live_only_there = λ past x e. absurd (nil_not past (live x) [] e);
}
stated_none P l (b ∷ early) late e = cc

not_barred : (hd : Holder) (s : ℕ) → is_held hd ≡ false → barred hd s ≡ false
not_barred hd s e = grind arith

put_back : {S : Type 0} (f : ℕ → Client S) (j : ℕ) → put_client f j (f j) ≡ f
put_back {S} f j = fun_ext (λ a. grind (arith, common_steps))

module _ {S : Type 0} (P : Meaning S) (i : ℕ) (w : World S) (l : List Item) (h : List Answered) (g : Good P i w l h) where
  -- an item is put into the fed seats
  good_put : (x : Item) (st : S) (r t : ℕ) (b : Bool)
      → let k : Core S = record { device = w.core.device; state = st; reports = r; time = t; reporting = b; holder = w.core.holder; seats = feed w.core.holder x w.core.seats } in
      CoreInv P k (l ++ x ∷ []) → Good P i (record { core = k; clients = w.clients }) (l ++ x ∷ []) h
  good_put x st r t b ci = record {
    core = ci;
    sits = λ j hr. free_fed w.core.holder x w.core.seats (w.clients j).seat ∙ g.sits j hr;
    apart = g.apart;
    stated = λ early late e. stated_grow P l (x ∷ []) early (g.stated early late e);
    own = λ hr. (
      (g.own hr).0,
      λ capacity q e.
          let c = w.clients i in
          let bar = barred w.core.holder c.seat in
          let t = taken_seat P (seat_at w.core.seats c.seat) (g.sits i hr) in
          let f = fed_taken w.core.holder x w.core.seats c.seat t.0 t.1 t.2 in
          let eq : fed bar t.0 t.1 x ≡ q = cc in
          subst (λ (r : List Item). AtPhase P c.phase c r (l ++ x ∷ []) bar h) eq
          (phase_fed P c.phase c t.1 l bar h t.0 x ((g.own hr).1 t.0 t.1 t.2)),
    );
  }

  -- event --------------------------------------------------------------------------------------------------------

  numbered_push : (x : Item) → (is_report_end x ≡ true → x.number ≡ suc (ends l)) → Numbered (l ++ x ∷ [])
  numbered_push x f a y b eq t = elim (split_last l a b y x eq) [
    | inl r ↦ let n = f (subst⁻¹ (λ (z : Item). is_report_end z ≡ true) r.2 t) in sym (ap (λ (z : Item). z.number) r.2) ∙ n ∙ ap (λ (z : List Item). suc (ends z)) r.1
    | inr r ↦ g.core.numbered a y r.0 r.2 t
  ]

  good_accept : (t : ℕ) (e : Event) → P.sound ≡ true → ((x : Item) → x.event ≡ e → is_report_end x ≡ false) → ends l < most
      → Good P i (record { core = accepted P w.core t e; clients = w.clients }) (l ++ item e t (suc (ends l)) ∷ []) h
  good_accept t e so ne lt =
      let k = g.core in
      let x = item e t (suc w.core.reports) in
      let nx = ne x refl in
      let pe = ends_push_event l x nx in
      subst (λ (n : ℕ). Good P i (record { core = accepted P w.core t e; clients = w.clients }) (l ++ item e t (suc n) ∷ []) h) k.count
      (good_put x (P.taken w.core.state e) w.core.reports w.core.time true record {
        unsound = λ f. absurd (both_ways P.sound f so);
        state = ap (λ (s : S). P.taken s e) k.state ∙ sym (after_append P P.empty l (x ∷ []));
        count = k.count ∙ sym pe;
        few = omega arith;
        fewer = λ _. omega arith;
        bears = sym (eq-eqb (last_number (l ++ x ∷ [])) (suc (ends (l ++ x ∷ []))) (let q = last_push l x in let c = k.count in omega arith));
        whole = λ f. absurd (true≢false f);
        numbered = numbered_push x (λ f. absurd (both_ways (is_report_end x) nx f));
        eight = length_fed w.core.holder x w.core.seats ∙ k.eight;
      })

  -- where the log grows, the event is accepted, and else the core stays as it is
  module _ (laws : P.sound ≡ true → Laws P) where
    good_event : (t : ℕ) (e : Event) → Good P i (on_core w (event_call P w.core t e)).world (grown P l (event t e)) h
    unfolding event_call
    good_event t e =
        let k = g.core in
        elim (cases_Bool (growing P l (logged (P.verdict (after P P.empty l) e)))) [
          | inl y ↦
              let so : P.sound ≡ true = grind (arith, common_steps) in
              let lt : ends l < most = grind (arith, common_steps) in
              let v : logged (P.verdict w.core.state e) ≡ true = grind (arith, common_steps) in
              let c : (event_call P w.core t e).core ≡ accepted P w.core t e = grind (arith, common_steps) in
              rw (c, y) (good_accept t e so (λ x q. logged_no_end P (laws so) w.core.state x (rw q v)) lt)
          | inr n ↦
              let c : (event_call P w.core t e).core ≡ w.core = grind (arith, common_steps) in
              rw (c, n) g
        ]

  good_end : Laws P → (t : ℕ) → P.sound ≡ true → w.core.reporting ≡ true
      → Good P i (record { core = ended P w.core t; clients = w.clients }) (l ++ item report_end t (suc (ends l)) ∷ []) h
  good_end L t so bu =
      let k = g.core in
      let x = item report_end t (suc w.core.reports) in
      let pe = ends_push_end l x refl in
      let lt = k.fewer bu in
      let lp = last_push l x in
      let c = k.count in
      subst (λ (n : ℕ). Good P i (record { core = ended P w.core t; clients = w.clients }) (l ++ item report_end t (suc n) ∷ []) h) k.count
      (good_put x w.core.state (suc w.core.reports) t false record {
        unsound = λ f. absurd (both_ways P.sound f so);
        state = k.state ∙ sym (end_leaves P L (after P P.empty l) x refl) ∙ sym (after_append P P.empty l (x ∷ []));
        count = omega arith;
        few = omega arith;
        fewer = λ f. absurd (false≢true f);
        bears = sym (ne_eqb (last_number (l ++ x ∷ [])) (suc (ends (l ++ x ∷ []))) (λ f. omega arith));
        whole = λ _. inr (l, x, refl, refl, refl);
        numbered = numbered_push x (λ _. ap suc k.count);
        eight = length_fed w.core.holder x w.core.seats ∙ k.eight;
      })

  module _ (laws : P.sound ≡ true → Laws P) where
    good_report : (t : ℕ) → Good P i (on_core w (report_call P w.core t)).world (grown P l (report t)) h
    unfolding report_call
    good_report t =
        let k = g.core in
        elim (cases_Bool (growing P l (eqb (last_number l) (suc (ends l))))) [
          | inl y ↦
              let so : P.sound ≡ true = grind (arith, common_steps) in
              let open' : w.core.reporting ≡ true = grind (arith, common_steps) in
              let c : (report_call P w.core t).core ≡ ended P w.core t = grind (arith, common_steps) in
              rw (c, y) (good_end (laws so) t so open')
          | inr n ↦
              let c : (report_call P w.core t).core ≡ w.core = grind (arith, common_steps, k.fewer) in
              rw (c, n) g
        ]

  -- seats and clients ------------------------------------------------------------------------------------------

  -- the core keeps to the log while only seats and the holder change
  core_seats : (hd : Holder) (ss : List Seat) → length ss ≡ 8 → CoreInv P (with_holder w.core hd ss) l
  core_seats hd ss e =
      let k = g.core in
      record { unsound = k.unsound; state = k.state; count = k.count; few = k.few; fewer = k.fewer; bears = k.bears; whole = k.whole; numbered = k.numbered; eight = e }

  now : Stated P l h
  now = g.stated h [] (sym (append-nil h))

  good_quiet : (a : Answered) → Quiet a → (Loss a → ⊥) → Good P i w l (h ++ a ∷ [])
  good_quiet a qu nl = record {
    core = g.core;
    sits = g.sits;
    apart = g.apart;
    stated = always_push P l h a g.stated (stated_quiet P l h a qu now);
    own = λ hr.
        let o = g.own hr in
        let c = w.clients i in (
          ap (λ (t : List Item). after P P.empty t) (told_quiet h a qu) ∙ o.0,
          λ capacity q e. phase_quiet P c.phase c q l (barred w.core.holder c.seat) h a qu nl (o.1 capacity q e),
        );
  }

  module _ (j : ℕ) (ss : List Seat) (c' : Client S) where
    sits_put : (here w.core.device c' ≡ true → is_free (seat_at ss c'.seat) ≡ false)
        → ((a : ℕ) → (j ≡ a → ⊥) → here w.core.device (w.clients a) ≡ true → seat_at ss (w.clients a).seat ≡ seat_at w.core.seats (w.clients a).seat)
        → (a : ℕ) → here w.core.device (put_client w.clients j c' a) ≡ true → is_free (seat_at ss (put_client w.clients j c' a).seat) ≡ false
    sits_put f k a hr = grind (arith, common_steps, f, k a, g.sits a)

    apart_put : ((a : ℕ) → (j ≡ a → ⊥) → here w.core.device c' ≡ true → here w.core.device (w.clients a) ≡ true → c'.seat ≡ (w.clients a).seat → ⊥)
        → (a b : ℕ) → here w.core.device (put_client w.clients j c' a) ≡ true → here w.core.device (put_client w.clients j c' b) ≡ true
        → (put_client w.clients j c' a).seat ≡ (put_client w.clients j c' b).seat → a ≡ b
    apart_put f a b p q r = grind (arith, common_steps, f a, f b, g.apart a b)

    -- another client's doings leave this one as it was
    own_other : (j ≡ i → ⊥)
        → ((a : ℕ) → (j ≡ a → ⊥) → here w.core.device (w.clients a) ≡ true → seat_at ss (w.clients a).seat ≡ seat_at w.core.seats (w.clients a).seat)
        → Own P w.core.device w.core.holder ss (put_client w.clients j c' i) l h
    own_other ne k =
        let e : put_client w.clients j c' i ≡ w.clients i = cond-false (eqb j i) c' (w.clients i) (ne_eqb j i ne) in
        subst⁻¹ (λ (c : Client S). Own P w.core.device w.core.holder ss c l h) e
        (λ hr. let o = g.own hr in (o.0, λ capacity q f. o.1 capacity q (sym (k i ne hr) ∙ f)))

  -- open -------------------------------------------------------------------------------------------------------

  module _ (j s capacity : ℕ) (lt : s < 8) (fr : is_free (seat_at w.core.seats s) ≡ true) where
    ss_open : List Seat
    ss_open = set w.core.seats s (taken_by capacity [])

    open_away : (a : ℕ) → here w.core.device (w.clients a) ≡ true → s ≡ (w.clients a).seat → ⊥
    open_away a hr e = let p = g.sits a hr in grind (arith, common_steps)

    open_others : (a : ℕ) → (j ≡ a → ⊥) → here w.core.device (w.clients a) ≡ true → seat_at (set w.core.seats s (taken_by capacity [])) (w.clients a).seat ≡ seat_at w.core.seats (w.clients a).seat
    open_others a ne hr = get_or-set_other w.core.seats s (w.clients a).seat (taken_by capacity []) free (λ e. open_away a hr (sym e))

    open_mine : seat_at (set w.core.seats s (taken_by capacity [])) s ≡ taken_by capacity []
    open_mine = let e = g.core.eight in grind (arith, common_steps)

    opened_good : (h' : List Answered) → Always P l h' → Own P w.core.device w.core.holder (set w.core.seats s (taken_by capacity [])) (put_client w.clients j (opened P w.core s) i) l h'
        → Good P i (record { core = with_seats w.core (set w.core.seats s (taken_by capacity [])); clients = put_client w.clients j (opened P w.core s) }) l h'
    opened_good h' st ow = record {
      core = core_seats w.core.holder (set w.core.seats s (taken_by capacity [])) (length-set w.core.seats s (taken_by capacity []) ∙ g.core.eight);
      sits = sits_put j (set w.core.seats s (taken_by capacity [])) (opened P w.core s) (λ _. ap is_free open_mine) open_others;
      apart = apart_put j (set w.core.seats s (taken_by capacity [])) (opened P w.core s) (λ a _ _ hr e. open_away a hr e);
      stated = st;
      own = ow;
    }

  -- a refused call hands the client back as it was
  handed_back : (j : ℕ) (h' : List Answered) → Good P i w l h' → Good P i (record { core = w.core; clients = put_client w.clients j (w.clients j) }) l h'
  handed_back j h' = subst⁻¹ (λ (f : ℕ → Client S). Good P i (record { core = w.core; clients = f }) l h') (put_back w.clients j)

  good_open : (j s capacity : ℕ) → let m = open_call P w.core (w.clients j) s capacity in Good P i (on_client w j m).world l (hear i h (opening j s capacity) m.answer)
  unfolding open_call
  good_open j s capacity =
      let k = w.core in
      let c = w.clients j in
      let ss = set k.seats s (taken_by capacity []) in
      let m = open_call P k c s capacity in
      let o = met (with_seats k ss) (opened P k s) (number 0) in
      elim (cases_Bool (is_ok m.answer)) [
        | inl y ↦
            let lt : s < 8 = grind (arith, common_steps) in
            let fr : is_free (seat_at k.seats s) ≡ true = grind (arith, common_steps) in
            let q : m ≡ o = grind (arith, common_steps) in
            rw q (cond_both (eqb j i) [] h (λ t. Good P i (on_client w j o).world l t)
            (λ e. opened_good j s capacity lt fr [] (stated_none P l)
            (subst⁻¹ (λ (c : Client S). Own P w.core.device w.core.holder ss c l []) (cond-true (eqb j i) (opened P w.core s) (w.clients i) e)
            (λ _. (refl, λ capacity q f. record { none_since = λ n since t. nil_not t.0 t.1 since t.2; below = tt }))))
            (λ e. opened_good j s capacity lt fr h g.stated (own_other j ss (opened P w.core s) (eqb-false j i e) (open_others j s capacity lt fr))))
        | inr n ↦
            let q : m.core ≡ k = grind (arith, common_steps) in
            let r : m.client ≡ c = grind (arith, common_steps) in
            let u : hear i h (opening j s capacity) m.answer ≡ h = grind (arith, common_steps) in
            rw (u, q, r) (handed_back j h g)
      ]

  -- two that are open here sit apart
  away : (j : ℕ) → here w.core.device (w.clients j) ≡ true → (v : Seat) (a : ℕ) → (j ≡ a → ⊥) → here w.core.device (w.clients a) ≡ true
      → seat_at (set w.core.seats (w.clients j).seat v) (w.clients a).seat ≡ seat_at w.core.seats (w.clients a).seat
  away j hj v a ne ha = get_or-set_other w.core.seats (w.clients j).seat (w.clients a).seat v free (λ e. ne (g.apart j a hj ha (sym e)))

  good_close : (j : ℕ) → Good P i (on_client w j (close_call P w.core (w.clients j))).world l h
  unfolding close_call
  good_close j =
      let c = w.clients j in
      let ss = set w.core.seats c.seat free in
      let c' = shut P c in
      let m = close_call P w.core c in
      elim (cases_Bool (is_ok m.answer)) [
        | inl y ↦
            let hj : here w.core.device c ≡ true = grind (arith, common_steps) in
            let q : m.core ≡ with_seats w.core ss = grind (arith, common_steps) in
            let r : m.client ≡ c' = grind (arith, common_steps) in
            rw (q, r) record {
              core = core_seats w.core.holder ss (length-set w.core.seats c.seat free ∙ g.core.eight);
              sits = sits_put j ss c' (λ f. absurd (false≢true f)) (away j hj free);
              apart = apart_put j ss c' (λ a _ f _ _. false≢true f);
              stated = g.stated;
              own = elim (cases_eq j i) [
                | inl e ↦ subst⁻¹ (λ (c : Client S). Own P w.core.device w.core.holder ss c l h) (cond-true (eqb j i) c' (w.clients i) (eq-eqb j i e)) (λ f. absurd (false≢true f))
                | inr ne ↦ own_other j ss c' ne (away j hj free)
              ];
            }
        | inr n ↦
            let q : m.core ≡ w.core = grind (arith, common_steps) in
            let r : m.client ≡ c = grind (arith, common_steps) in
            rw (q, r) (handed_back j h g)
      ]

  good_grab : (j : ℕ) → Good P i (on_core w (grab_call P w.core (w.clients j))).world l h
  unfolding grab_call
  good_grab j =
      let c = w.clients j in
      let m = grab_call P w.core c in
      elim (cases_Bool (is_ok m.answer)) [
        | inl y ↦
            let nh : is_held w.core.holder ≡ false = grind (arith, common_steps) in
            let q : m.core ≡ with_holder w.core (held c.seat) w.core.seats = grind (arith, common_steps) in
            rw q record {
              core = core_seats (held c.seat) w.core.seats g.core.eight;
              sits = g.sits;
              apart = g.apart;
              stated = g.stated;
              own = λ hr. let o = g.own hr in let b = w.clients i in
                  (o.0, λ capacity q e. phase_barred P b.phase b q l (barred w.core.holder b.seat) (barred (held c.seat) b.seat) h (λ _. not_barred w.core.holder b.seat nh) (o.1 capacity q e));
            }
        | inr n ↦ let q : m.core ≡ w.core = grind (arith, common_steps) in rw q g
      ]

  good_elsewhere : (j : ℕ) (c : Client S) → here w.core.device c ≡ false → Good P i (record { core = w.core; clients = put_client w.clients j c }) l h
  good_elsewhere j c nc = record {
    core = g.core;
    sits = sits_put j w.core.seats c (λ t. absurd (both_ways (here w.core.device c) nc t)) (λ a ne hr. refl);
    apart = apart_put j w.core.seats c (λ a _ t _ _. both_ways (here w.core.device c) nc t);
    stated = g.stated;
    own = elim (cases_eq j i) [
      | inl e ↦ subst⁻¹ (λ (c : Client S). Own P w.core.device w.core.holder w.core.seats c l h) (cond-true (eqb j i) c (w.clients i) (eq-eqb j i e)) (λ t. absurd (both_ways (here w.core.device c) nc t))
      | inr ne ↦ own_other j w.core.seats c ne (λ a n hr. refl)
    ];
  }

  good_release : (d s t : ℕ) → Good P i (on_core w (release_call P w.core d s t)).world l h
  unfolding release_call
  good_release d s t =
      let k = w.core in
      let ss = set (map (mark_seat k.reporting t k.reports) k.seats) s (seat_at k.seats s) in
      let m = release_call P k d s t in
      elim (cases_Bool (is_ok m.answer)) [
        | inl y ↦
            let ho : holds k.holder s ≡ true = grind (arith, common_steps) in
            let q : m.core ≡ with_holder k nobody ss = grind (arith, common_steps) in
            rw q record {
              core = core_seats nobody ss (length-set (map (mark_seat k.reporting t k.reports) k.seats) s (seat_at k.seats s) ∙ length-map k.seats (mark_seat k.reporting t k.reports) ∙ g.core.eight);
              sits = λ j hr. released_free s t (w.clients j).seat ∙ g.sits j hr;
              apart = g.apart;
              stated = g.stated;
              own = λ hr. let o = g.own hr in (o.0, λ capacity q e. released s t ho hr capacity q e);
            }
        | inr n ↦ let q : m.core ≡ k = grind (arith, common_steps) in rw q g
      ]
    where
      released_free : (s t b : ℕ) → is_free (seat_at (set (map (mark_seat w.core.reporting t w.core.reports) w.core.seats) s (seat_at w.core.seats s)) b) ≡ is_free (seat_at w.core.seats b)
      released_free s t b =
          ap is_free (released_seat w.core.reporting t w.core.reports w.core.seats s b)
          ∙ cond_both (eqb s b) (seat_at w.core.seats b) (mark_seat w.core.reporting t w.core.reports (seat_at w.core.seats b)) (λ z. is_free z ≡ is_free (seat_at w.core.seats b))
          (λ _. refl) (λ _. free_marked w.core.reporting t w.core.reports (seat_at w.core.seats b))

      released : (s t : ℕ) → holds w.core.holder s ≡ true → here w.core.device (w.clients i) ≡ true → (capacity : ℕ) (q : List Item)
          → seat_at (set (map (mark_seat w.core.reporting t w.core.reports) w.core.seats) s (seat_at w.core.seats s)) (w.clients i).seat ≡ taken_by capacity q
          → AtPhase P (w.clients i).phase (w.clients i) q l false h
      released s t ho hr capacity q e =
          let c = w.clients i in
          let k = w.core in
          let u = taken_seat P (seat_at k.seats c.seat) (g.sits i hr) in
          let o = (g.own hr).1 u.0 u.1 u.2 in
          let f = sym (released_seat k.reporting t k.reports k.seats s c.seat) ∙ e in
          let bs = holds_is k.holder s c.seat ho in
          elim (cases_Bool (eqb s c.seat)) [
            | inl y ↦
                let f' : seat_at k.seats c.seat ≡ taken_by capacity q = rw y at f in
                let nb : barred k.holder c.seat ≡ false = bs ∙ ap not y in
                phase_barred P c.phase c q l (barred k.holder c.seat) false h (λ _. nb) ((g.own hr).1 capacity q f')
            | inr z ↦
                let f' : mark_seat k.reporting t k.reports (seat_at k.seats c.seat) ≡ taken_by capacity q = rw z at f in
                let f'' : taken_by u.0 (left_ring k.reporting t k.reports) ≡ taken_by capacity q = rw u.2 at f' in
                let v = left_marked k.reporting t k.reports in
                let r : v.0 ∷ v.1 ≡ q = (let v₂ = v.2 in cc) in
                subst (λ (z : List Item). AtPhase P c.phase c z l false h) r
                (phase_marked P c.phase c u.1 l (barred k.holder c.seat) false h v.0 v.1 v.3 o)
          ]

  -- read -------------------------------------------------------------------------------------------------------

  module _ (j : ℕ) (hj : here w.core.device (w.clients j) ≡ true) where
    seat_j : Seat
    seat_j = seat_at w.core.seats (w.clients j).seat

    got_j : Got S
    got_j = look P w.core (waiting (seat_at w.core.seats (w.clients j).seat)) (w.clients j) (w.clients j).phase

    v_j : Seat
    unfolding got_j
    v_j = taken_by (room (seat_at w.core.seats (w.clients j).seat)) got_j.ring

    looked_good : (h' : List Answered) → Always P l h'
        → Own P w.core.device w.core.holder (set w.core.seats (w.clients j).seat v_j) (put_client w.clients j got_j.client i) l h'
        → Good P i (on_client w j (looked P w.core (w.clients j) got_j)).world l h'
    unfolding got_j v_j
    looked_good h' st ow =
        let c = w.clients j in
        let ss = set w.core.seats c.seat v_j in
        let kp = kept_look P w.core (waiting (seat_at w.core.seats c.seat)) c c.phase in
        let u = taken_seat P (seat_at w.core.seats c.seat) (g.sits j hj) in
        let lt = in_range P w.core.seats c.seat u.0 u.1 u.2 in
        let e : seat_at ss got_j.client.seat ≡ v_j = ap (λ (n : ℕ). seat_at ss n) kp.seat ∙ get_or-set_same w.core.seats c.seat v_j free lt in
        record {
          core = core_seats w.core.holder ss (length-set w.core.seats c.seat v_j ∙ g.core.eight);
          sits = sits_put j ss got_j.client (λ _. ap is_free e) (away j hj v_j);
          apart = apart_put j ss got_j.client (λ a ne _ ha q. ne (g.apart j a hj ha (sym kp.seat ∙ q)));
          stated = st;
          own = ow;
        }

    looked_other : (j ≡ i → ⊥) → Good P i (on_client w j (looked P w.core (w.clients j) got_j)).world l h
    unfolding got_j v_j
    looked_other ne = looked_good h g.stated (own_other j (set w.core.seats (w.clients j).seat v_j) got_j.client ne (away j hj v_j))

  looked_self : Laws P → (hi : here w.core.device (w.clients i) ≡ true) → Good P i (on_client w i (looked P w.core (w.clients i) (got_j i hi))).world l (h ++ (got_j i hi).answer ∷ [])
  unfolding got_j v_j
  looked_self L hi =
      let c = w.clients i in
      let hd = w.core.holder in
      let q₀ = waiting (seat_at w.core.seats c.seat) in
      let gt = got_j i hi in
      let v = v_j i hi in
      let ss = set w.core.seats c.seat v in
      let kp = kept_look P w.core q₀ c c.phase in
      let u = taken_seat P (seat_at w.core.seats c.seat) (g.sits i hi) in
      let lt = in_range P w.core.seats c.seat u.0 u.1 u.2 in
      let e : seat_at ss gt.client.seat ≡ v = ap (λ (n : ℕ). seat_at ss n) kp.seat ∙ get_or-set_same w.core.seats c.seat v free lt in
      let o = g.own hi in
      let ph = o.1 u.0 q₀ (u.2 ∙ ap (λ (t : List Item). taken_by u.0 t) (sym (ap (λ (t : Seat). waiting t) u.2))) in
      let a = after_look P L l (barred hd c.seat) h now g.core.numbered w.core g.core c.phase q₀ c c.state o.0 ph in
      let h' = h ++ gt.answer ∷ [] in
      looked_good i hi h' (always_push P l h gt.answer g.stated a.stated)
      (subst⁻¹ (λ (c : Client S). Own P w.core.device hd ss c l h') (put_client_same P w.clients i gt.client)
      (λ _. (
        a.same,
        λ capacity q f.
            let r : gt.ring ≡ q = (let e₁ = sym e ∙ f in cc) in
            subst⁻¹ (λ (n : ℕ). AtPhase P gt.client.phase gt.client q l (barred hd n) h') kp.seat
            (subst (λ (t : List Item). AtPhase P gt.client.phase gt.client t l (barred hd c.seat) h') r a.phase),
      )))

  good_read : (P.sound ≡ true → Laws P) → (j : ℕ) → let m = read_call P w.core (w.clients j) in Good P i (on_client w j m).world l (hear i h (reading j) m.answer)
  unfolding read_call got_j
  good_read laws j =
      let c = w.clients j in
      let gt = look P w.core (waiting (seat_at w.core.seats c.seat)) c c.phase in
      let m = read_call P w.core c in
      elim (cases_Bool (is_ok m.answer)) [
        | inl y ↦
            let so : P.sound ≡ true = grind (arith, common_steps) in
            let hj : here w.core.device c ≡ true = grind (arith, common_steps) in
            let q : m ≡ looked P w.core c gt = grind (arith, common_steps) in
            rw q (cond_both (eqb j i) (h ++ gt.answer ∷ []) h (λ t. Good P i (on_client w j (looked P w.core c gt)).world l t)
            (λ e. self (laws so) (eqb-true j i e) hj)
            (λ e. looked_other j hj (eqb-false j i e)))
        | inr n ↦
            let q : m.core ≡ w.core = grind (arith, common_steps) in
            let r : m.client ≡ c = grind (arith, common_steps) in
            let qu : Quiet m.answer = quiet m.answer (grind (arith, common_steps)) (grind (arith, common_steps)) in
            let nl : Loss m.answer → ⊥ = λ t. grind (arith, common_steps) in
            rw (q, r) (cond_both (eqb j i) (h ++ m.answer ∷ []) h (λ t. Good P i (record { core = w.core; clients = put_client w.clients j c }) l t)
            (λ _. handed_back j (h ++ m.answer ∷ []) (good_quiet m.answer qu nl)) (λ _. handed_back j h g))
      ]
    where
      self : Laws P → j ≡ i → here w.core.device (w.clients j) ≡ true
          → let gt = look P w.core (waiting (seat_at w.core.seats (w.clients j).seat)) (w.clients j) (w.clients j).phase in
          Good P i (on_client w j (looked P w.core (w.clients j) gt)).world l (h ++ gt.answer ∷ [])
      self L e hj =
          subst⁻¹ (λ (n : ℕ). here w.core.device (w.clients n) ≡ true
          → Good P i (on_client w n (looked P w.core (w.clients n) (look P w.core (waiting (seat_at w.core.seats (w.clients n).seat)) (w.clients n) (w.clients n).phase))).world l
          (h ++ (look P w.core (waiting (seat_at w.core.seats (w.clients n).seat)) (w.clients n) (w.clients n).phase).answer ∷ []))
          e (λ hi. looked_self L hi) hj

-- all calls --------------------------------------------------------------------------------------------------------

pub good_step : {S : Type 0} (P : Meaning S) → (P.sound ≡ true → Laws P) → (i : ℕ) (w : World S) (l : List Item) (h : List Answered) (c : Call)
    → Good P i w l h → Good P i (step P w c).world (grown P l c) (hear i h c (step P w c).answer)
unfolding step
good_step P laws i w l h (event t e) g = good_event P i w l h g laws t e
good_step P laws i w l h (report t) g = good_report P i w l h g laws t
good_step P laws i w l h (opening j s capacity) g = good_open P i w l h g j s capacity
good_step P laws i w l h (closing j) g = good_close P i w l h g j
good_step P laws i w l h (grab j) g = good_grab P i w l h g j
good_step P laws i w l h (release d s t) g = good_release P i w l h g d s t
good_step P laws i w l h (reading j) g = good_read P i w l h g laws j

pub good_run : {S : Type 0} (P : Meaning S) → (P.sound ≡ true → Laws P) → (i : ℕ) {w v : World S} {ts : List Turn} (l : List Item) (h : List Answered)
    → Run P w ts v → Good P i w l h → Good P i v (grown_by P l (calls ts)) (heard_from i h ts)
good_run P laws i l h rest g = g
good_run P laws i l h (turn {w = w} c r) g = good_run P laws i (grown P l c) (hear i h c (step P w c).answer) r (good_step P laws i w l h c g)
good_run P laws i l h (elsewhere {w = w} j c _ nc r) g = good_run P laws i l h r (good_elsewhere P i w l h g j c nc)

pub good_start : {S : Type 0} (P : Meaning S) (i : ℕ) (w : World S) → Fresh P w → Good P i w [] []
good_start P i w f =
    let out_of : (j : ℕ) → here w.core.device (w.clients j) ≡ true → ⊥ = λ j t. both_ways (here w.core.device (w.clients j)) (f.strangers j) t in
    record {
      core = record {
        unsound = λ _. refl;
        state = f.empty;
        count = f.none_ended;
        few = omega arith;
        fewer = λ t. absurd (both_ways w.core.reporting f.shut t);
        bears = f.shut;
        whole = λ _. inl (f.none_ended, refl);
        numbered = λ a x b e _. absurd (nil_not a x b e);
        eight = ap length f.free;
      };
      sits = λ j t. absurd (out_of j t);
      apart = λ j k t _ _. absurd (out_of j t);
      stated = stated_none P [];
      own = λ t. absurd (out_of i t);
    }

pub faithful : {S : Type 0} (P : Meaning S) → (P.sound ≡ true → Laws P) → Faithful P
faithful P laws w v ts f r i =
    let g = good_run P laws i [] [] r (good_start P i w f) in
    record {
      one_state = one_state P (log P (calls ts)) g.core.numbered;
      true_at_ends = λ past a later n e t. (g.stated (past ++ a ∷ []) later (e ∙ sym (append_assoc past (a ∷ []) later))).true_at_ends past a n refl t;
      gapless = λ past a since later n e c f. (g.stated (past ++ a ∷ since) later (e ∙ sym (append_assoc past (a ∷ since) later))).gapless n since (past, a, refl, c, f);
      live_only_there = λ past x later e.
          let r = (g.stated (past ++ live x ∷ []) later (e ∙ sym (append_assoc past (live x ∷ []) later))).live_only_there past x refl in
          (r.2.0, r.2.1, r.1, r.0, r.2.2, r.2.3, r.2.4);
      recovers = recovers P laws v i;
    }
