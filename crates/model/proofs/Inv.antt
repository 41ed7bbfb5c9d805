-- What stays true of a core, its clients and the log, whatever is called; and what a read does to it.
use Rattle.std.proofs.Common.{◌≡◌, ℕ, suc, ◌<◌, ◌≤◌, Bool, true, false, cond, eqb, ltb, ◌⊎◌, List, [], ◌∷◌, ◌++◌, length, Some, None, Option, sym, refl, ap, ◌∙◌, subst, inl, inr, append_assoc, append-nil, arith}
use mathlib.Core.Path.{subst⁻¹}
use Rattle.std.specs.List.{AllByRecursion as Each}
use Rattle.std.proofs.lemmas.List.{same_from_push}
use Rattle.std.proofs.ByRecursion.{All-push, All-weaker}
use Rattle.std.proofs.lemmas.Grind.{common_steps}
use Rattle.std.proofs.lemmas.Bool.{cond_both, both_ways, true≢false}
use Rattle.events.specs.declared.items.Event.{Event}
use Rattle.events.specs.declared.items.Item.{Item}
use Rattle.model.specs.declared.Phase.{Phase}
use Rattle.model.specs.declared.Phase.TheVariants.{NotOpen, InStep, Lost, Due, CatchingUp}
use Rattle.parts.specs.Meaning.{Meaning, Laws}
use Rattle.events.specs.Items.{item, report_end, is_report_end, is_loss_mark, mark_from}
use Rattle.ring.specs.Waiting.{none, one}
use Rattle.model.specs.Core.{Core, put, some_end, most, barred, Client}
use Rattle.model.specs.Reads.{Got, look, moved, bound_for, catch, got, in_step, lost, after_lost}
use Rattle.model.specs.Answers.{Answered, nothing, report_open, barred_off, skipped, live, caught_up}
use Rattle.model.specs.Log.{ends, last_number, after, Through, OneState}
use Rattle.model.specs.Heard.{told, lives, said, live_of, Loss, CaughtEnd, ToldEnd}
use Rattle.model.proofs.Runs.{Since, nil_not, unsnoc, after_append, ends_append, ends_push_end, told_append, lives_append, since_push, since_pull}
use Rattle.model.proofs.Recover.{end_leaves, change_no_end}

-- the invariant --------------------------------------------------------------------------------------------------

-- a report end bears one more than the ends before it
abbrev pub Numbered : List Item → Type 0
Numbered l = (a : List Item) (x : Item) (b : List Item) → l ≡ a ++ x ∷ b → is_report_end x ≡ true → x.number ≡ suc (ends a)

-- the core is where the log is
pub record CoreInv {S : Type 0} (P : Meaning S) (k : Core S) (l : List Item) : Type 0 where
  pub unsound : P.sound ≡ false → l ≡ []
  pub state : k.state ≡ after P P.empty l
  pub count : k.reports ≡ ends l
  pub few : ends l ≤ most
  pub fewer : k.reporting ≡ true → ends l < most
  pub bears : k.reporting ≡ eqb (last_number l) (suc (ends l))
  pub whole : k.reporting ≡ false → Through k.reports l
  pub numbered : Numbered l
  pub eight : length k.seats ≡ 8

-- the ring of a client that has come to `at`: what comes next in the log, up to its end if the seat is fed; or a mark stands first
abbrev pub Clean : List Item → List Item → List Item → Bool → Type 0
Clean at q l bar = (b : List Item) × (l ≡ at ++ (q ++ b)) × (bar ≡ false → b ≡ [])

abbrev pub Marked : List Item → List Item → List Item → Type 0
Marked at q l = (m : Item) × (r : List Item) × (b : List Item) × (q ≡ m ∷ r) × (is_loss_mark m ≡ true) × (l ≡ at ++ b)

abbrev pub Ahead : List Item → List Item → List Item → Bool → Type 0
Ahead at q l bar = Clean at q l bar ⊎ Marked at q l

abbrev pub Below : List Answered → ℕ → Type 0
Below h n = Each (λ b. (m : ℕ) → ToldEnd m b → m ≤ n) h

abbrev pub NoSince : List Answered → Type 0
NoSince h = (n : ℕ) (since : List Answered) → Since h n since → ⊥

pub record IsInStep {S : Type 0} (P : Meaning S) (c : Client S) (q l : List Item) (bar : Bool) (h : List Answered) : Type 0 where
  pub n : ℕ
  pub since : List Answered
  pub front : List Item
  pub is : Since h n since
  pub only : (n' : ℕ) (since' : List Answered) → Since h n' since' → (n' ≡ n) × (since' ≡ since)
  pub through : Through n front
  pub ahead : Ahead (front ++ lives since) q l bar
  pub state : c.state ≡ after P P.empty (front ++ lives since)
  pub below : Below h (ends (front ++ lives since))

pub record Catching {S : Type 0} (P : Meaning S) (n : ℕ) (c : Client S) (q l : List Item) (bar : Bool) (h : List Answered) : Type 0 where
  pub front : List Item
  pub none_since : NoSince h
  pub through : Through n front
  pub count : n ≡ ends front
  pub ahead : Ahead front q l bar
  pub target : c.target ≡ after P P.empty front
  pub below : Below h n

pub record Behind (l : List Item) (h : List Answered) : Type 0 where
  pub none_since : NoSince h
  pub below : Below h (ends l)

abbrev pub AtPhase : {S : Type 0} → Meaning S → Phase → Client S → List Item → List Item → Bool → List Answered → Type 0
AtPhase P NotOpen c q l bar h = Unit {0}
AtPhase P InStep c q l bar h = IsInStep P c q l bar h
AtPhase P Lost c q l bar h = Behind l h
AtPhase P Due c q l bar h = Behind l h
AtPhase P (CatchingUp n t) c q l bar h = Catching P n c q l bar h

-- what is promised, at the last answer

-- (a) at a report end numbered n, the state made of all that was answered is the device's after report n, and n never falls
abbrev pub TrueNow : {S : Type 0} → Meaning S → List Item → List Answered → Type 0
TrueNow P l h =
    (past : List Answered) (a : Answered) (n : ℕ) → h ≡ past ++ a ∷ [] → ToldEnd n a
    → ((front rest : List Item) × (l ≡ front ++ rest) × Through n front × (after P P.empty (told h) ≡ after P P.empty front))
    × Each (λ b. (m : ℕ) → ToldEnd m b → m ≤ n) past

-- (b) from a caught-up report end numbered n to the next loss mark the live answers are the first items of the log after report n
abbrev pub GaplessNow : List Item → List Answered → Type 0
GaplessNow l h =
    (n : ℕ) (since : List Answered) → Since h n since
    → (front rest : List Item) × (l ≡ front ++ (lives since ++ rest)) × Through n front

-- and elsewhere nothing is answered live
abbrev pub LiveNow : List Answered → Type 0
LiveNow h =
    (past : List Answered) (x : Item) → h ≡ past ++ live x ∷ [] → (n : ℕ) × (since : List Answered) × Since past n since

pub record Stated {S : Type 0} (P : Meaning S) (l : List Item) (h : List Answered) : Type 0 where
  pub true_at_ends : TrueNow P l h
  pub gapless : GaplessNow l h
  pub live_only_there : LiveNow h

-- at each answer
abbrev pub Always : {S : Type 0} → Meaning S → List Item → List Answered → Type 0
Always P l h = (early late : List Answered) → h ≡ early ++ late → Stated P l early

pub always_push : {S : Type 0} (P : Meaning S) (l : List Item) (h : List Answered) (a : Answered) → Always P l h → Stated P l (h ++ a ∷ []) → Always P l (h ++ a ∷ [])
always_push P l h a al s early [] e = subst (λ (t : List Answered). Stated P l t) (e ∙ append-nil early) s
always_push P l h a al s early (b ∷ late) e =
    let u = unsnoc b late in
    let r = same_from_push h (early ++ u.0) a u.1 (e ∙ ap (λ (t : List Answered). early ++ t) u.2 ∙ sym (append_assoc early u.0 (u.1 ∷ []))) in
    al early u.0 r.0

-- growth of the log ----------------------------------------------------------------------------------------------

pub stated_grow : {S : Type 0} (P : Meaning S) (l x : List Item) (h : List Answered) → Stated P l h → Stated P (l ++ x) h
stated_grow P l x h s = record {
  true_at_ends = λ past a n e t.
      let r = s.true_at_ends past a n e t in
      let f = r.0 in
      ((f.0, f.1 ++ x, grind (arith, common_steps), f.3, f.4), r.1);
  gapless = λ n since t.
      let r = s.gapless n since t in
      (r.0, r.1 ++ x, grind (arith, common_steps), r.3);
  live_only_there = s.live_only_there;
}

-- what a seat that is fed, or not, has after an item
abbrev pub fed : Bool → ℕ → List Item → Item → List Item
fed true capacity q x = q
fed false capacity q x = put capacity q x

pub ahead_fed : (at q l : List Item) (bar : Bool) (capacity : ℕ) (x : Item) → Ahead at q l bar → Ahead at (fed bar capacity q x) (l ++ x ∷ []) bar
ahead_fed at q l true capacity x (inl c) = inl (c.0 ++ x ∷ [], grind (arith, common_steps), λ e. absurd (true≢false e))
ahead_fed at q l true capacity x (inr m) = inr (m.0, m.1, m.2 ++ x ∷ [], m.3, m.4, grind (arith, common_steps))
ahead_fed at q l false capacity x (inl c) =
    let b = c.2 refl in
    cond_both (ltb (length q) capacity) (q ++ x ∷ []) (mark_from x ∷ x ∷ []) (λ r. Ahead at r (l ++ x ∷ []) false)
    (λ _. inl ([], grind (arith, common_steps), λ _. refl))
    (λ _. inr (mark_from x, x ∷ [], q ++ x ∷ [], refl, refl, grind (arith, common_steps)))
ahead_fed at q l false capacity x (inr m) =
    let e : l ++ x ∷ [] ≡ at ++ (m.2 ++ x ∷ []) = grind (arith, common_steps) in
    cond_both (ltb (length q) capacity) (q ++ x ∷ []) (mark_from x ∷ x ∷ []) (λ r. Ahead at r (l ++ x ∷ []) false)
    (λ _. inr (m.0, m.1 ++ x ∷ [], m.2 ++ x ∷ [], ap (λ (t : List Item). t ++ x ∷ []) m.3, m.4, e))
    (λ _. inr (mark_from x, x ∷ [], m.2 ++ x ∷ [], refl, refl, e))

below_more : (h : List Answered) (m n : ℕ) → m ≤ n → Below h m → Below h n
below_more h m n le b = All-weaker (λ a. (k : ℕ) → ToldEnd k a → k ≤ m) (λ a. (k : ℕ) → ToldEnd k a → k ≤ n) (λ a f k t. let r = f k t in omega arith) h b

-- the ring and the log change, and what is ahead with them
phase_moved : {S : Type 0} (P : Meaning S) (p : Phase) (c : Client S) (q q' l l' : List Item) (bar bar' : Bool) (h : List Answered)
    → ((at : List Item) → Ahead at q l bar → Ahead at q' l' bar') → ends l ≤ ends l' → AtPhase P p c q l bar h → AtPhase P p c q' l' bar' h
phase_moved P NotOpen c q q' l l' bar bar' h f le s = tt
phase_moved P InStep c q q' l l' bar bar' h f le s = record {
  n = s.n;
  since = s.since;
  front = s.front;
  is = s.is;
  only = s.only;
  through = s.through;
  ahead = f (s.front ++ lives s.since) s.ahead;
  state = s.state;
  below = s.below;
}
phase_moved P Lost c q q' l l' bar bar' h f le s = record { none_since = s.none_since; below = below_more h (ends l) (ends l') le s.below }
phase_moved P Due c q q' l l' bar bar' h f le s = record { none_since = s.none_since; below = below_more h (ends l) (ends l') le s.below }
phase_moved P (CatchingUp n t) c q q' l l' bar bar' h f le s = record {
  front = s.front;
  none_since = s.none_since;
  through = s.through;
  count = s.count;
  ahead = f s.front s.ahead;
  target = s.target;
  below = s.below;
}

pub phase_fed : {S : Type 0} (P : Meaning S) (p : Phase) (c : Client S) (q l : List Item) (bar : Bool) (h : List Answered) (capacity : ℕ) (x : Item)
    → AtPhase P p c q l bar h → AtPhase P p c (fed bar capacity q x) (l ++ x ∷ []) bar h
phase_fed P p c q l bar h capacity x s =
    phase_moved P p c q (fed bar capacity q x) l (l ++ x ∷ []) bar bar h (λ at a. ahead_fed at q l bar capacity x a) (let e = ends_append l (x ∷ []) in omega arith) s

-- the grab: the bar may come down on a seat, and a release leaves a mark
ahead_barred : (at q l : List Item) (bar bar' : Bool) → (bar' ≡ false → bar ≡ false) → Ahead at q l bar → Ahead at q l bar'
ahead_barred at q l bar bar' f (inl c) = inl (c.0, c.1, λ e. c.2 (f e))
ahead_barred at q l bar bar' f (inr m) = inr m

pub phase_barred : {S : Type 0} (P : Meaning S) (p : Phase) (c : Client S) (q l : List Item) (bar bar' : Bool) (h : List Answered) → (bar' ≡ false → bar ≡ false)
    → AtPhase P p c q l bar h → AtPhase P p c q l bar' h
phase_barred P p c q l bar bar' h f s = phase_moved P p c q q l l bar bar' h (λ at a. ahead_barred at q l bar bar' f a) (omega arith) s

-- what is ahead begins where the client is
pub ahead_rest : (at q l : List Item) (bar : Bool) → Ahead at q l bar → (b : List Item) × (l ≡ at ++ b)
ahead_rest at q l bar (inl c) = (q ++ c.0, c.1)
ahead_rest at q l bar (inr m) = (m.2, m.5)

ahead_marked : (at q l : List Item) (bar bar' : Bool) (m : Item) (r : List Item) → is_loss_mark m ≡ true → Ahead at q l bar → Ahead at (m ∷ r) l bar'
ahead_marked at q l bar bar' m r e a = let b = ahead_rest at q l bar a in inr (m, r, b.0, refl, e, b.1)

pub phase_marked : {S : Type 0} (P : Meaning S) (p : Phase) (c : Client S) (q l : List Item) (bar bar' : Bool) (h : List Answered) (m : Item) (r : List Item) → is_loss_mark m ≡ true
    → AtPhase P p c q l bar h → AtPhase P p c (m ∷ r) l bar' h
phase_marked P p c q l bar bar' h m r e s = phase_moved P p c q (m ∷ r) l l bar bar' h (λ at a. ahead_marked at q l bar bar' m r e a) (omega arith) s

-- reads ----------------------------------------------------------------------------------------------------------

-- an answer that tells of nothing
pub record Quiet (a : Answered) : Type 0 where
  pub says : said a ≡ []
  pub lives' : live_of a ≡ []
  pub no_end : (n : ℕ) → ToldEnd n a → ⊥
  pub no_live : (x : Item) → a ≡ live x → ⊥

pub quiet : (a : Answered) → said a ≡ [] → live_of a ≡ [] → Quiet a
quiet a e f = record { says = e; lives' = f; no_end = λ n t. grind (arith, common_steps); no_live = λ x p. grind (arith, common_steps) }

pub told_quiet : (h : List Answered) (a : Answered) → Quiet a → told (h ++ a ∷ []) ≡ told h
told_quiet h a q = let e = told_append h (a ∷ []) in grind (arith, common_steps)

lives_quiet : (h : List Answered) (a : Answered) → Quiet a → lives (h ++ a ∷ []) ≡ lives h
lives_quiet h a q = let e = lives_append h (a ∷ []) in grind (arith, common_steps)

pub stated_quiet : {S : Type 0} (P : Meaning S) (l : List Item) (h : List Answered) (a : Answered) → Quiet a → Stated P l h → Stated P l (h ++ a ∷ [])
stated_quiet P l h a q s = record {
  true_at_ends = λ past b n e t. let r = same_from_push h past a b e in absurd (q.no_end n (subst⁻¹ (λ (c : Answered). ToldEnd n c) r.1 t));
  gapless = λ n since t. elim (since_pull h n since a t) [
    | inl r ↦ absurd (q.no_end n (inr r.1))
    | inr r ↦
        let g = s.gapless n r.0 r.2 in
        let e : lives r.0 ≡ lives since = sym (ap lives r.1 ∙ lives_quiet r.0 a q) in
        (g.0, g.1, g.2 ∙ ap (λ (t : List Item). g.0 ++ (t ++ g.1)) e, g.3)
  ];
  live_only_there = λ past x e. let r = same_from_push h past a (live x) e in absurd (q.no_live x r.1);
}

below_quiet : (h : List Answered) (a : Answered) (n : ℕ) → Quiet a → Below h n → Below (h ++ a ∷ []) n
below_quiet h a n q b = All-push (λ b. (m : ℕ) → ToldEnd m b → m ≤ n) h a b (λ m t. absurd (q.no_end m t))

no_since_quiet : (h : List Answered) (a : Answered) → Quiet a → NoSince h → NoSince (h ++ a ∷ [])
no_since_quiet h a q f n since s = elim (since_pull h n since a s) [ inl r ↦ q.no_end n (inr r.1) | inr r ↦ f n r.0 r.2 ]

no_since_loss : (h : List Answered) (a : Answered) → Quiet a → Loss a → NoSince (h ++ a ∷ [])
no_since_loss h a q f n since s = elim (since_pull h n since a s) [ inl r ↦ q.no_end n (inr r.1) | inr r ↦ r.3 f ]

behind_quiet : (l : List Item) (h : List Answered) (a : Answered) → Quiet a → Behind l h → Behind l (h ++ a ∷ [])
behind_quiet l h a q b = record { none_since = no_since_quiet h a q b.none_since; below = below_quiet h a (ends l) q b.below }

in_step_quiet : {S : Type 0} (P : Meaning S) (c : Client S) (q l : List Item) (bar : Bool) (h : List Answered) (a : Answered) → Quiet a → (Loss a → ⊥)
    → IsInStep P c q l bar h → IsInStep P c q l bar (h ++ a ∷ [])
in_step_quiet P c q l bar h a qu nl s =
    let e : lives (s.since ++ a ∷ []) ≡ lives s.since = lives_quiet s.since a qu in
    record {
      n = s.n;
      since = s.since ++ a ∷ [];
      front = s.front;
      is = since_push h s.n s.since a s.is nl;
      only = λ n since t. elim (since_pull h n since a t) [
        | inl r ↦ absurd (qu.no_end n (inr r.1))
        | inr r ↦ let o = s.only n r.0 r.2 in (o.0, r.1 ∙ ap (λ (t : List Answered). t ++ a ∷ []) o.1)
      ];
      through = s.through;
      ahead = subst⁻¹ (λ (t : List Item). Ahead (s.front ++ t) q l bar) e s.ahead;
      state = s.state ∙ ap (λ (t : List Item). after P P.empty (s.front ++ t)) (sym e);
      below = subst⁻¹ (λ (t : List Item). Below (h ++ a ∷ []) (ends (s.front ++ t))) e (below_quiet h a (ends (s.front ++ lives s.since)) qu s.below);
    }

clean_of : (at r l : List Item) (bar : Bool) (x : Item) → is_loss_mark x ≡ false → Ahead at (x ∷ r) l bar → Clean at (x ∷ r) l bar
clean_of at r l bar x nm (inl c) = c
clean_of at r l bar x nm (inr m) = absurd (grind (arith, common_steps))

live_end : (x : Item) (n : ℕ) → ToldEnd n (live x) → (is_report_end x ≡ true) × (x.number ≡ n)
live_end x n t = grind (arith, common_steps)

caught_end : (x : Item) (n : ℕ) → ToldEnd n (caught_up x) → (is_report_end x ≡ true) × (x.number ≡ n)
caught_end x n t = grind (arith, common_steps)

-- what holds after a read
pub record After {S : Type 0} (P : Meaning S) (l : List Item) (bar : Bool) (h : List Answered) (g : Got S) : Type 0 where
  pub stated : Stated P l (h ++ g.answer ∷ [])
  pub same : after P P.empty (told (h ++ g.answer ∷ [])) ≡ g.client.state
  pub phase : AtPhase P g.client.phase g.client g.ring l bar (h ++ g.answer ∷ [])

module _ {S : Type 0} (P : Meaning S) (L : Laws P) (l : List Item) (bar : Bool) (h : List Answered) (st : Stated P l h) (nu : Numbered l) where
  after_quiet : (p : Phase) (q : List Item) (c : Client S) (s : S) (a : Answered) → Quiet a → after P P.empty (told h) ≡ s
      → AtPhase P p (moved c p s) q l bar (h ++ a ∷ []) → After P l bar h (got P q (moved c p s) a)
  after_quiet p q c s a qu e ph = record { stated = stated_quiet P l h a qu st; same = ap (λ (t : List Item). after P P.empty t) (told_quiet h a qu) ∙ e; phase = ph }

  -- a live answer
  after_live : (r : List Item) (c : Client S) (s : S) (x : Item) → after P P.empty (told h) ≡ s → is_loss_mark x ≡ false → IsInStep P (moved c InStep s) (x ∷ r) l bar h
      → After P l bar h (got P r (moved c InStep (P.taken s x.event)) (live x))
  after_live r c s x e nm i =
      let at = i.front ++ lives i.since in
      let k = clean_of at r l bar x nm i.ahead in
      let b = k.0 in
      let l₁ : l ≡ (at ++ x ∷ []) ++ (r ++ b) = k.1 ∙ sym (append_assoc at (x ∷ []) (r ++ b)) in
      let e₁ : lives (i.since ++ live x ∷ []) ≡ lives i.since ++ x ∷ [] = lives_append i.since (live x ∷ []) in
      let e₂ : i.front ++ lives (i.since ++ live x ∷ []) ≡ at ++ x ∷ [] = ap (λ (t : List Item). i.front ++ t) e₁ ∙ sym (append_assoc i.front (lives i.since) (x ∷ [])) in
      let sm : after P P.empty (told (h ++ live x ∷ [])) ≡ P.taken s x.event =
      ap (λ (t : List Item). after P P.empty t) (told_append h (live x ∷ [])) ∙ after_append P P.empty (told h) (x ∷ []) ∙ ap (λ (t : S). P.taken t x.event) e in
      let ps : P.taken s x.event ≡ after P P.empty (at ++ x ∷ []) = ap (λ (t : S). P.taken t x.event) i.state ∙ sym (after_append P P.empty at (x ∷ [])) in
      let nx : is_report_end x ≡ true → x.number ≡ suc (ends at) = nu at x (r ++ b) k.1 in
      let up : ends at ≤ ends (at ++ x ∷ []) = (let q = ends_append at (x ∷ []) in omega arith) in
      let bl : Below (h ++ live x ∷ []) (ends (at ++ x ∷ [])) =
      All-push (λ a. (m : ℕ) → ToldEnd m a → m ≤ ends (at ++ x ∷ [])) h (live x) (below_more h (ends at) (ends (at ++ x ∷ [])) up i.below)
      (λ m t. let d = live_end x m t in let p = nx d.0 in let q = ends_push_end at x d.0 in omega (arith, d.1)) in
      record {
        stated = record {
          true_at_ends = λ past a n eq t.
              let u = same_from_push h past (live x) a eq in
              let d = live_end x n (subst⁻¹ (λ (c : Answered). ToldEnd n c) u.1 t) in (
                (at ++ x ∷ [], r ++ b, l₁, inr (at, x, refl, d.0, d.1), sm ∙ ps),
                subst (λ (t : List Answered). Below t n) u.0 (below_more h (ends at) n (let p = nx d.0 in omega (arith, d.1)) i.below),
              );
          gapless = λ n since t. elim (since_pull h n since (live x) t) [
            | inl u ↦ cc
            | inr u ↦
                let o = i.only n u.0 u.2 in
                let f : lives since ≡ lives i.since ++ x ∷ [] = ap lives u.1 ∙ ap (λ (t : List Answered). lives (t ++ live x ∷ [])) o.1 ∙ e₁ in
                let g : lives i.since ++ x ∷ (r ++ b) ≡ lives since ++ (r ++ b) = sym (ap (λ (t : List Item). t ++ (r ++ b)) f ∙ append_assoc (lives i.since) (x ∷ []) (r ++ b)) in (
                  i.front,
                  r ++ b,
                  k.1 ∙ append_assoc i.front (lives i.since) (x ∷ (r ++ b)) ∙ ap (λ (t : List Item). i.front ++ t) g,
                  subst⁻¹ (λ (m : ℕ). Through m i.front) o.0 i.through,
                )
          ];
          live_only_there = λ past y eq.
              let u = same_from_push h past (live x) (live y) eq in
              (i.n, i.since, subst (λ (t : List Answered). Since t i.n i.since) u.0 i.is);
        };
        same = sm;
        phase = record {
          n = i.n;
          since = i.since ++ live x ∷ [];
          front = i.front;
          is = since_push h i.n i.since (live x) i.is (λ t. cc);
          only = λ n since t. elim (since_pull h n since (live x) t) [
            | inl u ↦ cc
            | inr u ↦ let o = i.only n u.0 u.2 in (o.0, u.1 ∙ ap (λ (t : List Answered). t ++ live x ∷ []) o.1)
          ];
          through = i.through;
          ahead = subst⁻¹ (λ (t : List Item). Ahead t r l bar) e₂ (inl (b, l₁, k.2));
          state = ps ∙ ap (λ (t : List Item). after P P.empty t) (sym e₂);
          below = subst⁻¹ (λ (t : List Item). Below (h ++ live x ∷ []) (ends t)) e₂ bl;
        };
      }

  -- a caught-up event
  after_event : (n t : ℕ) (q : List Item) (c : Client S) (s : S) (v : Event) → after P P.empty (told h) ≡ s → P.next s c.target ≡ Some v → Catching P n (moved c (CatchingUp n t) s) q l bar h
      → After P l bar h (got P q (moved c (CatchingUp n t) (P.taken s v)) (caught_up (item v t n)))
  after_event n t q c s v e nx k =
      let x = item v t n in
      let ne : is_report_end x ≡ false = change_no_end P L s x (L.changes s c.target v nx) in
      let no_end : (m : ℕ) → ToldEnd m (caught_up x) → ⊥ = λ m t'. both_ways (is_report_end x) ne (caught_end x m t').0 in
      let ns : NoSince (h ++ caught_up x ∷ []) = λ m since t'. elim (since_pull h m since (caught_up x) t') [ inl u ↦ no_end m (inr u.1) | inr u ↦ k.none_since m u.0 u.2 ] in
      record {
        stated = record {
          true_at_ends = λ past a m eq t'. let u = same_from_push h past (caught_up x) a eq in absurd (no_end m (subst⁻¹ (λ (c : Answered). ToldEnd m c) u.1 t'));
          gapless = λ m since t'. absurd (ns m since t');
          live_only_there = λ past y eq. let u = same_from_push h past (caught_up x) (live y) eq in cc;
        };
        same = ap (λ (t : List Item). after P P.empty t) (told_append h (caught_up x ∷ [])) ∙ after_append P P.empty (told h) (x ∷ []) ∙ ap (λ (t : S). P.taken t v) e;
        phase = record {
          front = k.front;
          none_since = ns;
          through = k.through;
          count = k.count;
          ahead = k.ahead;
          target = k.target;
          below = All-push (λ a. (m : ℕ) → ToldEnd m a → m ≤ n) h (caught_up x) k.below (λ m t'. absurd (no_end m t'));
        };
      }

  after_end : (n t : ℕ) (q : List Item) (c : Client S) (s : S) → after P P.empty (told h) ≡ s → P.next s c.target ≡ None → Catching P n (moved c (CatchingUp n t) s) q l bar h
      → After P l bar h (got P q (moved c InStep s) (caught_up (item report_end t n)))
  after_end n t q c s e nx k =
      let x = item report_end t n in
      let a = caught_up x in
      let sx : s ≡ after P P.empty k.front = L.apart s c.target (L.done s c.target nx) ∙ k.target in
      let sm : after P P.empty (told (h ++ a ∷ [])) ≡ s =
      ap (λ (t : List Item). after P P.empty t) (told_append h (a ∷ [])) ∙ after_append P P.empty (told h) (x ∷ []) ∙ ap (λ (t : S). P.taken t report_end) e ∙ end_leaves P L s x refl in
      let rs = ahead_rest k.front q l bar k.ahead in
      let en : k.front ++ [] ≡ k.front = append-nil k.front in
      let ce : CaughtEnd (n) a = (x, refl, refl, refl) in
      record {
        stated = record {
          true_at_ends = λ past b m eq t'.
              let u = same_from_push h past a b eq in
              let d : n ≡ m = (caught_end x m (subst⁻¹ (λ (c : Answered). ToldEnd m c) u.1 t')).1 in (
                (k.front, rs.0, rs.1, subst (λ (z : ℕ). Through z k.front) d k.through, sm ∙ sx),
                subst (λ (t : List Answered). Below t m) u.0 (below_more h n m (omega arith) k.below),
              );
          gapless = λ m since t'. elim (since_pull h m since a t') [
            | inl u ↦
                let d : n ≡ m = (caught_end x m (inr u.1)).1 in
                (k.front, rs.0, rs.1 ∙ ap (λ (t : List Answered). k.front ++ (lives t ++ rs.0)) (sym u.0), subst (λ (z : ℕ). Through z k.front) d k.through)
            | inr u ↦ absurd (k.none_since m u.0 u.2)
          ];
          live_only_there = λ past y eq. let u = same_from_push h past a (live y) eq in cc;
        };
        same = sm;
        phase = record {
          n = n;
          since = [];
          front = k.front;
          is = (h, a, refl, ce, tt);
          only = λ m since t'. elim (since_pull h m since a t') [
            | inl u ↦ (sym (caught_end x m (inr u.1)).1, u.0)
            | inr u ↦ absurd (k.none_since m u.0 u.2)
          ];
          through = k.through;
          ahead = subst⁻¹ (λ (t : List Item). Ahead t q l bar) en k.ahead;
          state = sx ∙ ap (λ (t : List Item). after P P.empty t) (sym en);
          below = subst⁻¹ (λ (t : List Item). Below (h ++ a ∷ []) (ends t)) en
              (All-push (λ b. (m : ℕ) → ToldEnd m b → m ≤ ends k.front) h a (below_more h (n) (ends k.front) (omega (arith, k.count)) k.below)
              (λ m t'. let d = (caught_end x m t').1 in omega (arith, k.count, d)));
        };
      }

  after_catch : (n t : ℕ) (q : List Item) (c : Client S) (s : S) → after P P.empty (told h) ≡ s → Catching P n (moved c (CatchingUp n t) s) q l bar h
      → After P l bar h (catch P n t q (moved c (CatchingUp n t) s) (P.next s c.target))
  after_catch n t q c s e k = go (P.next s c.target) refl
    where
      go : (o : Option Event) → P.next s c.target ≡ o → After P l bar h (catch P n t q (moved c (CatchingUp n t) s) o)
      go None p = after_end n t q c s e p k
      go (Some v) p = after_event n t q c s v e p k

  pub after_look : (k : Core S) (ci : CoreInv P k l) (p : Phase) (q : List Item) (c : Client S) (s : S) → after P P.empty (told h) ≡ s
      → AtPhase P p (moved c p s) q l bar h → After P l bar h (look P k q (moved c p s) p)
  after_look k ci NotOpen q c s e ph = after_quiet NotOpen q c s nothing (quiet nothing refl refl) e tt
  after_look k ci InStep [] c s e ph = after_quiet InStep [] c s nothing (quiet nothing refl refl) e (in_step_quiet P (moved c InStep s) [] l bar h nothing (quiet nothing refl refl) (λ t. cc) ph)
  after_look k ci InStep (x ∷ q) c s e ph =
      cond_both (some_end (x ∷ q)) (one x q) none (λ t. After P l bar h (in_step P (x ∷ q) (moved c InStep s) t))
      (λ _. cond_both (is_loss_mark x) (got P q (moved c Lost s) (skipped x)) (got P q (moved c InStep (P.taken s x.event)) (live x)) (λ g. After P l bar h g)
      (λ m. after_quiet Lost q c s (skipped x) (quiet (skipped x) refl refl) e (lose m))
      (λ m. after_live q c s x e m ph))
      (λ _. after_quiet InStep (x ∷ q) c s nothing (quiet nothing refl refl) e (in_step_quiet P (moved c InStep s) (x ∷ q) l bar h nothing (quiet nothing refl refl) (λ t. cc) ph))
    where
      lose : is_loss_mark x ≡ true → Behind l (h ++ skipped x ∷ [])
      lose m =
          let at = ph.front ++ lives ph.since in
          let r = ahead_rest at (x ∷ q) l bar ph.ahead in
          let le : ends at ≤ ends l = (let f = ends_append at r.0 in let g = ap ends r.1 in omega arith) in
          record {
            none_since = no_since_loss h (skipped x) (quiet (skipped x) refl refl) (x, refl, m);
            below = below_quiet h (skipped x) (ends l) (quiet (skipped x) refl refl) (below_more h (ends at) (ends l) le ph.below);
          }
  after_look k ci Lost [] c s e ph = after_quiet Lost [] c s nothing (quiet nothing refl refl) e (behind_quiet l h nothing (quiet nothing refl refl) ph)
  after_look k ci Lost (x ∷ q) c s e ph =
      cond_both (some_end (x ∷ q)) (one x q) none (λ t. After P l bar h (lost P (x ∷ q) (moved c Lost s) t))
      (λ _. after_quiet (after_lost P (is_report_end x)) q c s (skipped x) (quiet (skipped x) refl refl) e (either (is_report_end x)))
      (λ _. after_quiet Lost (x ∷ q) c s nothing (quiet nothing refl refl) e (behind_quiet l h nothing (quiet nothing refl refl) ph))
    where
      either : (v : Bool) → AtPhase P (after_lost P v) (moved c (after_lost P v) s) q l bar (h ++ skipped x ∷ [])
      either true = behind_quiet l h (skipped x) (quiet (skipped x) refl refl) ph
      either false = behind_quiet l h (skipped x) (quiet (skipped x) refl refl) ph
  after_look k ci Due q c s e ph =
      cond_both k.reporting (got P q (moved c Due s) report_open) (cond (barred k.holder c.seat) (got P q (moved c Due s) barred_off) (catch P k.reports k.time [] (bound_for (moved c Due s) k) (P.next s k.state))) (λ g. After P l bar h g)
      (λ _. after_quiet Due q c s report_open (quiet report_open refl refl) e (behind_quiet l h report_open (quiet report_open refl refl) ph))
      (λ nb. cond_both (barred k.holder c.seat) (got P q (moved c Due s) barred_off) (catch P k.reports k.time [] (bound_for (moved c Due s) k) (P.next s k.state)) (λ g. After P l bar h g)
      (λ _. after_quiet Due q c s barred_off (quiet barred_off refl refl) e (behind_quiet l h barred_off (quiet barred_off refl refl) ph))
      (λ nr. after_catch k.reports k.time [] (bound_for (moved c Due s) k) s e record {
        front = l;
        none_since = ph.none_since;
        through = ci.whole nb;
        count = ci.count;
        ahead = inl ([], sym (append-nil l), λ _. refl);
        target = ci.state;
        below = below_more h (ends l) k.reports (omega (arith, ci.count)) ph.below;
      }))
  after_look k ci (CatchingUp n t) q c s e ph = after_catch n t q c s e ph

pub phase_quiet : {S : Type 0} (P : Meaning S) (p : Phase) (c : Client S) (q l : List Item) (bar : Bool) (h : List Answered) (a : Answered) → Quiet a → (Loss a → ⊥)
    → AtPhase P p c q l bar h → AtPhase P p c q l bar (h ++ a ∷ [])
phase_quiet P NotOpen c q l bar h a qu nl s = tt
phase_quiet P InStep c q l bar h a qu nl s = in_step_quiet P c q l bar h a qu nl s
phase_quiet P Lost c q l bar h a qu nl s = behind_quiet l h a qu s
phase_quiet P Due c q l bar h a qu nl s = behind_quiet l h a qu s
phase_quiet P (CatchingUp n t) c q l bar h a qu nl s = record {
  front = s.front;
  none_since = no_since_quiet h a qu s.none_since;
  through = s.through;
  count = s.count;
  ahead = s.ahead;
  target = s.target;
  below = below_quiet h a n qu s.below;
}

-- one state after each report --------------------------------------------------------------------------------------

ends_through : (l : List Item) → Numbered l → (n : ℕ) (f r : List Item) → l ≡ f ++ r → Through n f → ends f ≡ n
ends_through l nu n f r e (inl t) = ap ends t.1 ∙ sym t.0
ends_through l nu n f r e (inr t) =
    let q = nu t.0 t.1 r (grind (arith, common_steps)) t.3 in
    let p = ends_push_end t.0 t.1 t.3 in
    grind (arith, common_steps)

-- of two beginnings one begins the other
overlap : {A : Type 0} (f g r s : List A) → f ++ r ≡ g ++ s → ((t : List A) × (g ≡ f ++ t)) ⊎ ((t : List A) × (f ≡ g ++ t))
overlap [] g r s e = inl (g, refl)
overlap (x ∷ f) [] r s e = inr (x ∷ f, refl)
overlap {A} (x ∷ f) (y ∷ g) r s e =
    let p : x ≡ y = cc in
    let q : f ++ r ≡ g ++ s = cc in
    elim (overlap f g r s q) [
      | inl t ↦ inl (t.0, λ i. sym p i ∷ t.1 i)
      | inr t ↦ inr (t.0, λ i. p i ∷ t.1 i)
    ]

no_more : (n : ℕ) (f g t : List Item) → g ≡ f ++ t → Through n g → ends f ≡ ends g → g ≡ f
no_more n f g [] e h k = e ∙ append-nil f
no_more n f g (x ∷ t) e (inl h) k = absurd (nil_not f x t (sym h.1 ∙ e))
no_more n f g (x ∷ t) e (inr h) k =
    let u = unsnoc x t in
    let v : g ≡ (f ++ u.0) ++ u.1 ∷ [] = e ∙ ap (λ (z : List Item). f ++ z) u.2 ∙ sym (append_assoc f u.0 (u.1 ∷ [])) in
    let r = same_from_push h.0 (f ++ u.0) h.1 u.1 (sym h.2 ∙ v) in
    let p = ap ends v ∙ ends_push_end (f ++ u.0) u.1 (subst (λ (z : Item). is_report_end z ≡ true) r.1 h.3) in
    let q = ends_append f u.0 in
    absurd (omega (arith, p, q, k))

pub one_state : {S : Type 0} (P : Meaning S) (l : List Item) → Numbered l → OneState P l
one_state P l nu n s t a b =
    let ea = ends_through l nu n a.0 a.1 a.2 a.3 in
    let eb = ends_through l nu n b.0 b.1 b.2 b.3 in
    let f : a.0 ≡ b.0 = elim (overlap a.0 b.0 a.1 b.1 (sym a.2 ∙ b.2)) [
      | inl u ↦ sym (no_more n a.0 b.0 u.0 u.1 b.3 (ea ∙ sym eb))
      | inr u ↦ no_more n b.0 a.0 u.0 u.1 a.3 (eb ∙ sym ea)
    ] in
    a.4 ∙ ap (λ (z : List Item). after P P.empty z) f ∙ sym b.4
