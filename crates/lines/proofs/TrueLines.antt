-- Every line shows the device's state after the report that it names.
use Rattle.std.proofs.Common.{◌≡◌, ℕ, suc, Bool, true, false, eqb, List, [], ◌∷◌, ◌++◌, Ok, sym, refl, ap, ◌∙◌, subst, inl, inr, append_assoc, append-nil, arith}
use mathlib.Core.Path.{subst⁻¹}
use Rattle.std.specs.List.{AllByRecursion as Each}
use Rattle.std.proofs.ByRecursion.{All-append, All-weaker}
use Rattle.std.proofs.lemmas.Bool.{cond_both, and_from, eq-eqb, cond-true}
use Rattle.events.specs.Items.{item, report_end, is_report_end}
use Rattle.events.specs.declared.items.Item.{Item}
use Rattle.parts.specs.Meaning.{Meaning, Laws}
use Rattle.model.specs.declared.Call.{Call}
use Rattle.model.specs.declared.Call.TheVariants.{Event as event, Report as report, Open as opening, Close as closing, Grab as grab, Release as release, Read as reading}
use Rattle.model.specs.Answers.{Answered, refused}
use Rattle.model.specs.declared.Answer.TheVariants.{Read}
use Rattle.model.specs.declared.Read.TheVariants.{Live, CaughtUp}
use Rattle.model.specs.Core.{Client, Met, here, is_open}
use Rattle.model.specs.Reads.{read_call, look, looked}
use Rattle.model.specs.Runs.{World, step, on_client}
use Rattle.model.specs.Log.{after, ends, last_number, logged, growing, grown, grown_by, DeviceAfter}
use Rattle.model.specs.Heard.{hear, ToldEnd}
use Rattle.lines.specs.Lines.{Line, end_lines, answer_lines, call_lines, lines, LinesTrue}
use Rattle.model.proofs.Recover.{Sight, sight_of, read_is, kept_look, put_client_same}
use Rattle.model.proofs.Steps.{Good, good_step, good_start}

module _ {S : Type 0} (P : Meaning S) where
  -- the log only grows
  grown_more : (l : List Item) (c : Call) → (m : List Item) × (grown P l c ≡ l ++ m)
  grown_more l (event t e) =
      cond_both (growing P l (logged (P.verdict (after P P.empty l) e))) (l ++ item e t (suc (ends l)) ∷ []) l (λ x. (m : List Item) × (x ≡ l ++ m))
      (λ _. (item e t (suc (ends l)) ∷ [], refl)) (λ _. ([], sym (append-nil l)))
  grown_more l (report t) =
      cond_both (growing P l (eqb (last_number l) (suc (ends l)))) (l ++ item report_end t (suc (ends l)) ∷ []) l (λ x. (m : List Item) × (x ≡ l ++ m))
      (λ _. (item report_end t (suc (ends l)) ∷ [], refl)) (λ _. ([], sym (append-nil l)))
  grown_more l (opening i s capacity) = ([], sym (append-nil l))
  grown_more l (closing i) = ([], sym (append-nil l))
  grown_more l (grab i) = ([], sym (append-nil l))
  grown_more l (release d s t) = ([], sym (append-nil l))
  grown_more l (reading i) = ([], sym (append-nil l))

  pub all_more : (l : List Item) (cs : List Call) → (m : List Item) × (grown_by P l cs ≡ l ++ m)
  all_more l [] = ([], sym (append-nil l))
  all_more l (c ∷ cs) =
      let a = grown_more l c in
      let b = all_more (grown P l c) cs in
      (a.0 ++ b.0, b.1 ∙ ap (λ (x : List Item). x ++ b.0) a.1 ∙ append_assoc l a.0 b.0)

  -- what was so by the log is so by a longer one
  pub later : (l m : List Item) (n : ℕ) (s : S) → DeviceAfter P l n s → DeviceAfter P (l ++ m) n s
  later l m n s d = (d.0, d.1 ++ m, ap (λ (x : List Item). x ++ m) d.2 ∙ append_assoc d.0 d.1 m, d.3, d.4)

  seen : (w : World S) (i : ℕ) → ((n : ℕ) → (read_call P w.core (w.clients i)).answer ≡ refused n → ⊥) → (capacity : ℕ) × (q : List Item) × Sight P w i capacity q
  unfolding read_call
  seen w i f = sight_of P w i _ f

  -- a read that told something leaves the client open here
  open_after : (w : World S) (i : ℕ) → ((n : ℕ) → (read_call P w.core (w.clients i)).answer ≡ refused n → ⊥)
      → here (on_client w i (read_call P w.core (w.clients i))).world.core.device ((on_client w i (read_call P w.core (w.clients i))).world.clients i) ≡ true
  open_after w i ne =
      let c = w.clients i in
      let s = seen w i ne in
      let g = look P w.core s.1 c c.phase in
      let k = kept_look P w.core s.1 c c.phase in
      let is : read_call P w.core c ≡ looked P w.core c g = read_is P w i s.0 s.1 s.2 in
      let open_now = and_from (is_open g.client.phase) (eqb g.client.device w.core.device) (k.open' s.2.open') (ap (λ (d : ℕ). eqb d w.core.device) k.device ∙ s.2.device) in
      subst⁻¹ (λ (m : Met S). here (on_client w i m).world.core.device ((on_client w i m).world.clients i) ≡ true) is
      (subst⁻¹ (λ (x : Client S). here w.core.device x ≡ true) (put_client_same P w.clients i g.client) open_now)

  not_refused : (a : Answered) (n : ℕ) → ToldEnd n a → (m : ℕ) → a ≡ refused m → ⊥
  not_refused a n (inl t) m e = let f = t.1 in let z : ◌≡◌ {A = ℕ} 0 1 = cc in omega arith
  not_refused a n (inr t) m e = let f = t.1 in let z : ◌≡◌ {A = ℕ} 0 1 = cc in omega arith

  -- a report end that a read told: the client's state is the device's after that report
  read_true : (P.sound ≡ true → Laws P) → (w : World S) (l : List Item) (i : ℕ) (h : List Answered) → Good P i w l h → (n : ℕ) → ToldEnd n (step P w (reading i)).answer
      → DeviceAfter P l n ((step P w (reading i)).world.clients i).state
  unfolding step
  read_true laws w l i h g n t =
      let a = (step P w (reading i)).answer in
      let g' = subst (λ (x : List Answered). Good P i (step P w (reading i)).world l x) (cond-true (eqb i i) (h ++ a ∷ []) h (eq-eqb i i refl)) (good_step P laws i w l h (reading i) g) in
      let told_so = ((g'.stated (h ++ a ∷ []) [] (sym (append-nil (h ++ a ∷ [])))).true_at_ends h a n refl t).0 in
      let mine = (g'.own (open_after w i (not_refused a n t))).0 in
      (told_so.0, told_so.1, told_so.2, told_so.3, sym mine ∙ told_so.4)

  -- the lines of one read
  end_true : (k : Bool) (i : ℕ) (s : S) (x : Item) (l : List Item) → (is_report_end x ≡ true → DeviceAfter P l x.number s) → Each (λ (y : Line S). DeviceAfter P l y.number y.state) (end_lines k i s x)
  end_true k i s x l f =
      cond_both (is_report_end x) (record { number = x.number; client = i; live = k; state = s } ∷ []) [] (λ ys. Each (λ (y : Line S). DeviceAfter P l y.number y.state) ys)
      (λ e. (f e, tt)) (λ _. tt)

  answer_true : (i : ℕ) (s : S) (a : Answered) (l : List Item) → ((n : ℕ) → ToldEnd n a → DeviceAfter P l n s) → Each (λ (y : Line S). DeviceAfter P l y.number y.state) (answer_lines i s a)
  answer_true i s (Ok (Read (Live x))) l f = end_true true i s x l (λ e. f x.number (inl (x, refl, e, refl)))
  answer_true i s (Ok (Read (CaughtUp x))) l f = end_true false i s x l (λ e. f x.number (inr (x, refl, e, refl)))
  answer_true i s _ l f = tt

  pub call_true : (P.sound ≡ true → Laws P) → (w : World S) (l : List Item) (c : Call) (hs : ℕ → List Answered) → ((i : ℕ) → Good P i w l (hs i))
      → Each (λ (y : Line S). DeviceAfter P (grown P l c) y.number y.state) (call_lines (step P w c).world c (step P w c).answer)
  call_true laws w l (reading i) hs g = answer_true i ((step P w (reading i)).world.clients i).state (step P w (reading i)).answer l (read_true laws w l i (hs i) (g i))
  call_true laws w l (event t e) hs g = tt
  call_true laws w l (report t) hs g = tt
  call_true laws w l (opening i s capacity) hs g = tt
  call_true laws w l (closing i) hs g = tt
  call_true laws w l (grab i) hs g = tt
  call_true laws w l (release d s t) hs g = tt

  true_from : (P.sound ≡ true → Laws P) → (cs : List Call) (w : World S) (l : List Item) (hs : ℕ → List Answered) → ((i : ℕ) → Good P i w l (hs i))
      → Each (λ (y : Line S). DeviceAfter P (grown_by P l cs) y.number y.state) (lines P w cs)
  true_from laws [] w l hs g = tt
  true_from laws (c ∷ cs) w l hs g =
      let m = all_more (grown P l c) cs in
      All-append (λ (y : Line S). DeviceAfter P (grown_by P (grown P l c) cs) y.number y.state) (call_lines (step P w c).world c (step P w c).answer) (lines P (step P w c).world cs)
      (All-weaker (λ (y : Line S). DeviceAfter P (grown P l c) y.number y.state) (λ (y : Line S). DeviceAfter P (grown_by P (grown P l c) cs) y.number y.state)
      (λ y d. subst⁻¹ (λ (x : List Item). DeviceAfter P x y.number y.state) m.1 (later (grown P l c) m.0 y.number y.state d))
      (call_lines (step P w c).world c (step P w c).answer) (call_true laws w l c hs g))
      (true_from laws cs (step P w c).world (grown P l c) (λ i. hear i (hs i) c (step P w c).answer) (λ i. good_step P laws i w l (hs i) c (g i)))

  pub lines_true : (P.sound ≡ true → Laws P) → LinesTrue P
  lines_true laws w cs f = true_from laws cs w [] (λ i. []) (λ i. good_start P i w f)
