-- The numbers of a client's lines never fall while its seat is not opened anew.
use Rattle.std.proofs.Common.{◌≡◌, ℕ, ◌≤◌, Bool, true, false, cond, eqb, ◌⊎◌, List, [], ◌∷◌, ◌++◌, Ok, Err, sym, refl, ap, ◌∙◌, inl, inr, append_assoc, append-nil}
use mathlib.Core.Path.{subst⁻¹}
use Rattle.std.specs.List.{AllByRecursion as Each}
use Rattle.std.proofs.lemmas.Bool.{cond_both, cases_Bool, eqb-true}
use Rattle.events.specs.Items.{is_report_end}
use Rattle.events.specs.declared.items.Item.{Item}
use Rattle.parts.specs.Meaning.{Meaning, Laws}
use Rattle.model.specs.declared.Call.{Call}
use Rattle.model.specs.declared.Call.TheVariants.{Event as event, Report as report, Open as opening, Close as closing, Grab as grab, Release as release, Read as reading}
use Rattle.model.specs.Answers.{Answered, number}
use Rattle.model.specs.declared.Answer.TheVariants.{Number, Granted, Read}
use Rattle.model.specs.declared.Read.TheVariants.{Live, CaughtUp}
use Rattle.model.specs.Runs.{World, step}
use Rattle.model.specs.Heard.{hear, hear_open, heard_from, heard, ToldEnd}
use Rattle.model.specs.Replays.{turns, world_after}
use Rattle.model.proofs.Steps.{faithful}
use Rattle.model.proofs.Replay.{run_of}
use Rattle.lines.specs.Lines.{Line, end_lines, answer_lines, call_lines, lines, numbers, Rising, Opens, NumbersRise}

abbrev end_of : Answered → List ℕ
end_of (Ok (Read (Live x))) = cond (is_report_end x) (x.number ∷ []) []
end_of (Ok (Read (CaughtUp x))) = cond (is_report_end x) (x.number ∷ []) []
end_of _ = []

abbrev ends_of : List Answered → List ℕ
ends_of [] = []
ends_of (a ∷ h) = end_of a ++ ends_of h

-- an answer tells no report end, or one whose number is told
end_case : (a : Answered) → (end_of a ≡ []) ⊎ ((n : ℕ) × (end_of a ≡ n ∷ []) × ToldEnd n a)
end_case (Ok (Read (Live x))) = elim (cases_Bool (is_report_end x)) [ inl e ↦ inr (x.number, rw e, inl (x, refl, e, refl)) | inr e ↦ inl (rw e) ]
end_case (Ok (Read (CaughtUp x))) = elim (cases_Bool (is_report_end x)) [ inl e ↦ inr (x.number, rw e, inr (x, refl, e, refl)) | inr e ↦ inl (rw e) ]
end_case _ = inl refl

-- no report end told before another bears a greater number
abbrev Ordered : List Answered → Type 0
Ordered h = (past : List Answered) (a : Answered) (later : List Answered) (n : ℕ) → h ≡ past ++ a ∷ later → ToldEnd n a → Each (λ b. (m : ℕ) → ToldEnd m b → m ≤ n) past

ordered_tail : (b : Answered) (h : List Answered) → Ordered (b ∷ h) → Ordered h
ordered_tail b h o past a later n e t = (o (b ∷ past) a later n (ap (λ (l : List Answered). b ∷ l) e) t).1

-- all that are told after a report end bear its number or a greater one
all_later : (b : Answered) (m : ℕ) → ToldEnd m b → (past h : List Answered) → Ordered (b ∷ (past ++ h)) → Each (λ n. m ≤ n) (ends_of h)
all_later b m t past [] o = tt
all_later b m t past (a ∷ h) o =
    let o' : Ordered (b ∷ ((past ++ a ∷ []) ++ h)) = subst⁻¹ (λ (l : List Answered). Ordered (b ∷ l)) (append_assoc past (a ∷ []) h) o in
    let rest = all_later b m t (past ++ a ∷ []) h o' in
    elim (end_case a) [
      | inl e ↦ subst⁻¹ (λ (l : List ℕ). Each (λ n. m ≤ n) (l ++ ends_of h)) e rest
      | inr e ↦ subst⁻¹ (λ (l : List ℕ). Each (λ n. m ≤ n) (l ++ ends_of h)) e.1 ((o (b ∷ past) a h e.0 refl e.2).0 m t, rest)
    ]

rising_of : (h : List Answered) → Ordered h → Rising (ends_of h)
rising_of [] o = tt
rising_of (a ∷ h) o =
    let rest = rising_of h (ordered_tail a h o) in
    elim (end_case a) [
      | inl e ↦ subst⁻¹ (λ (l : List ℕ). Rising (l ++ ends_of h)) e rest
      | inr e ↦ subst⁻¹ (λ (l : List ℕ). Rising (l ++ ends_of h)) e.1 (all_later a e.0 e.2 [] h o, rest)
    ]

ordered_drop : (front h : List Answered) → Ordered (front ++ h) → Ordered h
ordered_drop [] h o = o
ordered_drop (a ∷ front) h o = ordered_drop front h (ordered_tail a (front ++ h) o)

module _ {S : Type 0} (P : Meaning S) (i : ℕ) where
  -- the answers to client i's reads among these calls
  abbrev own : Call → Answered → List Answered
  own (reading j) a = cond (eqb j i) (a ∷ []) []
  own (event t e) a = []
  own (report t) a = []
  own (opening j s capacity) a = []
  own (closing j) a = []
  own (grab j) a = []
  own (release d s t) a = []

  abbrev reads : World S → List Call → List Answered
  reads w [] = []
  reads w (c ∷ cs) = own c (step P w c).answer ++ reads (step P w c).world cs

  -- what the client hears, where the call does not open a seat for it
  hear_own : (h : List Answered) (c : Call) (a : Answered) → (Opens i (record { call = c; answer = a }) → ⊥) → hear i h c a ≡ h ++ own c a
  hear_own h (reading j) a f = cond_both (eqb j i) (a ∷ []) [] (λ (l : List Answered). cond (eqb j i) (h ++ a ∷ []) h ≡ h ++ l) (λ e. rw e) (λ e. rw e (sym (append-nil h)))
  hear_own h (event t e) a f = sym (append-nil h)
  hear_own h (report t) a f = sym (append-nil h)
  hear_own h (closing j) a f = sym (append-nil h)
  hear_own h (grab j) a f = sym (append-nil h)
  hear_own h (release d s t) a f = sym (append-nil h)
  hear_own h (opening j s capacity) a f =
      cond_both (eqb j i) (hear_open h a) h (λ (l : List Answered). l ≡ h ++ [])
      (λ e. at a (λ n q. f (s, capacity, n, ap (λ (k : ℕ). opening k s capacity) (eqb-true j i e), q)) ∙ sym (append-nil h)) (λ _. sym (append-nil h))
    where
      at : (a : Answered) → ((n : ℕ) → a ≡ number n → ⊥) → hear_open h a ≡ h
      at (Err r) g = refl
      at (Ok (Number n)) g = absurd (g n refl)
      at (Ok (Granted d p)) g = refl
      at (Ok (Read r)) g = refl

  heard_own : (w : World S) (h : List Answered) (cs : List Call) → Each (λ t. Opens i t → ⊥) (turns P w cs) → heard_from i h (turns P w cs) ≡ h ++ reads w cs
  heard_own w h [] f = sym (append-nil h)
  heard_own w h (c ∷ cs) f =
      let a = (step P w c).answer in
      heard_own (step P w c).world (hear i h c a) cs f.1
      ∙ ap (λ (l : List Answered). l ++ reads (step P w c).world cs) (hear_own h c a f.0)
      ∙ append_assoc h (own c a) (reads (step P w c).world cs)

  heard_both : (w : World S) (h : List Answered) (cs ds : List Call) → heard_from i h (turns P w (cs ++ ds)) ≡ heard_from i (heard_from i h (turns P w cs)) (turns P (world_after P w cs) ds)
  heard_both w h [] ds = refl
  heard_both w h (c ∷ cs) ds = heard_both (step P w c).world (hear i h c (step P w c).answer) cs ds

  -- the numbers of the client's lines are those of the report ends that it was told
  numbers_both : (xs ys : List (Line S)) → numbers i (xs ++ ys) ≡ numbers i xs ++ numbers i ys
  numbers_both [] ys = refl
  numbers_both (x ∷ xs) ys =
      cond_both (eqb x.client i) (x.number ∷ numbers i xs) (numbers i xs) (λ (l : List ℕ). cond (eqb x.client i) (x.number ∷ numbers i (xs ++ ys)) (numbers i (xs ++ ys)) ≡ l ++ numbers i ys)
      (λ e. rw e (ap (λ (l : List ℕ). x.number ∷ l) (numbers_both xs ys))) (λ e. rw e (numbers_both xs ys))

  ends_both : (g h : List Answered) → ends_of (g ++ h) ≡ ends_of g ++ ends_of h
  ends_both [] h = refl
  ends_both (a ∷ g) h = ap (λ (l : List ℕ). end_of a ++ l) (ends_both g h) ∙ sym (append_assoc (end_of a) (ends_of g) (ends_of h))

  numbers_end : (l : Bool) (j : ℕ) (s : S) (x : Item) → numbers i (end_lines l j s x) ≡ cond (eqb j i) (cond (is_report_end x) (x.number ∷ []) []) []
  numbers_end l j s x =
      cond_both (is_report_end x) (x.number ∷ []) [] (λ (m : List ℕ). numbers i (end_lines l j s x) ≡ cond (eqb j i) m [])
      (λ e. rw e) (λ e. rw e (sym (cond_both (eqb j i) [] [] (λ (m : List ℕ). m ≡ []) (λ _. refl) (λ _. refl))))

  none_either : (b : Bool) → cond {A = List ℕ} b [] [] ≡ []
  none_either true = refl
  none_either false = refl

  numbers_answer : (j : ℕ) (s : S) (a : Answered) → numbers i (answer_lines j s a) ≡ cond (eqb j i) (end_of a) []
  numbers_answer j s (Ok (Read (Live x))) = numbers_end true j s x
  numbers_answer j s (Ok (Read (CaughtUp x))) = numbers_end false j s x
  numbers_answer j s _ = sym (none_either (eqb j i))

  numbers_call : (w : World S) (c : Call) (a : Answered) → numbers i (call_lines w c a) ≡ ends_of (own c a)
  numbers_call w (reading j) a =
      numbers_answer j (w.clients j).state a
      ∙ cond_both (eqb j i) (a ∷ []) [] (λ (l : List Answered). cond (eqb j i) (end_of a) [] ≡ ends_of l) (λ e. rw e (sym (append-nil (end_of a)))) (λ e. rw e)
  numbers_call w (event t e) a = refl
  numbers_call w (report t) a = refl
  numbers_call w (opening j s capacity) a = refl
  numbers_call w (closing j) a = refl
  numbers_call w (grab j) a = refl
  numbers_call w (release d s t) a = refl

  numbers_reads : (w : World S) (cs : List Call) → numbers i (lines P w cs) ≡ ends_of (reads w cs)
  numbers_reads w [] = refl
  numbers_reads w (c ∷ cs) =
      let v = (step P w c).world in
      let a = (step P w c).answer in
      numbers_both (call_lines v c a) (lines P v cs)
      ∙ (λ k. numbers_call v c a k ++ numbers_reads v cs k)
      ∙ sym (ends_both (own c a) (reads v cs))

pub numbers_rise : {S : Type 0} (P : Meaning S) → (P.sound ≡ true → Laws P) → NumbersRise P
numbers_rise P laws w early during i f no_open =
    let v = world_after P w early in
    let ts = turns P w (early ++ during) in
    let h = heard i (turns P w early) in
    let all : heard i ts ≡ h ++ reads P i v during = heard_both P i w [] early during ∙ heard_own P i v h during no_open in
    let p = faithful P laws w (world_after P w (early ++ during)) ts f (run_of P w (early ++ during)) i in
    let o : Ordered (h ++ reads P i v during) = λ past a later n e t. (p.true_at_ends past a later n (all ∙ e) t).1 in
    subst⁻¹ Rising (numbers_reads P i v during) (rising_of (reads P i v during) (ordered_drop h (reads P i v during) o))
