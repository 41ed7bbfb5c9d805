-- What the events of a driver's call leave behind.
use Rattle.std.proofs.Common.{◌≡◌, ℕ, suc, true, false, cond, not, eqb, List, [], ◌∷◌, ◌++◌, Ok, sym, refl, ap, ◌∙◌, arith}
use Rattle.std.proofs.lemmas.Bool.{cond-false, cond_both}
use Rattle.events.specs.declared.items.Event.{Event}
use Rattle.parts.specs.declared.Verdict.{Verdict}
use Rattle.parts.specs.declared.Verdict.TheVariants.{Stranger, BadValue, Same, Passing, Change}
use Rattle.parts.specs.Meaning.{Meaning}
use Rattle.parts.specs.Walk.{after}
use Rattle.model.specs.Answers.{refused, number}
use Rattle.model.specs.Core.{Core, Left, left, most}
use Rattle.model.specs.Calls.{accepted, ended, judged, event_call, report_call}
use Rattle.input.specs.Cores.{readiness}
use Rattle.driver.specs.Offering.{offered, driven}

-- an event that is no change leaves the state
abbrev pub Stays : {S : Type 0} → Meaning S → Type 0
Stays {S} P = (s : S) (e : Event) → (P.verdict s e ≡ Change → ⊥) → P.taken s e ≡ s

module _ {S : Type 0} (P : Meaning S) where
  -- events after others
  pub offered-++ : (k : Core S) (t : ℕ) (es fs : List Event) → offered P k t (es ++ fs) ≡ offered P (offered P k t es) t fs
  offered-++ k t [] fs = refl
  offered-++ k t (e ∷ es) fs = offered-++ (event_call P k t e).core t es fs

  -- a core that is ready is sound, and its reports are not spent
  pub is_ready : (k : Core S) (u : Unit {0}) → readiness P k ≡ Ok u → (P.sound ≡ true) × (eqb k.reports most ≡ false)
  is_ready k u h = grind arith

  -- a report of a sound core answers a number, and leaves the state
  module _ (k : Core S) (t : ℕ) (sound : P.sound ≡ true) where
    report_is : report_call P k t ≡ cond k.reporting (left (ended P k t) (number (suc k.reports))) (left k (number 0))
    unfolding report_call
    report_is = cond-false (not P.sound) _ _ (ap not sound)

    pub report_answers : (n : ℕ) × ((report_call P k t).answer ≡ number n)
    report_answers =
        cond_both k.reporting (left (ended P k t) (number (suc k.reports))) (left k (number 0))
        (λ (o : Left S). report_call P k t ≡ o → (n : ℕ) × ((report_call P k t).answer ≡ number n))
        (λ _ e. (suc k.reports, ap (λ (o : Left S). o.answer) e))
        (λ _ e. (0, ap (λ (o : Left S). o.answer) e))
        report_is

    pub report_state : (report_call P k t).core.state ≡ k.state
    report_state =
        ap (λ (o : Left S). o.core.state) report_is
        ∙ cond_both k.reporting (left (ended P k t) (number (suc k.reports))) (left k (number 0)) (λ (o : Left S). o.core.state ≡ k.state) (λ _. refl) (λ _. refl)

  -- so does a driver's call
  pub driven_answers : (k : Core S) (t : ℕ) (es : List Event) → P.sound ≡ true → (n : ℕ) × ((driven P k t es).answer ≡ number n)
  driven_answers k t [] sound = (0, refl)
  driven_answers k t (e ∷ es) sound = report_answers (offered P k t (e ∷ es)) t sound

  -- the state takes every event that is offered, while the core is sound and its reports are not spent; what is no change leaves it
  module _ (stays : Stays P) (sound : P.sound ≡ true) where
    event_is : (k : Core S) (t : ℕ) (e : Event) → event_call P k t e ≡ judged P k t e (P.verdict k.state e)
    unfolding event_call
    event_is k t e = cond-false (not P.sound) _ _ (ap not sound)

    judged_reports : (k : Core S) (t : ℕ) (e : Event) (v : Verdict) → (judged P k t e v).core.reports ≡ k.reports
    judged_reports k t e Stranger = refl
    judged_reports k t e BadValue = refl
    judged_reports k t e Same = cond_both (eqb k.reports most) (left k (refused 28)) (left k (number 0)) (λ (o : Left S). o.core.reports ≡ k.reports) (λ _. refl) (λ _. refl)
    judged_reports k t e Passing = cond_both (eqb k.reports most) (left k (refused 28)) (left (accepted P k t e) (number 1)) (λ (o : Left S). o.core.reports ≡ k.reports) (λ _. refl) (λ _. refl)
    judged_reports k t e Change = cond_both (eqb k.reports most) (left k (refused 28)) (left (accepted P k t e) (number 1)) (λ (o : Left S). o.core.reports ≡ k.reports) (λ _. refl) (λ _. refl)

    judged_state : (k : Core S) (t : ℕ) (e : Event) (v : Verdict) → P.verdict k.state e ≡ v → eqb k.reports most ≡ false → (judged P k t e v).core.state ≡ P.taken k.state e
    judged_state k t e Stranger h f = sym (stays k.state e (λ c. cc))
    judged_state k t e BadValue h f = sym (stays k.state e (λ c. cc))
    judged_state k t e Same h f =
        ap (λ (o : Left S). o.core.state) (cond-false (eqb k.reports most) (left k (refused 28)) (left k (number 0)) f)
        ∙ sym (stays k.state e (λ c. cc))
    judged_state k t e Passing h f = ap (λ (o : Left S). o.core.state) (cond-false (eqb k.reports most) (left k (refused 28)) (left (accepted P k t e) (number 1)) f)
    judged_state k t e Change h f = ap (λ (o : Left S). o.core.state) (cond-false (eqb k.reports most) (left k (refused 28)) (left (accepted P k t e) (number 1)) f)

    pub offered_state : (k : Core S) (t : ℕ) (es : List Event) → eqb k.reports most ≡ false → (offered P k t es).state ≡ after P k.state es
    offered_state k t [] f = refl
    offered_state k t (e ∷ es) f =
        let o = event_is k t e in
        let r : (event_call P k t e).core.reports ≡ k.reports = ap (λ (x : Left S). x.core.reports) o ∙ judged_reports k t e (P.verdict k.state e) in
        let s : (event_call P k t e).core.state ≡ P.taken k.state e = ap (λ (x : Left S). x.core.state) o ∙ judged_state k t e (P.verdict k.state e) refl f in
        offered_state (event_call P k t e).core t es (ap (λ (n : ℕ). eqb n most) r ∙ f) ∙ ap (λ (x : S). after P x es) s

    pub driven_state : (k : Core S) (t : ℕ) (es : List Event) → eqb k.reports most ≡ false → (driven P k t es).core.state ≡ after P k.state es
    driven_state k t [] f = refl
    driven_state k t (e ∷ es) f = report_state (offered P k t (e ∷ es)) t sound ∙ offered_state k t (e ∷ es) f
