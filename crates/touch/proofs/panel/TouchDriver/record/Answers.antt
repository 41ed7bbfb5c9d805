use Rattle.std.proofs.Common.{◌≡◌, ℕ, true, is_ok, Ok, Err, Result, sym, refl, ◌∙◌}
use Rattle.std.proofs.lemmas.Bool.{true≢false}
use Rattle.events.specs.declared.refusals.Refusal.{Refusal}
use Rattle.model.specs.Answers.{number}
use Rattle.input.specs.Answers.{answered}
use Rattle.input.specs.Cores.{shown}
use Rattle.driver.proofs.Offered.{is_ready, report_answers}
use Rattle.touch.proofs.panel.TouchDriver.«record».Goals as goal

ok_from : (r : Result ℕ Refusal) (n : ℕ) → answered r ≡ number n → is_ok r ≡ true
ok_from (Ok x) n h = refl
ok_from (Err e) n h = cc

-- a core that was ready refuses no report
pub returns-clause-refused : goal.returns-clause-refused
returns-clause-refused g c f =
    let P = g.P.Part.means in
    let sound = (is_ready P (shown c.args.core.now) tt (sym c.ready.ensures ∙ c.in_ok-ready.was)).0 in
    let a = report_answers P (shown c.offer_record.new.core) _ sound in
    absurd (true≢false (sym (ok_from c.report.result a.0 (c.report.ensures.value ∙ a.1)) ∙ f))
