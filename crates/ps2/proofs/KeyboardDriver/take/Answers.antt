use Rattle.std.proofs.Common.{sym, ◌∙◌}
use Rattle.decoder.specs.Offers.{events_of}
use Rattle.input.specs.Cores.{shown}
use Rattle.driver.proofs.Offered.{is_ready, driven_answers}
use Rattle.ps2.proofs.KeyboardDriver.take.Goals as goal

-- a core that was ready refuses no report
pub returns-in_err-drive-clause-refused : goal.returns-in_err-drive-clause-refused
returns-in_err-drive-clause-refused g c =
    let P = g.P.Part.means in
    let k = shown c.args.core.now in
    let sound = (is_ready P k tt (sym c.ready.ensures ∙ c.in_ok-ready.was)).0 in
    let a = driven_answers P k c.args.time (events_of c.in-Some.offer) sound in
    cc (a.1, c.in_err-drive.ensures.value)
