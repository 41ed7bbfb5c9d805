use Rattle.std.proofs.Common.{◌≤◌, length, arith}
use Rattle.std.proofs.lemmas.Bool.Decides.{nat_tests}
use Rattle.ring.proofs.RunLaws.{run_laws}
use Rattle.ring.proofs.start.Goals as goal

pub returns-clause-runs : goal.returns-clause-runs
returns-clause-runs g c =
    let two : 2 ≤ length c.args.slots.now = grind (arith, nat_tests, c.in_ok-check_capacity.ensures) in
    run_laws g.T.RingItem.closing g.T.RingItem.lost (length c.args.slots.now) two
