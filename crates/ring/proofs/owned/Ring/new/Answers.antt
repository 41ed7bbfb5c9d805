use Rattle.ring.proofs.RunLaws.{run_laws}
use Rattle.ring.proofs.owned.Ring.new.Goals as goal

pub returns-clause-runs : goal.returns-clause-runs
returns-clause-runs g c = run_laws g.T.RingItem.closing g.T.RingItem.lost c.args.capacity.items c.args.capacity.low
