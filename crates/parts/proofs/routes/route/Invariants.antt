use Rattle.std.proofs.Common.{◌≡◌, ◌++◌, vec_items}
use Rattle.parts.specs.Walk.{walk}
use Rattle.parts.proofs.routes.route.Given as goal

abbrev pub invariant-loop-event : goal.invariant-loop-event
invariant-loop-event g l = vec_items l.events ++ walk g.P.Part.means l.state l.to ≡ walk g.P.Part.means l.from l.to

abbrev pub decreases-loop-event : goal.decreases-loop-event
decreases-loop-event g l = g.P.Part.means.distance l.state l.to
