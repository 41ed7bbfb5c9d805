use Rattle.std.proofs.Common.{◌≡◌, drop}
use Rattle.input.specs.Cores.{shown}
use Rattle.driver.specs.Offering.{offered}
use Rattle.driver.proofs.offer_all.Given as goal

-- the events still to come lead to where all of them led
abbrev pub invariant-loop-event : goal.invariant-loop-event
invariant-loop-event g l =
    offered g.P.Part.means (shown l.core) l.time (drop l.event-index l.events)
    ≡ offered g.P.Part.means (shown l.initial.core) l.time l.events
