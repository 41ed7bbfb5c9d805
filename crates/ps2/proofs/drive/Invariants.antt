use Rattle.std.proofs.Common.{◌≡◌}
use Rattle.decoder.specs.Offers.{events_of}
use Rattle.input.specs.Cores.{shown}
use Rattle.driver.specs.Offering.{offered}
use Rattle.ps2.proofs.drive.Given as goal

-- the events still to come lead to where all of them led
abbrev pub invariant-loop-event : goal.invariant-loop-event
invariant-loop-event g l =
    offered g.P.Part.means (shown l.core) l.time (events_of l.event-iterator) ≡ offered g.P.Part.means (shown l.initial.core) l.time (events_of l.initial.event-iterator)
