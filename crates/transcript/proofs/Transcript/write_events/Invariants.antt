use Rattle.std.proofs.Common.{◌≡◌, ◌++◌, string_bytes}
use Rattle.decoder.specs.Offers.{events_of}
use Rattle.transcript.specs.Events.{event_lines}
use Rattle.transcript.specs.Feeding.{tally}
use Rattle.transcript.proofs.Transcript.write_events.Given as goal

-- what is written with the lines still to come is the whole, and so with the count; the rest of the transcript stays
abbrev pub invariant-loop-event : goal.invariant-loop-event
invariant-loop-event l =
    (string_bytes l.text ++ event_lines (events_of l.event-iterator) ≡ string_bytes l.initial.text ++ event_lines (events_of l.initial.event-iterator))
    × (tally l.self.offered (events_of l.event-iterator) ≡ tally l.initial.self.offered (events_of l.initial.event-iterator))
    × (l.self.keyboard ≡ l.initial.self.keyboard) × (l.self.taken ≡ l.initial.self.taken)
