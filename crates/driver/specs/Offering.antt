-- A driver's call as a list of the calls that it makes of its core.
use Rattle.std.specs.Prelude.{ℕ, List, [], ◌∷◌}
use Rattle.events.specs.declared.items.Event.{Event}
use Rattle.parts.specs.Meaning.{Meaning}
use Rattle.model.specs.Core.{Core, Left, left}
use Rattle.model.specs.Calls.{event_call, report_call}
use Rattle.model.specs.Answers.{number}

module _ {S : Type 0} (P : Meaning S) where
  -- the core after these events were offered in order; what it refuses is passed over
  abbrev pub offered : Core S → ℕ → List Event → Core S
  offered k t [] = k
  offered k t (e ∷ es) = offered (event_call P k t e).core t es

  -- all events, then a report if there was an event; 0 without one
  abbrev pub driven : Core S → ℕ → List Event → Left S
  driven k t [] = left k (number 0)
  driven k t (e ∷ es) = report_call P (offered k t (e ∷ es)) t
