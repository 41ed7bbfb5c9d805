-- What a driver does to a core leaves the grab that is out on it.
use Rattle.std.proofs.Common.{ℕ, List, [], ◌∷◌, Ok, Err, Option, Result, arith}
use Rattle.events.specs.declared.items.Event.{Event}
use Rattle.events.specs.declared.refusals.Refusal.{Refusal}
use Rattle.parts.specs.Meaning.{Meaning}
use Rattle.model.specs.Core.{Core}
use Rattle.model.specs.Calls.{event_call}
use Rattle.input.specs.declared.cores.Grab.{Grab}
use Rattle.input.specs.Cores.{readiness}
use Rattle.driver.specs.Offering.{offered, driven}
use Rattle.keyboard.specs.Takes.{Seen}
use Rattle.ps2.specs.Takes.{take_call, if_ready, events_taken}
use Rattle.touch.specs.Entries.{entries_of, record_events}
use Rattle.touch.specs.Records.{Touched, record_call, legible, unless, handled}
use Rattle.stage.specs.Kept.{Kept}
use Rattle.stage.proofs.Kept.{untouched}

module _ {S : Type 0} (P : Meaning S) (o : Option Grab) (t : ℕ) where
  kept_offered : (es : List Event) (k : Core S) → Kept o k → Kept o (offered P k t es)
  kept_offered [] k h = h
  kept_offered (e ∷ es) k h = kept_offered es (event_call P k t e).core (grind (arith, untouched))

  kept_driven : (es : List Event) (k : Core S) → Kept o k → Kept o (driven P k t es).core
  kept_driven [] k h = h
  kept_driven (e ∷ es) k h = let q = kept_offered (e ∷ es) k h in grind (arith, untouched)

  pub kept_take : (k : Core S) (b : Seen) → Kept o k → Kept o (take_call P k b t).core
  kept_take k b h = go (readiness P k)
    where
      go : (r : Result (Unit {0}) Refusal) → Kept o (if_ready P k b t r).core
      go (Err r) = h
      go (Ok u) = kept_driven (events_taken b) k h

  pub kept_record : (k : Core S) (ids : List (Option ℕ)) (bs : List ℕ) → Kept o k → Kept o (record_call P k ids t bs).core
  kept_record k ids bs h = grounds (legible bs) _ (grounds (readiness P k) _ made)
    where
      made : Kept o (handled P k ids t bs).core
      made = let q = kept_offered (record_events ids (entries_of bs)) k h in grind (arith, untouched)

      grounds : (r : Result (Unit {0}) Refusal) (x : Touched S) → Kept o x.core → Kept o (unless P k ids r x).core
      grounds (Err r) x p = h
      grounds (Ok u) x p = p
