-- Calls that are made on one device, up to the first that is refused, and the calls that a driver makes.
use Rattle.std.specs.Prelude.{ℕ, zero, suc, List, [], ◌∷◌, ◌++◌, map, length, Some, None, Ok, Err, Option, Result}
use Rattle.events.specs.declared.items.Event.{Event}
use Rattle.events.specs.declared.refusals.Refusal.{Refusal}
use Rattle.events.specs.Refusals.{number_of}
use Rattle.parts.specs.Meaning.{Meaning}
use Rattle.model.specs.Core.{Core}
use Rattle.model.specs.declared.Call.{Call}
use Rattle.model.specs.declared.Call.TheVariants.{Event as event, Report as report}
use Rattle.model.specs.Answers.{Answered}
use Rattle.model.specs.declared.Answer.TheVariants.{Read}
use Rattle.model.specs.declared.Read.TheVariants.{Nothing}
use Rattle.model.specs.Runs.{World, step}
use Rattle.keyboard.specs.Takes.{Seen}
use Rattle.ps2.specs.Takes.{put_call, take_call, events_taken}
use Rattle.touch.specs.Entries.{entries_of, record_events}
use Rattle.touch.specs.Records.{record_call, legible}
use Rattle.input.specs.Cores.{readiness}

-- the number by which a call was refused, if it was
abbrev pub refusal_in : {A : Type 0} → Result A Refusal → Option ℕ
refusal_in (Err r) = Some (number_of r)
refusal_in (Ok a) = None

-- the device after the calls that were made, and the refusal that ended them, if one did
pub record Made (S : Type 0) : Type 0 where
  pub world : World S
  pub calls : List Call
  pub refusal : Option ℕ

module _ {S : Type 0} where
  -- nothing more is made
  abbrev pub stopped : World S → Option ℕ → Made S
  stopped w r = record { world = w; calls = []; refusal = r }

  -- calls before others
  abbrev pub before : List Call → Made S → Made S
  before cs m = record { world = m.world; calls = cs ++ m.calls; refusal = m.refusal }

  -- after a call that was answered so: on, or to the end
  abbrev pub unless_refused : World S → Option ℕ → Made S → Made S
  unless_refused w None more = more
  unless_refused w (Some n) more = stopped w (Some n)

  -- another core with the same clients
  abbrev pub with_core : World S → Core S → World S
  with_core w k = record { core = k; clients = w.clients }

-- the calls of a driver that offers these events: the events in order, then a report if there was one
abbrev pub driver_calls : ℕ → List Event → List Call
driver_calls t [] = []
driver_calls t (e ∷ es) = map (event t) (e ∷ es) ++ report t ∷ []

module _ {S : Type 0} (P : Meaning S) where
  -- calls up to the first that is refused
  abbrev pub made : World S → List Call → Made S
  made w [] = stopped w None
  made w (c ∷ cs) =
      before (c ∷ []) (unless_refused (step P w c).world (refusal_in (step P w c).answer) (made (step P w c).world cs))

-- a keyboard's driver, and what came of its takes
pub record Typed (S : Type 0) : Type 0 where
  pub keyboard : Seen
  pub made : Made S

-- all the bytes are put, one after another
abbrev pub puts : Seen → List ℕ → Seen
puts b [] = b
puts b (x ∷ xs) = puts (put_call b x) xs

module _ {S : Type 0} where
  abbrev pub typed : Seen → Made S → Typed S
  typed b m = record { keyboard = b; made = m }

  -- calls before what comes of later takes
  abbrev pub typed_before : List Call → Typed S → Typed S
  typed_before cs x = typed x.keyboard (before cs x.made)

  -- after a take that was answered so: a refusal ends it, and so does nothing readable
  abbrev pub unless_done : Seen → World S → Answered → Typed S → Typed S
  unless_done b w (Err r) more = typed b (stopped w (Some (number_of r)))
  unless_done b w (Ok (Read Nothing)) more = typed b (stopped w None)
  unless_done b w _ more = more

module _ {S : Type 0} (P : Meaning S) where
  -- the calls that a take makes: none where it is refused
  abbrev pub take_calls : Result (Unit {0}) Refusal → ℕ → Seen → List Call
  take_calls (Err r) t b = []
  take_calls (Ok _) t b = driver_calls t (events_taken b)

  -- takes, at most n of them, until nothing is readable or one is refused
  abbrev pub takes : ℕ → ℕ → World S → Seen → Typed S
  takes zero t w b = typed b (stopped w None)
  takes (suc n) t w b =
      let x = take_call P w.core b t in
      typed_before (take_calls (readiness P w.core) t b) (unless_done x.keyboard (with_core w x.core) x.answer (takes n t (with_core w x.core) x.keyboard))

  -- all bytes are put, and then taken until nothing is readable: each take takes one
  abbrev pub keys_typed : ℕ → World S → Seen → List ℕ → Typed S
  keys_typed t w b bs = takes (suc (length (puts b bs).waiting)) t w (puts b bs)

-- a touch driver's ids, and what came of its record
pub record Touched (S : Type 0) : Type 0 where
  pub ids : List (Option ℕ)
  pub made : Made S

module _ {S : Type 0} (P : Meaning S) where
  -- the calls that a touch record makes: none where it is refused
  abbrev pub touch_calls : Result (Unit {0}) Refusal → Result (Unit {0}) Refusal → ℕ → List (Option ℕ) → List ℕ → List Call
  touch_calls (Err r) ready t ids bs = []
  touch_calls (Ok _) (Err r) t ids bs = []
  touch_calls (Ok _) (Ok _) t ids bs = driver_calls t (record_events ids (entries_of bs))

  -- one record
  abbrev pub record_touched : ℕ → World S → List (Option ℕ) → List ℕ → Touched S
  record_touched t w ids bs =
      let x = record_call P w.core ids t bs in
      record {
        ids = x.ids;
        made = record { world = with_core w x.core; calls = touch_calls (legible bs) (readiness P w.core) t ids bs; refusal = refusal_in x.answer };
      }
