-- What a keyboard's driver does with one byte.
use Rattle.std.specs.Prelude.{ℕ, List, [], Some, None, Ok, Err, Option, Result}
use Rattle.events.specs.declared.items.Event.{Event}
use Rattle.events.specs.declared.refusals.Refusal.{Refusal}
use Rattle.parts.specs.Meaning.{Meaning}
use Rattle.ring.specs.Waiting.{after_put}
use Rattle.ring.specs.Bytes.{lost_byte}
use Rattle.decoder.specs.declared.offers.Offer.{Offer}
use Rattle.decoder.specs.Offers.{events_of}
use Rattle.keyboard.specs.Takes.{Seen, take_seen}
use Rattle.model.specs.Core.{Core}
use Rattle.model.specs.Answers.{Answered, number, nothing}
use Rattle.input.specs.Cores.{readiness}
use Rattle.driver.specs.Offering.{driven}

-- what a take of the driver is answered, in the model's words
abbrev pub take_answered : Result (Option ℕ) Refusal → Answered
take_answered (Ok None) = nothing
take_answered (Ok (Some n)) = number n
take_answered (Err r) = Err r

-- a byte is put into the ring of 16
abbrev pub put_call : Seen → ℕ → Seen
put_call b byte = record { waiting = after_put lost_byte 16 b.waiting byte; decoder = b.decoder }

-- the events of what was offered, none where nothing was readable
abbrev pub events_in : Option Offer → List Event
events_in None = []
events_in (Some o) = events_of o

-- the events that a take of this keyboard offers
abbrev pub events_taken : Seen → List Event
events_taken b = events_in (take_seen b).offer

-- the keyboard and the core after a take, with the answer
pub record Taken (S : Type 0) : Type 0 where
  pub keyboard : Seen
  pub core : Core S
  pub answer : Answered

abbrev pub taken : {S : Type 0} → Seen → Core S → Answered → Taken S
taken b k a = record { keyboard = b; core = k; answer = a }

-- nothing where no byte was readable, else what the events and the report were answered
abbrev pub answer_of : Option Offer → Answered → Answered
answer_of None a = nothing
answer_of (Some o) a = a

module _ {S : Type 0} (P : Meaning S) where
  -- one byte through the decoder, its events and a report to the core
  abbrev pub handled : Core S → Seen → ℕ → Taken S
  handled k b t =
      taken (take_seen b).keyboard (driven P k t (events_taken b)).core (answer_of (take_seen b).offer (driven P k t (events_taken b)).answer)

  -- refused by 5 and 28 with everything as it was, and handled otherwise
  abbrev pub if_ready : Core S → Seen → ℕ → Result (Unit {0}) Refusal → Taken S
  if_ready k b t (Err r) = taken b k (Err r)
  if_ready k b t (Ok _) = handled k b t

  -- take: 5, 28
  abbrev pub take_call : Core S → Seen → ℕ → Taken S
  take_call k b t = if_ready k b t (readiness P k)
