-- What a read does, from the client's phase and the waiting items.
use Rattle.std.specs.Prelude.{ℕ, Bool, true, false, cond, List, [], Some, None, Option, slice_set}
use Rattle.events.specs.Items.{item, report_end, is_report_end, is_loss_mark}
use Rattle.ring.specs.Waiting.{Took, none, one}
use Rattle.parts.specs.Meaning.{Meaning}
use Rattle.model.specs.Answers.{Answered, refused, nothing, report_open, barred_off, skipped, live, caught_up}
use Rattle.events.specs.declared.items.Event.{Event}
use Rattle.events.specs.declared.items.Item.{Item}
use Rattle.model.specs.declared.Phase.{Phase}
use Rattle.model.specs.declared.Phase.TheVariants.{NotOpen, InStep, Lost, Due, CatchingUp}
use Rattle.model.specs.Core.{Client, Core, Met, seat_at, waiting, room, barred, take, met, with_seats}
use Rattle.model.specs.Core.Seat.{taken_by}
use Rattle.model.specs.Calls.{for_client}

-- what a read leaves in the ring and the client, with its answer
pub record Got (S : Type 0) : Type 0 where
  pub ring : List Item
  pub client : Client S
  pub answer : Answered

-- the client with another phase and state
abbrev pub moved : {S : Type 0} → Client S → Phase → S → Client S
moved c p s =
    record { phase = p; state = s; target = c.target; device = c.device; seat = c.seat }

-- the client with the device's state as its target, to be caught up with the last report ended
abbrev pub bound_for : {S : Type 0} → Client S → Core S → Client S
bound_for c k =
    record { phase = CatchingUp k.reports k.time; state = c.state; target = k.state; device = c.device; seat = c.seat }

module _ {S : Type 0} (P : Meaning S) where
  abbrev pub got : List Item → Client S → Answered → Got S
  got q c a = record { ring = q; client = c; answer = a }

  -- a report end makes a lost client due
  abbrev pub after_lost : Bool → Phase
  after_lost true = Due
  after_lost false = Lost

  -- catching up with the report numbered n that ended at time t: the next event towards the target, or the report end
  abbrev pub catch : ℕ → ℕ → List Item → Client S → Option Event → Got S
  catch n t q c None = got q (moved c InStep c.state) (caught_up (item report_end t n))
  catch n t q c (Some e) = got q (moved c (CatchingUp n t) (P.taken c.state e)) (caught_up (item e t n))

  -- in step: a loss mark is skipped and the client is lost, anything else is taken and told live
  abbrev pub in_step : List Item → Client S → Took Item → Got S
  in_step q c none = got q c nothing
  in_step q c (one x r) =
      cond (is_loss_mark x) (got r (moved c Lost c.state) (skipped x)) (got r (moved c InStep (P.taken c.state x.event)) (live x))

  -- lost: items are skipped up to a report end
  abbrev pub lost : List Item → Client S → Took Item → Got S
  lost q c none = got q c nothing
  lost q c (one x r) = got r (moved c (after_lost (is_report_end x)) c.state) (skipped x)

  -- due: not inside an open report, not while another client holds the grab; else the target is set, the ring emptied, and the client catches up
  abbrev pub due : Core S → List Item → Client S → Got S
  due k q c =
      cond k.reporting (got q c report_open)
      (cond (barred k.holder c.seat) (got q c barred_off)
      (catch k.reports k.time [] (bound_for c k) (P.next c.state k.state)))

  -- what a read does, from the client's phase and the waiting items
  abbrev pub look : Core S → List Item → Client S → Phase → Got S
  look k q c NotOpen = got q c nothing
  look k q c InStep = in_step q c (take q)
  look k q c Lost = lost q c (take q)
  look k q c Due = due k q c
  look k q c (CatchingUp n t) = catch n t q c (P.next c.state c.target)

  -- the ring and the client as a read leaves them
  abbrev pub looked : Core S → Client S → Got S → Met S
  looked k c g =
      met (with_seats k (slice_set k.seats c.seat (taken_by (room (seat_at k.seats c.seat)) g.ring))) g.client g.answer

  -- read: 5, 23, 24, 23
  unfoldable pub read_call : Core S → Client S → Met S
  read_call k c =
      for_client P (λ n. met k c (refused n)) k c (looked k c (look k (waiting (seat_at k.seats c.seat)) c c.phase))
