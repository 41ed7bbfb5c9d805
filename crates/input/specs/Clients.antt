-- A client as its users see it, and what it makes of an item.
use Rattle.std.specs.Prelude.{[], Some, None, Option}
use Rattle.events.specs.declared.items.Item.{Item}
use Rattle.parts.specs.Meaning.{Meaning}
use Rattle.ring.specs.Waiting.{Took, none, one}
use Rattle.model.specs.Core.{Client as Model}
use Rattle.model.specs.Reads.{Got, got, in_step, lost, catch}
use Rattle.model.specs.declared.Phase.{Phase}
use Rattle.model.specs.declared.Phase.TheVariants.{NotOpen, InStep, Lost, Due, CatchingUp}
use Rattle.model.specs.Answers.{nothing}
use Rattle.input.specs.declared.client.Client.{Client}

abbrev pub held : {P : Type 0} → Client P → Model P
held c = record { phase = c.phase; state = c.state; target = c.target; device = c.device; seat = c.seat.number }

abbrev pub took : Option Item → Took Item
took None = none
took (Some x) = one x []

module _ {S : Type 0} (P : Meaning S) where
  -- a client just made
  abbrev pub fresh : Model S
  fresh = record { phase = NotOpen; state = P.empty; target = P.empty; device = 0; seat = 0 }

  -- what a client answers in a phase, and what it is then
  abbrev pub reply : Model S → Option Item → Phase → Got S
  reply c o NotOpen = got P [] c nothing
  reply c o InStep = in_step P [] c (took o)
  reply c o Lost = lost P [] c (took o)
  reply c o Due = got P [] c nothing
  reply c o (CatchingUp n t) = catch P n t [] c (P.next c.state c.target)
