use Rattle.std.proofs.Common.{replicate, refl, ap}
use Rattle.slots.specs.declared.Slot.{Slot}
use Rattle.slots.specs.SlotsPart.{unused}
use Rattle.slots.specs.SlotLaws.{same_slot}
use Rattle.slots.specs.SlotsLaws.{same_slots}
use Rattle.slots.proofs.part.SlotsPart.empty.Goals as goal

pub returns : goal.returns
returns c = same_slots _ _ (ap (λ (x : Slot). replicate 10 x) (same_slot _ unused refl refl refl)) refl
