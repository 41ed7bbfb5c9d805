-- A seat as its users see it: free, or taken with its capacity and the items that wait, oldest first.
use Rattle.std.specs.Prelude.{ℕ, [], ◌∷◌, Some, None, Option}
use Rattle.std.specs.Option.{option_to_list}
use Rattle.events.specs.declared.items.Item.{Item}
use Rattle.ring.specs.Rings.{capacity_of, waiting_in}
use Rattle.ring.specs.Waiting.{left_of}
use Rattle.ring.specs.declared.RingItem.{Ghosts}
use Rattle.ring.specs.declared.owned.Ring.{Ring}
use Rattle.model.specs.Core.{Seat as Place, take}
use Rattle.model.specs.Core.Seat.{free, taken_by}

abbrev pub seen : {N : ℕ} {g : Ghosts Item} → Option (Ring Item N g) → Place
seen None = free
seen (Some r) = taken_by (capacity_of r) (waiting_in r)

-- the ring without the item that a take removes
abbrev pub taken_from : Place → Place
taken_from free = free
taken_from (taken_by c q) = taken_by c (left_of q (take q))

-- the ring emptied
abbrev pub emptied : Place → Place
emptied free = free
emptied (taken_by c q) = taken_by c []

-- the ring with a mark alone, or with a mark and a report end
abbrev pub restarted : Item → Option Item → Place → Place
restarted mark end free = free
restarted mark end (taken_by c q) = taken_by c (mark ∷ option_to_list end)
