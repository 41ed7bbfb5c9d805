-- A ring with slots of its own, as its users see it.
use Rattle.std.specs.Prelude.{ℕ, List, take}
use Rattle.ring.specs.Waiting.{waiting}
use Rattle.ring.specs.declared.RingItem.{Ghosts}
use Rattle.ring.specs.declared.owned.Ring.{Ring}

-- how many items it has room for
abbrev pub capacity_of : {T : Type 0} {N : ℕ} {g : Ghosts T} → Ring T N g → ℕ
capacity_of r = r.capacity.items

-- the items that wait, oldest first
abbrev pub waiting_in : {T : Type 0} {N : ℕ} {g : Ghosts T} → Ring T N g → List T
waiting_in r = waiting (take r.capacity.items r.slots) r.span
