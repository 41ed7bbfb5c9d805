-- The grab that is kept for the one who holds it.
use Rattle.std.specs.Prelude.{◌≡◌, ℕ, Bool, true, false, ◌&&◌, Some, None, Option, ◌==◌}
use Rattle.model.specs.Core.{Core as Model, Holder}
use Rattle.model.specs.Core.Holder.{nobody, held}
use Rattle.input.specs.declared.cores.Grab.{Grab}

-- whether a kept grab bears these numbers
abbrev pub bears : Option Grab → ℕ → ℕ → Bool
bears None d s = false
bears (Some g) d s = g.device == d && g.seat.number == s

-- whether the grab that is kept, if any, is the one that is held at a device
abbrev pub tied : Option Grab → ℕ → Holder → Bool
tied None d nobody = true
tied None d (held h) = false
tied (Some g) d nobody = false
tied (Some g) d (held h) = g.device == d && g.seat.number == h

-- the grab that is kept is the one that the core's holder was handed
abbrev pub Kept : {S : Type 0} → Option Grab → Model S → Type 0
Kept o k = tied o k.device k.holder ≡ true
