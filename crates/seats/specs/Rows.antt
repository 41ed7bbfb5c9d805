-- The eight seats as their users see them.
use Rattle.std.specs.Prelude.{ℕ, List, map, slice_set}
use Rattle.model.specs.Core.{Seat as Place, seat_at}
use Rattle.seats.specs.Seen.{seen}
use Rattle.seats.specs.declared.table.Seats.{Seats}

abbrev pub rows : Seats → List Place
rows t = map seen t.seats

-- one seat changed
abbrev pub change : (Place → Place) → ℕ → List Place → List Place
change f i ls = slice_set ls i (f (seat_at ls i))
