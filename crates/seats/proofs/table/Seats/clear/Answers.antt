use Rattle.std.proofs.Common.{arith, rules}
use Rattle.seats.specs.Seen.{emptied}
use Rattle.seats.proofs.Changed.{seat_changed}
use Rattle.seats.proofs.table.Seats.clear.Goals as goal

pub returns-in-Some : goal.returns-in-Some
returns-in-Some c = seat_changed _ emptied _ c.index-seats-seat.result _ (omega arith) (search rules)
