use Rattle.std.proofs.Common.{arith, rules}
use Rattle.seats.specs.Seen.{taken_from}
use Rattle.seats.proofs.Changed.{seat_changed}
use Rattle.seats.proofs.table.Seats.take.Goals as goal

pub returns-clause-after : goal.returns-clause-after
returns-clause-after c = seat_changed _ taken_from _ c.index-seats-seat.result _ (omega arith) (search rules)
