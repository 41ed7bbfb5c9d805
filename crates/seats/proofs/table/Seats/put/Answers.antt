use Rattle.std.proofs.Common.{arith}
use Rattle.model.specs.Core.{put_seat}
use Rattle.seats.proofs.Changed.{seat_changed}
use Rattle.seats.proofs.table.Seats.put.Goals as goal

pub returns : goal.returns
returns c = seat_changed _ (put_seat c.args.item) _ _ _ (omega arith) c.put.ensures
