use Rattle.std.proofs.Common.{refl, arith}
use Rattle.std.proofs.lemmas.Grind.{common_steps}
use Rattle.model.specs.Core.{put_seat}
use Rattle.seats.proofs.Changed.{row_under, rows_are}
use Rattle.seats.proofs.table.Seats.put_all.Goals as goal

pub returns : goal.returns
returns c = rows_are _ _ (grind (arith, common_steps)) (λ k h. grind (arith, common_steps, c.loop-seat.invariant.each k, row_under c.args.self.now.seats (put_seat c.args.item) k refl))
