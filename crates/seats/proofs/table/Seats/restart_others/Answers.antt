use Rattle.std.proofs.Common.{refl, arith}
use Rattle.std.proofs.lemmas.Grind.{common_steps}
use Rattle.seats.specs.Seen.{restarted}
use Rattle.seats.proofs.Changed.{row_at, row_under, rows_are}
use Rattle.seats.proofs.table.Seats.restart_others.Goals as goal

pub returns : goal.returns
returns c =
    let s = c.args.self.now.seats in
    rows_are _ _ (grind (arith, common_steps)) (λ k h. grind (arith, common_steps, c.loop-at.invariant.each k, row_at s k, row_under s (restarted c.args.leavings.mark c.args.leavings.end) k refl))
