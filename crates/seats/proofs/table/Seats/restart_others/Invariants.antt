use Rattle.std.proofs.Common.{◌≡◌, ℕ, ◌&&◌, not, cond, nat_lt, nat_eq, length, get_or, None}
use Rattle.seats.specs.Seen.{seen, restarted}
use Rattle.seats.proofs.table.Seats.restart_others.Given as goal

abbrev pub invariant-loop-at : goal.invariant-loop-at
invariant-loop-at l = record {
  long : length l.seat-items ≡ 8;
  each : (k : ℕ) → seen (get_or l.seat-items k None) ≡ cond (nat_lt k l.at && not (nat_eq k l.fn.but.number)) (restarted l.leavings.mark l.leavings.end (seen (get_or l.initial.seat-items k None))) (seen (get_or l.initial.seat-items k None));
}
