use Rattle.std.proofs.Common.{◌≡◌, ℕ, cond, nat_lt, length, get_or, None}
use Rattle.model.specs.Core.{put_seat}
use Rattle.seats.specs.Seen.{seen}
use Rattle.seats.proofs.table.Seats.put_all.Given as goal

abbrev pub invariant-loop-seat : goal.invariant-loop-seat
invariant-loop-seat l = record {
  long : length l.seat-items ≡ 8;
  each : (k : ℕ) → seen (get_or l.seat-items k None) ≡ cond (nat_lt k l.seat-index) (put_seat l.item (seen (get_or l.initial.seat-items k None))) (seen (get_or l.initial.seat-items k None));
}
