use Rattle.std.proofs.Common.{◌≡◌, ◌+◌, length, drop}
use Rattle.slots.specs.SlotsPart.{order, selections, selections_made}
use Rattle.slots.proofs.Slots.count_selections.Given as goal

-- those so far are counted, and the rest of the order is to come
abbrev pub invariant-loop-i : goal.invariant-loop-i
invariant-loop-i l = record {
  can : (goal.iterator-loop-i).can_next l.i-iterator;
  finite : (goal.iterator-loop-i).is_finite l.i-iterator;
  made : l.count + selections l.at (drop (length l.yielded) (order l.fn.self l.fn.target)) ≡ selections_made l.fn.self l.fn.target;
}
