use Rattle.std.proofs.Common.{◌≡◌, ℕ, ◌-◌, List, ◌++◌}
use Rattle.std.specs.Fmt.{HasWritten, IsPlainFormatter}
use Rattle.slots.specs.SlotsPart.{finger}
use Rattle.slots.specs.SlotWords.{words_from, slot_words}
use Rattle.slots.proofs.display.SlotsDisplay.fmt.Given as goal

-- what is written, with the words still to come, is the whole
abbrev pub invariant-loop-i : goal.invariant-loop-i
invariant-loop-i g l =
    IsPlainFormatter l.initial.f → (done : List ℕ) × HasWritten g.W.Write.write_str_gives l.initial.f done l.f × (done ++ words_from (finger l.self) l.i-counter (10 - l.i-counter) ≡ slot_words l.self)
