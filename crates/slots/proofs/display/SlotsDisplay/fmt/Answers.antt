use Rattle.std.proofs.Common.{◌++◌, [], sym, ap, ◌∙◌, append-nil, arith, rules}
use Rattle.std.proofs.lemmas.List.{get_or_default}
use Rattle.std.proofs.Output.{has_written_append, has_written_of_eq, has_written_to_eq}
use Rattle.slots.specs.SlotsPart.{unused, finger_of, finger}
use Rattle.slots.specs.SlotWords.{finger_word, slot_word}
use Rattle.slots.proofs.SlotWordLaws.{word_on, words_end}
use Rattle.slots.proofs.display.SlotsDisplay.fmt.Goals as goal
use Rattle.slots.proofs.display.SlotsDisplay.fmt.Goals.{in-Some+in_ok-write, in_default}

pub loop-i-preserved : goal.loop-i-preserved
loop-i-preserved g c = λ plain.
    let so_far = c.loop-i.invariant plain in
    let i = c.loop-i.i-counter in
    let here = c.finger.ensures ∙ ap finger_of (get_or_default c.args.self.now.slots i c.slot-item.result unused (omega (arith, c.args.self.now.ok.0))) in
    elim c.match-finger.branch [
      | in-Some+in_ok-write w ↦ (
        so_far.0 ++ finger_word i w.in-Some.x w.in-Some.y,
        has_written_append _ _ _ _ _ _ so_far.1 (has_written_to_eq _ _ _ _ _ w.f-is (search rules)),
        word_on (finger c.args.self.now) i so_far.0 (finger_word i w.in-Some.x w.in-Some.y) _ (omega arith) (ap (slot_word i) (sym w.in-Some.is ∙ here)) so_far.2,
      )
      | in_default w ↦ (
        so_far.0 ++ [],
        has_written_to_eq _ _ _ _ _ w.f-is (has_written_of_eq _ _ _ _ _ (sym (append-nil so_far.0)) so_far.1),
        word_on (finger c.args.self.now) i so_far.0 [] _ (omega arith) (ap (slot_word i) (sym w.in_default.is ∙ here)) so_far.2,
      )
    ]

pub returns-clause-writes : goal.returns-clause-writes
returns-clause-writes g c = λ plain _. let so_far = c.loop-i.invariant plain in has_written_of_eq _ _ _ _ _ (words_end (finger c.args.self.now) c.loop-i.i-counter so_far.0 _ (omega arith) so_far.2) so_far.1
