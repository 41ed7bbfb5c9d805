use Rattle.std.proofs.Common.{rules}
use Rattle.touch.proofs.EntryLaws.{above_chunks}
use Rattle.touch.proofs.entries.RecordTryFromRefSliceU8.try_from.Goals as goal

pub returns-then-slot_above : goal.returns-then-slot_above
returns-then-slot_above c = search (rules, above_chunks c.as_chunks.result.0.now)

pub invariant_of-result : goal.invariant_of-result
invariant_of-result c = search (rules, above_chunks c.as_chunks.result.0.now)
