use Rattle.std.proofs.Common.{◌≡◌, ◌-◌}
use Rattle.recording.specs.Frames.{cut, counted}
use Rattle.recording.proofs.frames.count.Given as goal

-- the records still to come, with those so far, are all
abbrev pub invariant-loop-records : goal.invariant-loop-records
invariant-loop-records l = counted l.count (cut (1000 - l.count) l.records.rest.now) ≡ counted 0 (cut 1000 l.recording)
