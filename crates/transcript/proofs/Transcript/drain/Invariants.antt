use Rattle.std.proofs.Common.{◌≡◌, ◌++◌, length, string_bytes}
use Rattle.transcript.specs.Feeding.{seen, drained, drained_text}
use Rattle.transcript.proofs.Transcript.drain.Given as goal

-- what is written with the lines still to come is the whole, and the end is the same
abbrev pub invariant-loop-offer : goal.invariant-loop-offer
invariant-loop-offer l =
    (string_bytes l.text ++ drained_text (seen l.self) ≡ string_bytes l.initial.text ++ drained_text (seen l.initial.self))
    × (drained (seen l.self) ≡ drained (seen l.initial.self))

abbrev pub decreases-loop-offer : goal.decreases-loop-offer
decreases-loop-offer l = length (seen l.self).waiting
