use Rattle.std.proofs.Common.{◌≡◌, ◌++◌, drop, string_bytes}
use Rattle.transcript.specs.Feeding.{seen, fed, fed_text}
use Rattle.transcript.proofs.Transcript.feed.Given as goal

-- what is written with the lines still to come is the whole, and the end is the same
abbrev pub invariant-loop-byte : goal.invariant-loop-byte
invariant-loop-byte l =
    (string_bytes l.text ++ fed_text (seen l.next) (drop l.byte-index l.bytes) ≡ string_bytes l.initial.text ++ fed_text (seen l.initial.next) l.bytes)
    × (fed (seen l.next) (drop l.byte-index l.bytes) ≡ fed (seen l.initial.next) l.bytes)
