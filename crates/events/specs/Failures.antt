-- The words of a failure.
use Rattle.std.specs.Prelude.{ℕ, List, codes}
use Rattle.events.specs.declared.failures.Failure.{Failure}
use Rattle.events.specs.declared.failures.Failure.TheVariants.{Refused, NoMemory}
use Rattle.events.specs.Refusals.{refusal_text}

-- the refusal's text, or that there was no memory
abbrev pub failure_text : Failure → List ℕ
failure_text (Refused r) = refusal_text r
failure_text NoMemory = codes "no memory"
