-- The words of the error.
use Rattle.std.specs.Prelude.{ℕ, List, codes}
use Rattle.replay.specs.declared.ReplayError.{ReplayError}
use Rattle.replay.specs.declared.ReplayError.TheVariants.{NoClient, NoMemory}

-- that a call names no client, or that there was no memory
abbrev pub error_text : ReplayError → List ℕ
error_text NoClient = codes "a call names a client that there is not"
error_text NoMemory = codes "no memory"
