-- A device of a recording, as a world of the model.
use Rattle.std.specs.Prelude.{ℕ, List, replicate, Some, None, Ok, Err, Option, Result}
use Rattle.events.specs.Refusals.{number_of}
use Rattle.parts.specs.Meaning.{Meaning}
use Rattle.model.specs.declared.Call.TheVariants.{Read as reading}
use Rattle.model.specs.Runs.{World}
use Rattle.input.specs.Cores.{shown}
use Rattle.stage.specs.Worlds.{world}
use Rattle.lines.specs.Lines.{lines}
use Rattle.desk.specs.Making.{made}
use Rattle.desk.specs.Texts.{lines_text}
use Rattle.player.specs.declared.rigs.Rig.{Rig}
use Rattle.events.specs.declared.failures.Failure.{Failure}
use Rattle.events.specs.declared.failures.Failure.TheVariants.{Refused, NoMemory}

-- the core with its clients
abbrev pub rig_world : {S : Type 0} → Meaning S → Rig S → World S
rig_world P r = world P (shown r.stage.core) r.clients

-- the text of the lines that n reads of client i make, up to the first that is refused
abbrev pub reads_text : {S : Type 0} → Meaning S → (S → List ℕ) → ℕ → World S → ℕ → ℕ → List ℕ
reads_text P words d w n i = lines_text words d (lines P w (made P w (replicate n (reading i))).calls)

-- what holds where the reads were made: of the refusal that ended them, if one did; without memory for the text nothing is said
abbrev pub IfRead : Result (Unit {0}) Failure → (Option ℕ → Type 0) → Type 0
IfRead (Ok _) p = p None
IfRead (Err (Refused r)) p = p (Some (number_of r))
IfRead (Err NoMemory) p = Unit {0}
