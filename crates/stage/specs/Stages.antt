-- What a call on a stage does.
use Rattle.std.specs.Prelude.{◌≡◌, true, false, List, length}
use Rattle.parts.specs.Meaning.{Meaning}
use Rattle.model.specs.declared.Call.{Call}
use Rattle.model.specs.Answers.{Answered}
use Rattle.model.specs.Runs.{step}
use Rattle.model.specs.Replays.{within}
use Rattle.input.specs.Cores.{shown}
use Rattle.input.specs.declared.client.Client.{Client}
use Rattle.stage.specs.declared.stage.Stage.{Stage}
use Rattle.stage.specs.Worlds.{world}

module _ {S : Type 0} where
  -- the call was made: its answer and what it leaves are those of the model's step
  pub record Called (P : Meaning S) (s t : Stage S) (before after : List (Client S)) (c : Call) (a : Answered) : Type 0 where
    pub within : within (length before) c ≡ true
    pub answer : a ≡ (step P (world P (shown s.core) before) c).answer
    pub world : world P (shown t.core) after ≡ (step P (world P (shown s.core) before) c).world

  -- the call names a client that there is not: nothing was done
  pub record NotCalled (s t : Stage S) (before after : List (Client S)) (c : Call) : Type 0 where
    pub beyond : within (length before) c ≡ false
    pub stage : t ≡ s
    pub clients : after ≡ before
