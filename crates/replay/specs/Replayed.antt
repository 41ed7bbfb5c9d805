-- What a replay gives.
use Rattle.std.specs.Prelude.{◌≡◌, ℕ, ◌+◌, Bool, true, false, List, [], ◌∷◌, ◌++◌, length, replicate}
use Rattle.std.specs.List.{AllByRecursion as Each, list_all}
use Rattle.parts.specs.Meaning.{Meaning}
use Rattle.model.specs.declared.Call.{Call}
use Rattle.model.specs.declared.Call.TheVariants.{Read as reading}
use Rattle.model.specs.Answers.{Answered}
use Rattle.model.specs.Core.{seat_at, waiting, barred}
use Rattle.model.specs.Runs.{World, Turn}
use Rattle.model.specs.Heard.{answers, CaughtEnd, Loss}
use Rattle.model.specs.Promises.{Promised, up_to_end}
use Rattle.model.specs.Replays.{turns, world_after, within}
use Rattle.input.specs.declared.client.Client.{Client}
use Rattle.replay.specs.declared.ReplayError.{ReplayError}
use Rattle.replay.specs.declared.ReplayError.TheVariants.{NoClient, NoMemory}
use Rattle.stage.specs.Worlds.{client_at, start, Strangers}

-- whether every call names none but the first n clients
abbrev pub all_within : ℕ → List Call → Bool
all_within n cs = list_all (within n) cs

-- calls with what they were answered
abbrev pub answered_by : List Call → List Answered → List Turn
answered_by [] xs = []
answered_by (c ∷ cs) [] = []
answered_by (c ∷ cs) (a ∷ xs) = record { call = c; answer = a } ∷ answered_by cs xs

module _ {S : Type 0} (P : Meaning S) (w : World S) (cs : List Call) (xs : List Answered) where
  -- At every point of the run, which the answers `said` have come to, every client is promised what the run theorem says of
  -- the calls and answers so far.
  abbrev pub FaithfulThroughout : Type 0
  FaithfulThroughout =
      (early late : List Call) (said later : List Answered) → cs ≡ early ++ late → xs ≡ said ++ later → length said ≡ length early
      → (i : ℕ) → Promised P (answered_by early said) (world_after P w early) i

  -- Where, after the calls `early`, a client's reads are called, the first of them takes a loss mark, no report is open and no
  -- other client holds the grab: of the answers the last of the first j + d + 1 is the caught-up report end, and none before it is.
  abbrev pub RecoversThroughout : Type 0
  RecoversThroughout =
      (early late : List Call) (said : List Answered) (mark : Answered) (more later : List Answered) (i : ℕ)
      → let v = world_after P w early in
      let j = up_to_end (waiting (seat_at v.core.seats (v.clients i).seat)) in
      let d = P.distance (v.clients i).state v.core.state in
      cs ≡ early ++ (replicate (j + d + 1) (reading i) ++ late) → xs ≡ said ++ ((mark ∷ more) ++ later)
      → length said ≡ length early → length (mark ∷ more) ≡ j + d + 1
      → Loss mark → v.core.reporting ≡ false → barred v.core.holder (v.clients i).seat ≡ false
      → (before : List Answered) × (a : Answered) × (n : ℕ) × (mark ∷ more ≡ before ++ a ∷ []) × CaughtEnd n a × Each (λ b. (m : ℕ) → CaughtEnd m b → ⊥) before

-- device d, the clients before and after, the calls and the answers
pub record Replayed {S : Type 0} (P : Meaning S) (d : ℕ) (before after : List (Client S)) (cs : List Call) (xs : List Answered) : Type 0 where
  pub within : all_within (length before) cs ≡ true
  pub answered : xs ≡ answers (turns P (start P d before) cs)
  pub clients : (i : ℕ) → client_at P after i ≡ (world_after P (start P d before) cs).clients i
  pub faithful : Strangers d before → FaithfulThroughout P (start P d before) cs xs
  pub recovers : Strangers d before → RecoversThroughout P (start P d before) cs xs

-- a list that was not run left the clients exactly as they were
abbrev pub NotRun : {S : Type 0} → List (Client S) → List (Client S) → List Call → ReplayError → Type 0
NotRun before after cs NoClient = (all_within (length before) cs ≡ false) × (after ≡ before)
NotRun before after cs NoMemory = (all_within (length before) cs ≡ true) × (after ≡ before)
