-- The run of a list of calls is a run, so that the run theorem holds of it.
use Rattle.std.proofs.Common.{◌≡◌, true, List, [], ◌∷◌, ◌++◌, refl, ap}
use Rattle.parts.specs.Meaning.{Meaning, Laws}
use Rattle.model.specs.declared.Call.{Call}
use Rattle.model.specs.Answers.{Answered}
use Rattle.model.specs.Runs.{World, Run, Fresh, step}
use Rattle.model.specs.Runs.Run.{rest, turn}
use Rattle.model.specs.Heard.{answers}
use Rattle.model.specs.Replays.{turns, world_after, AllPromised}
use Rattle.model.proofs.Steps.{faithful}

module _ {S : Type 0} (P : Meaning S) where
  pub run_of : (w : World S) (cs : List Call) → Run P w (turns P w cs) (world_after P w cs)
  run_of w [] = rest
  run_of w (c ∷ cs) = turn c (run_of (step P w c).world cs)

  pub all_promised : (P.sound ≡ true → Laws P) → (w : World S) → Fresh P w → (cs : List Call) → AllPromised P w cs
  all_promised laws w f cs early late e i = faithful P laws w (world_after P w early) (turns P w early) f (run_of w early) i

  -- one call more
  pub world_push : (w : World S) (cs : List Call) (c : Call) → world_after P w (cs ++ c ∷ []) ≡ (step P (world_after P w cs) c).world
  world_push w [] c = refl
  world_push w (d ∷ cs) c = world_push (step P w d).world cs c

  pub answers_push : (w : World S) (cs : List Call) (c : Call) → answers (turns P w (cs ++ c ∷ [])) ≡ answers (turns P w cs) ++ (step P (world_after P w cs) c).answer ∷ []
  answers_push w [] c = refl
  answers_push w (d ∷ cs) c = ap (λ (l : List Answered). (step P w d).answer ∷ l) (answers_push (step P w d).world cs c)
