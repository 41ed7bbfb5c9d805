-- A core over an unsound pile refuses every call, so nobody ever holds a grab of it.
use Rattle.std.proofs.Common.{◌≡◌, false, List, [], ◌∷◌, refl, ◌∙◌}
use Rattle.parts.specs.Meaning.{Meaning}
use Rattle.model.specs.declared.Call.{Call}
use Rattle.model.specs.declared.Call.TheVariants.{Event as event, Report as report, Open as opening, Close as closing, Grab as grab, Release as release, Read as reading}
use Rattle.model.specs.Calls.{event_call, report_call, open_call, close_call, grab_call, release_call}
use Rattle.model.specs.Reads.{read_call}
use Rattle.model.specs.Runs.{World, step}
use Rattle.model.specs.Replays.{world_after}

module _ {S : Type 0} (P : Meaning S) (un : P.sound ≡ false) where
  unmoved : (w : World S) (c : Call) → (step P w c).world.core ≡ w.core
  unfolding step event_call report_call open_call close_call grab_call release_call read_call
  unmoved w (event t e) = rw un
  unmoved w (report t) = rw un
  unmoved w (opening i s capacity) = rw un
  unmoved w (closing i) = rw un
  unmoved w (grab i) = rw un
  unmoved w (release d s t) = rw un
  unmoved w (reading i) = rw un

  pub stands_still : (w : World S) (cs : List Call) → (world_after P w cs).core ≡ w.core
  stands_still w [] = refl
  stands_still w (c ∷ cs) = stands_still (step P w c).world cs ∙ unmoved w c
