-- The run of a list of calls on one core, with no other core at work between them.
use Rattle.std.specs.Prelude.{◌≡◌, ℕ, Bool, true, List, [], ◌∷◌, ◌++◌, nat_lt}
use Rattle.parts.specs.Meaning.{Meaning}
use Rattle.model.specs.declared.Call.{Call}
use Rattle.model.specs.declared.Call.TheVariants.{Event as event, Report as report, Open as opening, Close as closing, Grab as grab, Release as release, Read as reading}
use Rattle.model.specs.Runs.{World, Turn, step}
use Rattle.model.specs.Promises.{Promised}

module _ {S : Type 0} (P : Meaning S) where
  -- the turns that the calls take
  abbrev pub turns : World S → List Call → List Turn
  turns w [] = []
  turns w (c ∷ cs) = record { call = c; answer = (step P w c).answer } ∷ turns (step P w c).world cs

  abbrev pub world_after : World S → List Call → World S
  world_after w [] = w
  world_after w (c ∷ cs) = world_after (step P w c).world cs

  -- at every point of the run every client is promised what the run theorem says
  abbrev pub AllPromised : World S → List Call → Type 0
  AllPromised w cs = (early late : List Call) → cs ≡ early ++ late → (i : ℕ) → Promised P (turns w early) (world_after w early) i

-- whether a call names none but the first n clients
abbrev pub within : ℕ → Call → Bool
within n (event t e) = true
within n (report t) = true
within n (opening i s capacity) = nat_lt i n
within n (closing i) = nat_lt i n
within n (grab i) = nat_lt i n
within n (release d s t) = true
within n (reading i) = nat_lt i n
