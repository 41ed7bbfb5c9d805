-- What the calls of a record do to a device is what the model's steps do, one after another.
use Rattle.std.specs.Prelude.{◌≡◌, ℕ, List, Option}
use Rattle.parts.specs.Meaning.{Meaning}
use Rattle.keyboard.specs.Takes.{Seen}
use Rattle.model.specs.declared.Call.{Call}
use Rattle.model.specs.Runs.{World}
use Rattle.model.specs.Replays.{world_after}
use Rattle.desk.specs.Making.{made, takes, record_touched}

-- for calls up to the first that is refused, for the takes of a keyboard's driver, and for a record of a touch panel's
pub record Follows {S : Type 0} (P : Meaning S) : Type 0 where
  pub made : (w : World S) (cs : List Call) → (made P w cs).world ≡ world_after P w (made P w cs).calls
  pub taken : (n t : ℕ) (w : World S) (b : Seen) → (takes P n t w b).made.world ≡ world_after P w (takes P n t w b).made.calls
  pub touched : (w : World S) (t : ℕ) (ids : List (Option ℕ)) (bs : List ℕ) → (record_touched P t w ids bs).made.world ≡ world_after P w (record_touched P t w ids bs).made.calls
