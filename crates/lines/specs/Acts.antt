-- What is done to two devices, in order, and the entries of a listing that come of it.
use Rattle.std.specs.Prelude.{ℕ, List, [], ◌∷◌, ◌++◌, map}
use Rattle.std.specs.List.{AllByRecursion as Each}
use Rattle.events.specs.declared.items.Item.{Item}
use Rattle.parts.specs.Meaning.{Meaning}
use Rattle.model.specs.declared.Call.{Call}
use Rattle.model.specs.Runs.{World, Fresh, step}
use Rattle.model.specs.Log.{log, DeviceAfter}
use Rattle.lines.specs.Lines.{Line, call_lines}

-- a call of the first or of the second device, or the refusal of a record by its position and the refusal's number
pub data Act : Type 0 where
  on_first : Call → Act
  on_second : Call → Act
  refusal : (position number : ℕ) → Act

-- the calls of the first device
abbrev pub first_calls : List Act → List Call
first_calls [] = []
first_calls (on_first c ∷ acts) = c ∷ first_calls acts
first_calls (on_second c ∷ acts) = first_calls acts
first_calls (refusal p n ∷ acts) = first_calls acts

-- the calls of the second device
abbrev pub second_calls : List Act → List Call
second_calls [] = []
second_calls (on_first c ∷ acts) = second_calls acts
second_calls (on_second c ∷ acts) = c ∷ second_calls acts
second_calls (refusal p n ∷ acts) = second_calls acts

-- an entry of a listing: a line of one of the devices, or a refusal
pub data Entry (S T : Type 0) : Type 0 where
  first_line : Line S → Entry S T
  second_line : Line T → Entry S T
  refused_record : (position number : ℕ) → Entry S T

module _ {S T : Type 0} (P : Meaning S) (Q : Meaning T) where
  -- the entries that acts make, from the two devices as they are
  abbrev pub entries : World S → World T → List Act → List (Entry S T)
  entries w v [] = []
  entries w v (on_first c ∷ acts) = map first_line (call_lines (step P w c).world c (step P w c).answer) ++ entries (step P w c).world v acts
  entries w v (on_second c ∷ acts) = map second_line (call_lines (step Q v c).world c (step Q v c).answer) ++ entries w (step Q v c).world acts
  entries w v (refusal p n ∷ acts) = refused_record p n ∷ entries w v acts

  -- a line numbered n shows the state of its device after report n, by that device's log
  abbrev pub TrueEntry : List Item → List Item → Entry S T → Type 0
  TrueEntry l m (first_line x) = DeviceAfter P l x.number x.state
  TrueEntry l m (second_line x) = DeviceAfter Q m x.number x.state
  TrueEntry l m (refused_record p n) = Unit {0}

  -- Every entry is true, by the logs of all the calls that were made of the devices.
  abbrev pub EntriesTrue : Type 0
  EntriesTrue =
      (w : World S) (v : World T) (acts : List Act) → Fresh P w → Fresh Q v
      → Each (TrueEntry (log P (first_calls acts)) (log Q (second_calls acts))) (entries w v acts)
