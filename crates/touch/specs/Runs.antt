-- A touch panel's driver with its core, over every list of records.
use Rattle.std.specs.Prelude.{◌≡◌, ℕ, ◌<◌, List, [], ◌∷◌, replicate, None, Option, slice_index_or}
use Rattle.std.specs.List.{AllByRecursion as Each}
use Rattle.parts.specs.declared.pair.Pair.{Pair}
use Rattle.parts.specs.Meaning.{Meaning}
use Rattle.parts.specs.Pile.{over}
use Rattle.keys.specs.declared.set.Keys.{Keys}
use Rattle.keys.specs.KeySet.{held}
use Rattle.keys.specs.KeysPart.{keys_meaning}
use Rattle.slots.specs.declared.Slots.{Slots}
use Rattle.slots.specs.SlotsPart.{slot, slots}
use Rattle.model.specs.Core.{Core}
use Rattle.input.specs.Cores.{fresh_core}
use Rattle.touch.specs.Entries.{id_value, some_down}
use Rattle.touch.specs.Records.{record_call}

-- keys over slots
abbrev pub panel_meaning : Meaning (Pair Keys Slots)
panel_meaning = over keys_meaning slots

-- a record that comes at a time
pub record Arrival : Type 0 where
  pub time : ℕ
  pub bytes : List ℕ

-- a driver, and the core over keys over slots that it offers to
pub record Panel : Type 0 where
  pub ids : List (Option ℕ)
  pub core : Core (Pair Keys Slots)

-- both just made
abbrev pub new_ids : List (Option ℕ)
new_ids = replicate 10 None

abbrev pub new_panel : ℕ → Panel
new_panel device = record { ids = new_ids; core = fresh_core panel_meaning device }

abbrev pub arrived : Panel → Arrival → Panel
arrived p a = record {
  ids = (record_call panel_meaning p.core p.ids a.time a.bytes).ids;
  core = (record_call panel_meaning p.core p.ids a.time a.bytes).core;
}

abbrev pub arrivals : Panel → List Arrival → Panel
arrivals p [] = p
arrivals p (a ∷ later) = arrivals (arrived p a) later

-- a record is made of bytes
abbrev pub OfBytes : Arrival → Type 0
OfBytes a = Each (λ b. b < 256) a.bytes

-- what the core knows of the fingers is what the driver last offered: the id of each slot, and key 330 held exactly while a finger is down
pub record Agree (p : Panel) : Type 0 where
  pub ids : (i : ℕ) → i < 10 → (slot p.core.state.lower i).id ≡ id_value (slice_index_or p.ids i None)
  pub key : held p.core.state.upper 330 ≡ some_down p.ids

-- So it is after every list of records, those that are refused among them: a finger that was last lifted is not down.
abbrev pub CoreAgrees : Type 0
CoreAgrees = (device : ℕ) (run : List Arrival) → Each OfBytes run → Agree (arrivals (new_panel device) run)

pub record Laws : Type 0 where
  pub core_agrees : CoreAgrees
