-- The entries of a touch record, and the events that they stand for.
use Rattle.std.specs.Prelude.{ℕ, ◌+◌, ◌*◌, ◌/◌, Bool, cond, List, [], ◌∷◌, ◌++◌, length, map, ℤ, pos, negsuc, is_some, Some, None, Option, ◌==◌, nat_lt, slice_index, slice_set}
use Rattle.std.specs.List.{list_any, flat_map}
use Rattle.std.specs.Option.{option_map}
use Rattle.std.specs.Simd.{first_chunks}
use Rattle.events.specs.declared.items.Event.{Event}
use Rattle.touch.specs.declared.entries.Entry.{Entry}
use Rattle.touch.specs.declared.entries.Finger.{Finger}

-- the 16 bits at a place, the low byte first
abbrev pub word : List ℕ → ℕ → ℕ
word bs i = slice_index bs i + 256 * slice_index bs (i + 1)

-- a finger's id, x and y in eight bytes; the id 65535 means lifted, which is no finger
abbrev pub finger_of : List ℕ → Option Finger
finger_of bs = cond (word bs 2 == 65535) None (Some (record { id = word bs 2; x = word bs 4; y = word bs 6 }))

-- the id of the finger that an entry names, none where it was lifted
abbrev pub id_in : Entry → Option ℕ
id_in e = option_map (λ f. f.id) e.finger

-- the value by which an event says an id: −1 means lifted
abbrev pub id_value : Option ℕ → ℤ
id_value None = negsuc 0
id_value (Some n) = pos n

-- eight bytes: the slot, an unread byte, id, x and y
abbrev pub entry_of : List ℕ → Entry
entry_of bs = record { slot = slice_index bs 0; finger = finger_of bs }

-- the entries of a record, one after another
abbrev pub entries_of : List ℕ → List Entry
entries_of bs = map entry_of (first_chunks 8 (length bs / 8) bs)

-- whether an entry names a slot above 9
abbrev pub some_above : List Entry → Bool
some_above es = list_any (λ e. nat_lt 9 e.slot) es

-- an event of a slot: type 3
abbrev pub slot_event : ℕ → ℤ → Event
slot_event code value = record { kind = 3; code = code; value = value }

-- −1 as the id of a lifted finger, else the id, x and y
abbrev pub finger_events : Option Finger → List Event
finger_events None = slot_event 57 (negsuc 0) ∷ []
finger_events (Some f) = slot_event 57 (pos f.id) ∷ slot_event 53 (pos f.x) ∷ slot_event 54 (pos f.y) ∷ []

-- the slot is selected, and then what its finger says
abbrev pub entry_events : Entry → List Event
entry_events e = slot_event 47 (pos e.slot) ∷ finger_events e.finger

abbrev pub entries_events : List Entry → List Event
entries_events es = flat_map entry_events es

-- the id last offered for each slot, none where the finger was lifted
abbrev pub ids_after : List (Option ℕ) → List Entry → List (Option ℕ)
ids_after ids [] = ids
ids_after ids (e ∷ es) = ids_after (slice_set ids e.slot (id_in e)) es

-- whether a finger is down in any slot
abbrev pub some_down : List (Option ℕ) → Bool
some_down ids = list_any is_some ids

-- key 330: 1 while a finger is down in any slot, else 0
abbrev pub touch_key : List (Option ℕ) → Event
touch_key ids = record { kind = 1; code = 330; value = pos (cond (some_down ids) 1 0) }

-- the events of a record, for a driver that last offered these ids: the entries in order, then key 330
abbrev pub record_events : List (Option ℕ) → List Entry → List Event
record_events ids es = entries_events es ++ (touch_key (ids_after ids es) ∷ [])
