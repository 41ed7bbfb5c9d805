-- The part of slots: type 3, codes 47 to 63.
use Rattle.std.specs.Prelude.{ℕ, ◌+◌, Bool, true, cond, not, List, [], ◌∷◌, ◌++◌, replicate, ℤ, pos, negsuc, is_some, Some, None, Option, ◌==◌, slice_index_or, slice_set, refl}
use Rattle.std.proofs.Common.{◌∙◌, lit<, length-set}
use Rattle.std.specs.List.{find}
use Rattle.std.specs.Option.{option_map, unwrap_or}
use Rattle.events.specs.declared.items.Event.{Event}
use Rattle.events.specs.Items.{same_value, of_slot}
use Rattle.codes.specs.Search.{smallest, counted, ascending}
use Rattle.parts.specs.declared.Verdict.{Verdict}
use Rattle.parts.specs.declared.Verdict.TheVariants.{Stranger, BadValue, Same, Change}
use Rattle.parts.specs.Meaning.{Meaning}
use Rattle.slots.specs.declared.Field.{Field}
use Rattle.slots.specs.declared.Field.TheVariants.{Id, X, Y}
use Rattle.slots.specs.declared.changes.Subject.{Subject}
use Rattle.slots.specs.declared.changes.Subject.TheVariants.{Selection, Field as OfField}
use Rattle.slots.specs.declared.Slot.{Slot}
use Rattle.slots.specs.declared.Slots.{Slots}
use Rattle.slots.specs.Ranges.{legal, is_slot, code_of, field_of, written, written_ok, chosen, chosen_ok}

-- ---- one slot

-- a slot that no finger uses
abbrev pub unused : Slot
unused = record { id = negsuc 0; x = pos 0; y = pos 0; ok = (refl, refl, refl) }

-- what a field holds
abbrev pub get : Slot → Field → ℤ
get a Id = a.id
get a X = a.x
get a Y = a.y

-- the slot after a write to a field
abbrev pub put : Slot → Field → ℤ → Slot
put a Id v = record { id = written Id v a.id; x = a.x; y = a.y; ok = (written_ok Id v a.id a.ok.0, a.ok.1, a.ok.2) }
put a X v = record { id = a.id; x = written X v a.x; y = a.y; ok = (a.ok.0, written_ok X v a.x a.ok.1, a.ok.2) }
put a Y v = record { id = a.id; x = a.x; y = written Y v a.y; ok = (a.ok.0, a.ok.1, written_ok Y v a.y a.ok.2) }

-- whether two slots differ in a field
abbrev pub differs_in : Field → Slot → Slot → Bool
differs_in f a b = not (same_value (get a f) (get b f))

-- the first of id, x and y in which two slots differ
abbrev pub first_difference : Slot → Slot → Option Field
first_difference a b = find (λ f. differs_in f a b) (Id ∷ X ∷ Y ∷ [])

-- the place of a slot's finger: none where the slot is unused
abbrev pub finger_of : Slot → Option (ℤ × ℤ)
finger_of a = cond (same_value a.id (negsuc 0)) None (Some (a.x, a.y))

-- whether two slots differ
abbrev pub unlike : Slot → Slot → Bool
unlike a b = is_some (first_difference a b)

-- ---- ten slots

-- slot i
abbrev pub slot : Slots → ℕ → Slot
slot s i = slice_index_or s.slots i unused

-- the place of the finger in slot i: none where the slot is unused or there is no such slot
abbrev pub finger : Slots → ℕ → Option (ℤ × ℤ)
finger s i = finger_of (slot s i)

-- slot 0 selected, and every slot unused
abbrev pub no_fingers : Slots
no_fingers = record { slots = replicate 10 unused; selected = 0; ok = (refl, lit< tt) }

-- ---- the verdict

-- what an event sets: code 47 of type 3 the selection, the code of a field that field of the selected slot, all others nothing
abbrev pub subject : Event → Option Subject
subject e = cond (e.kind == 3) (cond (e.code == 47) (Some Selection) (option_map OfField (field_of e.code))) None

-- a value that is not allowed is bad, one already there is the same, and any other is a change
abbrev pub judged : Bool → ℤ → ℤ → Verdict
judged allowed there v = cond allowed (cond (same_value there v) Same Change) BadValue

-- on a value for a field of the selected slot
abbrev pub field_verdict : Slots → Field → ℤ → Verdict
field_verdict s f v = judged (legal f v) (get (slot s s.selected) f) v

-- on a value for what an event sets; an event that sets nothing is a stranger
abbrev pub verdict_on : Slots → Option Subject → ℤ → Verdict
verdict_on s None v = Stranger
verdict_on s (Some Selection) v = judged (is_slot v) (pos s.selected) v
verdict_on s (Some (OfField f)) v = field_verdict s f v

-- on an event
abbrev pub verdict : Slots → Event → Verdict
verdict s e = verdict_on s (subject e) e.value

-- ---- taking an event

-- another slot is selected
abbrev pub select : Slots → ℤ → Slots
select s v = record { slots = s.slots; selected = chosen v s.selected; ok = (s.ok.0, chosen_ok v s.selected s.ok.1) }

-- a field of the selected slot is written
abbrev pub fill : Slots → Field → ℤ → Slots
fill s f v = record { slots = slice_set s.slots s.selected (put (slot s s.selected) f v); selected = s.selected; ok = (length-set s.slots _ _ ∙ s.ok.0, s.ok.1) }

-- what an event sets is set to a value
abbrev pub set_to : Slots → Option Subject → ℤ → Slots
set_to s None v = s
set_to s (Some Selection) v = select s v
set_to s (Some (OfField f)) v = fill s f v

-- the state after an event
abbrev pub taken : Slots → Event → Slots
taken s e = set_to s (subject e) e.value

-- ---- a finger in a slot

-- the events that say so: the slot is selected, and then id, x and y are set
abbrev pub resting : ℤ → ℤ → ℤ → ℤ → List Event
resting slot id x y = of_slot 47 slot ∷ of_slot (code_of Id) id ∷ of_slot (code_of X) x ∷ of_slot (code_of Y) y ∷ []

-- ---- the way to a target

-- whether slot i differs
abbrev pub differs : Slots → Slots → ℕ → Bool
differs s t i = unlike (slot s i) (slot t i)

-- the slot that the next event concerns: the smallest that differs, and the target's where none does
abbrev pub aimed : Slots → Slots → ℕ
aimed s t = unwrap_or (smallest (differs s t) 0 10) t.selected

-- the event that selects slot i
abbrev pub selecting : ℕ → Event
selecting i = record { kind = 3; code = 47; value = pos i }

-- the event that sets a field as the slot b has it
abbrev pub setting : Slot → Field → Event
setting b f = record { kind = 3; code = code_of f; value = get b f }

-- the next event for slot i: its selection if it is not selected, and else the first field that differs
abbrev pub next_for : Slots → Slots → ℕ → Option Event
next_for s t i = cond (s.selected == i) (option_map (setting (slot t i)) (first_difference (slot s i) (slot t i))) (Some (selecting i))

-- the next event
abbrev pub next : Slots → Slots → Option Event
next s t = next_for s t (aimed s t)

-- in how many slots a field differs
abbrev pub apart_in : Field → Slots → Slots → ℕ
apart_in f s t = counted (λ i. differs_in f (slot s i) (slot t i)) 0 10

-- how many fields differ
abbrev pub fields_apart : Slots → Slots → ℕ
fields_apart s t = apart_in Id s t + (apart_in X s t + apart_in Y s t)

-- the slots in the order in which the way selects them: those that differ, ascending, and then the target's
abbrev pub order : Slots → Slots → List ℕ
order s t = ascending (differs s t) 0 10 ++ (t.selected ∷ [])

-- how many selections an order makes, where slot i is selected at first
abbrev pub selections : ℕ → List ℕ → ℕ
selections i [] = 0
selections i (j ∷ js) = cond (i == j) 0 1 + selections j js

-- the selections that the way makes
abbrev pub selections_made : Slots → Slots → ℕ
selections_made s t = selections s.selected (order s t)

-- the fields that differ and the selections that the way makes
abbrev pub distance : Slots → Slots → ℕ
distance s t = fields_apart s t + selections_made s t

-- what the part of slots means
abbrev pub slots : Meaning Slots
slots = record {
  first = 196655;
  last = 196671;
  sound = true;
  empty = no_fingers;
  verdict = verdict;
  taken = taken;
  distance = distance;
  next = next;
}
