-- Worked examples of the rules, each a test that computes.
use Rattle.std.specs.Prelude.{ℕ, Bool, true, false, not, ◌&&◌, List, [], ◌∷◌, pos, ◌==◌}
use Rattle.events.specs.declared.items.Event.{Event}
use Rattle.events.specs.declared.items.Item.{Item}
use Rattle.events.specs.Items.{item, report_end, loss_mark, same_event, mark_from}
use Rattle.ring.specs.Waiting.{after_put, readable_of, is_capacity}
use Rattle.ring.specs.Bytes.{closes_code, lost_byte}
use Rattle.parts.specs.declared.Verdict.{Verdict}
use Rattle.parts.specs.declared.Verdict.TheVariants.{Stranger, BadValue, Same, Passing, Change}
use Rattle.parts.specs.Pile.{over}
use Rattle.parts.specs.Walk.{walk, after}
use Rattle.keys.specs.KeySet.{no_keys}
use Rattle.keys.specs.KeysPart.{keys_meaning}
use Rattle.slots.specs.SlotsPart.{no_fingers, slots}
use Rattle.decoder.specs.Offers.{key_event}
use Rattle.decoder.specs.Steps.{fresh}
use Rattle.decoder.specs.Runs.{offered}

-- every one is true
abbrev pub every : List Bool → Bool
every [] = true
every (b ∷ bs) = b && every bs

abbrev pub same_events : List Event → List Event → Bool
same_events [] [] = true
same_events [] (e ∷ es) = false
same_events (d ∷ ds) [] = false
same_events (d ∷ ds) (e ∷ es) = same_event d e && same_events ds es

abbrev pub same_item : Item → Item → Bool
same_item a b = same_event a.event b.event && (a.time == b.time && a.number == b.number)

abbrev pub same_items : List Item → List Item → Bool
same_items [] [] = true
same_items [] (b ∷ bs) = false
same_items (a ∷ more) [] = false
same_items (a ∷ more) (b ∷ bs) = same_item a b && same_items more bs

abbrev pub is_stranger : Verdict → Bool
is_stranger Stranger = true
is_stranger BadValue = false
is_stranger Same = false
is_stranger Passing = false
is_stranger Change = false

abbrev pub is_bad : Verdict → Bool
is_bad Stranger = false
is_bad BadValue = true
is_bad Same = false
is_bad Passing = false
is_bad Change = false

-- an event of type 1, and one of type 3
abbrev pub key : ℕ → ℕ → Event
key code value = record { kind = 1; code = code; value = pos value }

abbrev pub touch : ℕ → ℕ → Event
touch code value = record { kind = 3; code = code; value = pos value }

-- a ring of 2 into which a key, a key and a report end are put
abbrev pub two_keys_and_an_end : List Item
two_keys_and_an_end =
    after_put mark_from 2 (after_put mark_from 2 (after_put mark_from 2 [] (item (key 30 1) 5 1)) (item (key 31 1) 6 1)) (item report_end 7 1)

-- the byte E0 in a keyboard's ring, and then 75
abbrev pub prefix_waits : List ℕ
prefix_waits = after_put lost_byte 16 [] 0xe0

-- slot 3 with id 7 and x 5, selected; and the same with slot 0 selected
abbrev pub slot_three : List Event
slot_three = touch 47 3 ∷ touch 57 7 ∷ touch 53 5 ∷ []

abbrev pub examples : List Bool
examples =
    -- the ring
    same_items two_keys_and_an_end (item loss_mark 7 1 ∷ item report_end 7 1 ∷ []) ∷
    not (is_capacity 1) ∷
    not (is_capacity 65) ∷
    is_capacity 2 ∷
    is_capacity 64 ∷
    (readable_of closes_code prefix_waits == 0) ∷
    (readable_of closes_code (after_put lost_byte 16 prefix_waits 0x75) == 2) ∷
    -- keys: a value 3 is bad, codes 0 and 768 are strangers
    is_bad (keys_meaning.verdict no_keys (key 30 3)) ∷
    is_stranger (keys_meaning.verdict no_keys (key 0 1)) ∷
    is_stranger (keys_meaning.verdict no_keys (key 768 1)) ∷
    -- slots: from empty to slot 3 with id 7, x 5, selected, and to the same with slot 0 selected
    same_events (walk slots no_fingers (after slots no_fingers slot_three)) slot_three ∷
    (slots.distance no_fingers (after slots no_fingers slot_three) == 3) ∷
    (slots.distance no_fingers (after slots (after slots no_fingers slot_three) (touch 47 0 ∷ [])) == 4) ∷
    -- piles: keys over slots is sound, slots over keys is not
    (over keys_meaning slots).sound ∷
    not (over slots keys_meaning).sound ∷
    -- the decoder: F0 1C after 1C releases key 30, 00 1C presses nothing, 1C twice repeats, E0 75 is the up arrow
    same_events (offered fresh (0x1c ∷ 0xf0 ∷ 0x1c ∷ [])) (key_event 30 1 ∷ key_event 30 0 ∷ []) ∷
    same_events (offered fresh (0x00 ∷ 0x1c ∷ [])) [] ∷
    same_events (offered fresh (0x1c ∷ 0x1c ∷ [])) (key_event 30 1 ∷ key_event 30 2 ∷ []) ∷
    same_events (offered fresh (0xe0 ∷ 0x75 ∷ [])) (key_event 103 1 ∷ []) ∷
    []
