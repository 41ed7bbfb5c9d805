-- Events and items: addresses, report ends and loss marks.
use Rattle.std.specs.Prelude.{ℕ, ◌+◌, ◌*◌, Bool, ◌&&◌, List, ◌++◌, ℤ, pos, ◌==◌, codes, decimal, int_le}
use Rattle.std.specs.Fmt.{signed_decimal}
use Rattle.events.specs.declared.items.Event.{Event}
use Rattle.events.specs.declared.items.Item.{Item}

-- where an event belongs: type × 65536 + code
abbrev pub address : Event → ℕ
address e = e.kind * 65536 + e.code

-- an event of a key: type 1
abbrev pub of_key : ℕ → ℤ → Event
of_key c v = record { kind = 1; code = c; value = v }

-- an event of a touch panel's slots: type 3
abbrev pub of_slot : ℕ → ℤ → Event
of_slot c v = record { kind = 3; code = c; value = v }

-- an event as text: type 1 code 31 value 1
abbrev pub event_text : Event → List ℕ
event_text e = codes "type " ++ (decimal e.kind ++ (codes " code " ++ (decimal e.code ++ (codes " value " ++ signed_decimal e.value))))

-- the end of a report: type 0, code 0, value 0
abbrev pub report_end : Event
report_end = record { kind = 0; code = 0; value = pos 0 }

-- what stands where events were thrown away: type 0, code 3, value 0
abbrev pub loss_mark : Event
loss_mark = record { kind = 0; code = 3; value = pos 0 }

-- an event with its time and its report's number
abbrev pub item : Event → ℕ → ℕ → Item
item e t n = record { event = e; time = t; number = n }

-- whether two integers are the same
abbrev pub same_value : ℤ → ℤ → Bool
same_value v w = int_le v w && int_le w v

-- whether two events are the same
abbrev pub same_event : Event → Event → Bool
same_event d e = d.kind == e.kind && (d.code == e.code && same_value d.value e.value)

-- whether an item is a report end
abbrev pub is_report_end : Item → Bool
is_report_end x = same_event x.event report_end

-- whether an item is a loss mark
abbrev pub is_loss_mark : Item → Bool
is_loss_mark x = same_event x.event loss_mark

-- the loss mark that is made from an item keeps its time and number
abbrev pub mark_from : Item → Item
mark_from x = item loss_mark x.time x.number
