-- Key events as text: `K30 press`, one to a line.
use Rattle.std.specs.Prelude.{ℕ, List, ◌++◌, ℤ, codes, decimal, flat_map, unwrap_or}
use Rattle.events.specs.Keys.{word_of, action_of}
use Rattle.events.specs.declared.items.Event.{Event}
use Rattle.events.specs.declared.keys.KeyAction.TheVariants.{Repeat}

-- 0 is a release, 1 a press, and any other value is told as a repeat
abbrev pub value_word : ℤ → List ℕ
value_word v = word_of (unwrap_or (action_of v) Repeat)

-- K and the key's number, and what became of it
abbrev pub event_words : Event → List ℕ
event_words e = codes "K" ++ (decimal e.code ++ (codes " " ++ value_word e.value))

-- the same as a line
abbrev pub event_line : Event → List ℕ
event_line e = event_words e ++ codes "\n"

abbrev pub event_lines : List Event → List ℕ
event_lines es = flat_map event_line es
