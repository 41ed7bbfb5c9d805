-- The text of a listing: a line for each report end that was told, and one for each record that was refused.
use Rattle.std.specs.Prelude.{ℕ, Bool, true, false, List, [], ◌∷◌, ◌++◌, codes, decimal}
use Rattle.parts.specs.declared.pair.Pair.{Pair}
use Rattle.keys.specs.declared.set.Keys.{Keys}
use Rattle.slots.specs.declared.Slots.{Slots}
use Rattle.keys.specs.KeyWords.{key_words}
use Rattle.slots.specs.SlotWords.{slot_words}
use Rattle.lines.specs.Lines.{Line}
use Rattle.lines.specs.Acts.{Entry}
use Rattle.lines.specs.Acts.Entry.{first_line, second_line, refused_record}

-- L for live, C for caught up
abbrev pub letter : Bool → List ℕ
letter true = codes " L"
letter false = codes " C"

-- the report's number, device and seat joined by a dot, and how the report end was told
abbrev pub line_head : ℕ → ℕ → ℕ → Bool → List ℕ
line_head n d s l = decimal n ++ (codes " " ++ (decimal d ++ (codes "." ++ (decimal s ++ letter l))))

-- a line of device d, whose states have these words; byte 10 ends it
abbrev pub line_text : {S : Type 0} → (S → List ℕ) → ℕ → Line S → List ℕ
line_text words d x = line_head x.number d x.client x.live ++ (words x.state ++ (10 ∷ []))

-- lines, one after another
abbrev pub lines_text : {S : Type 0} → (S → List ℕ) → ℕ → List (Line S) → List ℕ
lines_text words d [] = []
lines_text words d (x ∷ xs) = line_text words d x ++ lines_text words d xs

-- a refused record: its position and the refusal's number
abbrev pub refusal_text : ℕ → ℕ → List ℕ
refusal_text p n = codes "! " ++ (decimal p ++ (codes " " ++ (decimal n ++ (10 ∷ []))))

-- the words of a panel: its keys, and then its slots
abbrev pub panel_words : Pair Keys Slots → List ℕ
panel_words s = key_words s.upper ++ slot_words s.lower

-- an entry: the keyboard is device 1, the panel device 2
abbrev pub entry_text : Entry Keys (Pair Keys Slots) → List ℕ
entry_text (first_line x) = line_text key_words 1 x
entry_text (second_line x) = line_text panel_words 2 x
entry_text (refused_record p n) = refusal_text p n

-- entries, one after another
abbrev pub entries_text : List (Entry Keys (Pair Keys Slots)) → List ℕ
entries_text [] = []
entries_text (e ∷ es) = entry_text e ++ entries_text es
