-- What a client was answered since its opening.
use Rattle.std.specs.Prelude.{◌≡◌, ℕ, true, cond, ◌⊎◌, List, [], ◌∷◌, ◌++◌, map, Ok, Err, ◌==◌}
use Rattle.events.specs.Items.{is_report_end, is_loss_mark}
use Rattle.events.specs.declared.items.Item.{Item}
use Rattle.model.specs.declared.Call.{Call}
use Rattle.model.specs.declared.Call.TheVariants.{Event as event, Report as report, Open as opening, Close as closing, Grab as grab, Release as release, Read as reading}
use Rattle.model.specs.Answers.{Answered, skipped, live, caught_up}
use Rattle.model.specs.declared.Answer.TheVariants.{Number, Granted, Read}
use Rattle.model.specs.declared.Read.TheVariants.{Live, CaughtUp}
use Rattle.model.specs.Runs.{Turn}

-- the answers to the client's reads since its last opening that was not refused
abbrev pub hear_open : List Answered → Answered → List Answered
hear_open h (Err r) = h
hear_open h (Ok (Number n)) = []
hear_open h (Ok (Granted d s)) = h
hear_open h (Ok (Read r)) = h

abbrev pub hear : ℕ → List Answered → Call → Answered → List Answered
hear i h (opening j s capacity) a = cond (j == i) (hear_open h a) h
hear i h (reading j) a = cond (j == i) (h ++ a ∷ []) h
hear i h (event t e) a = h
hear i h (report t) a = h
hear i h (closing j) a = h
hear i h (grab j) a = h
hear i h (release d s t) a = h

abbrev pub heard_from : ℕ → List Answered → List Turn → List Answered
heard_from i h [] = h
heard_from i h (t ∷ ts) = heard_from i (hear i h t.call t.answer) ts

abbrev pub heard : ℕ → List Turn → List Answered
heard i ts = heard_from i [] ts

abbrev pub calls : List Turn → List Call
calls ts = map (λ (t : Turn). t.call) ts

abbrev pub answers : List Turn → List Answered
answers ts = map (λ (t : Turn). t.answer) ts

-- the item that was answered live or caught up
abbrev pub said : Answered → List Item
said (Ok (Read (Live x))) = x ∷ []
said (Ok (Read (CaughtUp x))) = x ∷ []
said _ = []

abbrev pub told : List Answered → List Item
told [] = []
told (a ∷ h) = said a ++ told h

abbrev pub live_of : Answered → List Item
live_of (Ok (Read (Live x))) = x ∷ []
live_of _ = []

abbrev pub lives : List Answered → List Item
lives [] = []
lives (a ∷ h) = live_of a ++ lives h

-- the answer is a report end numbered n, caught up
abbrev pub CaughtEnd : ℕ → Answered → Type 0
CaughtEnd n a = (x : Item) × (a ≡ caught_up x) × (is_report_end x ≡ true) × (x.number ≡ n)

-- the answer is a report end numbered n, live or caught up
abbrev pub ToldEnd : ℕ → Answered → Type 0
ToldEnd n a = ((x : Item) × (a ≡ live x) × (is_report_end x ≡ true) × (x.number ≡ n)) ⊎ CaughtEnd n a

abbrev pub Loss : Answered → Type 0
Loss a = (x : Item) × (a ≡ skipped x) × (is_loss_mark x ≡ true)
