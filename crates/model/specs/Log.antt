-- The log, made from the calls alone, and the device's state after a report by it.
use Rattle.std.specs.Prelude.{◌≡◌, ℕ, suc, Bool, true, false, cond, ◌&&◌, ◌⊎◌, List, [], ◌∷◌, ◌++◌, ◌==◌, nat_lt}
use Rattle.events.specs.Items.{item, report_end, is_report_end}
use Rattle.parts.specs.Meaning.{Meaning}
use Rattle.events.specs.declared.items.Item.{Item}
use Rattle.parts.specs.declared.Verdict.{Verdict}
use Rattle.parts.specs.declared.Verdict.TheVariants.{Stranger, BadValue, Same, Passing, Change}
use Rattle.model.specs.declared.Call.{Call}
use Rattle.model.specs.declared.Call.TheVariants.{Event as event, Report as report, Open as opening, Close as closing, Grab as grab, Release as release, Read as reading}
use Rattle.model.specs.Core.{most}

-- how many report ends
abbrev pub ends : List Item → ℕ
ends [] = 0
ends (x ∷ l) = cond (is_report_end x) (suc (ends l)) (ends l)

-- the number of the last item; no item bears 0
abbrev pub last_number : List Item → ℕ
last_number [] = 0
last_number (x ∷ []) = x.number
last_number (x ∷ y ∷ l) = last_number (y ∷ l)

-- the state after the events of the items, from the state s
abbrev pub after : {S : Type 0} → Meaning S → S → List Item → S
after P s [] = s
after P s (x ∷ l) = after P (P.taken s x.event) l

-- what is told to clients
abbrev pub logged : Verdict → Bool
logged Stranger = false
logged BadValue = false
logged Same = false
logged Passing = true
logged Change = true

-- while the pile is sound and the log has fewer than 4294967295 report ends
abbrev pub growing : {S : Type 0} → Meaning S → List Item → Bool → Bool
growing P l b = P.sound && (nat_lt (ends l) most && b)

-- An event adds its item if its verdict, on the empty state after the log's events so far, is passing or change. A report adds a report
-- end if the log's last item bears the same number. The number is one above the count of report ends, the time the call's. All else adds nothing.
abbrev pub grown : {S : Type 0} → Meaning S → List Item → Call → List Item
grown P l (event t e) = cond (growing P l (logged (P.verdict (after P P.empty l) e))) (l ++ item e t (suc (ends l)) ∷ []) l
grown P l (report t) = cond (growing P l (last_number l == suc (ends l))) (l ++ item report_end t (suc (ends l)) ∷ []) l
grown P l (opening i s capacity) = l
grown P l (closing i) = l
grown P l (grab i) = l
grown P l (release d s t) = l
grown P l (reading i) = l

abbrev pub grown_by : {S : Type 0} → Meaning S → List Item → List Call → List Item
grown_by P l [] = l
grown_by P l (c ∷ cs) = grown_by P (grown P l c) cs

abbrev pub log : {S : Type 0} → Meaning S → List Call → List Item
log P cs = grown_by P [] cs

-- the part of the log up to the end of report n; report 0 is the log's start
abbrev pub Through : ℕ → List Item → Type 0
Through n front =
    ((n ≡ 0) × (front ≡ [])) ⊎ ((before : List Item) × (x : Item) × (front ≡ before ++ x ∷ []) × (is_report_end x ≡ true) × (x.number ≡ n))

-- the state of the device after report n, by the log l
abbrev pub DeviceAfter : {S : Type 0} → Meaning S → List Item → ℕ → S → Type 0
DeviceAfter P l n s = (front rest : List Item) × (l ≡ front ++ rest) × Through n front × (s ≡ after P P.empty front)

-- there is but one such state
abbrev pub OneState : {S : Type 0} → Meaning S → List Item → Type 0
OneState {S} P l = (n : ℕ) (s t : S) → DeviceAfter P l n s → DeviceAfter P l n t → s ≡ t
