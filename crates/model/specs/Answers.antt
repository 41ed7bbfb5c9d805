-- What a call is answered: a refusal, or what it says.
use Rattle.std.specs.Prelude.{ℕ, Ok, Err, Result}
use Rattle.events.specs.declared.items.Item.{Item}
use Rattle.events.specs.declared.refusals.Refusal.{Refusal}
use Rattle.events.specs.Refusals.{refusal_with}
use Rattle.model.specs.declared.Answer.{Answer}
use Rattle.model.specs.declared.Answer.TheVariants.{Number, Granted, Read as Said}
use Rattle.model.specs.declared.Read.{Read}
use Rattle.model.specs.declared.Read.TheVariants.{Nothing, ReportOpen, Barred, Skipped, Live, CaughtUp}

abbrev pub Answered : Type 0
Answered = Result Answer Refusal

-- a refusal, by its number
abbrev pub refused : ℕ → Answered
refused n = Err (refusal_with n)

-- what event, report, open, close and release answer
abbrev pub number : ℕ → Answered
number n = Ok (Number n)

-- a grab that bears these numbers
abbrev pub granted : ℕ → ℕ → Answered
granted d s = Ok (Granted d s)

-- what a read answers
abbrev pub as_read : Read → Answered
as_read r = Ok (Said r)

abbrev pub nothing : Answered
nothing = as_read Nothing

abbrev pub report_open : Answered
report_open = as_read ReportOpen

abbrev pub barred_off : Answered
barred_off = as_read Barred

abbrev pub skipped : Item → Answered
skipped x = as_read (Skipped x)

abbrev pub live : Item → Answered
live x = as_read (Live x)

abbrev pub caught_up : Item → Answered
caught_up x = as_read (CaughtUp x)
