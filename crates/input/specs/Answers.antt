-- What the calls answer, in the model's words.
use Rattle.std.specs.Prelude.{◌≡◌, ℕ, Ok, Err, Result}
use Rattle.events.specs.declared.refusals.Refusal.{Refusal}
use Rattle.model.specs.Answers.{Answered, number, granted, as_read}
use Rattle.model.specs.declared.Read.{Read}
use Rattle.input.specs.declared.cores.Grab.{Grab}

-- event, report, open and close
abbrev pub answered : Result ℕ Refusal → Answered
answered (Ok n) = number n
answered (Err r) = Err r

abbrev pub read_answered : Result Read Refusal → Answered
read_answered (Ok x) = as_read x
read_answered (Err r) = Err r

abbrev pub grab_answered : Result Grab Refusal → Answered
grab_answered (Ok g) = granted g.device g.seat.number
grab_answered (Err r) = Err r

abbrev pub release_answered : Result ℕ (Grab × Refusal) → Answered
release_answered (Ok n) = number n
release_answered (Err r) = Err r.1

-- a refused release hands the grab back
abbrev pub HandedBack : Grab → Result ℕ (Grab × Refusal) → Type 0
HandedBack g (Ok n) = Unit {0}
HandedBack g (Err r) = r.0 ≡ g
