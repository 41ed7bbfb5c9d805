-- What a touch panel's driver does with a record.
use Rattle.std.specs.Prelude.{ℕ, ◌%◌, Bool, cond, not, ◌||◌, List, length, Ok, Err, Option, Result, ◌==◌, nat_lt}
use Rattle.events.specs.declared.refusals.Refusal.{Refusal}
use Rattle.events.specs.declared.refusals.Refusal.TheVariants as refusal
use Rattle.parts.specs.Meaning.{Meaning}
use Rattle.model.specs.Core.{Core}
use Rattle.model.specs.Calls.{report_call}
use Rattle.model.specs.Answers.{Answered}
use Rattle.input.specs.Cores.{readiness}
use Rattle.driver.specs.Offering.{offered}
use Rattle.touch.specs.Entries.{entries_of, some_above, ids_after, record_events}

-- whether a length is that of 1 to 10 entries of 8 bytes
abbrev pub is_length : ℕ → Bool
is_length n = not (nat_lt n 8 || (nat_lt 80 n || not (n % 8 == 0)))

-- what is wrong with a record, if anything: 6 for its length, 7 for a slot above 9
abbrev pub legible : List ℕ → Result (Unit {0}) Refusal
legible bs =
    cond (is_length (length bs))
    (cond (some_above (entries_of bs)) (Err refusal.TouchSlot) (Ok tt))
    (Err refusal.TouchLength)

-- the ids last offered and the core after a record, with the answer
pub record Touched (S : Type 0) : Type 0 where
  pub ids : List (Option ℕ)
  pub core : Core S
  pub answer : Answered

abbrev pub touched : {S : Type 0} → List (Option ℕ) → Core S → Answered → Touched S
touched ids k a = record { ids = ids; core = k; answer = a }

module _ {S : Type 0} (P : Meaning S) where
  -- the events of the record, then a report
  abbrev pub handled : Core S → List (Option ℕ) → ℕ → List ℕ → Touched S
  handled k ids t bs =
      let o = report_call P (offered P k t (record_events ids (entries_of bs))) t in
      touched (ids_after ids (entries_of bs)) o.core o.answer

  -- a ground on which everything stays as it was, or on
  abbrev pub unless : Core S → List (Option ℕ) → Result (Unit {0}) Refusal → Touched S → Touched S
  unless k ids (Err r) on = touched ids k (Err r)
  unless k ids (Ok _) on = on

  -- record: 6, 7, 5, 28
  abbrev pub record_call : Core S → List (Option ℕ) → ℕ → List ℕ → Touched S
  record_call k ids t bs = unless k ids (legible bs) (unless k ids (readiness P k) (handled k ids t bs))
