-- Takes until nothing is readable, a take at a time.
use Rattle.std.specs.Option.{is_some}
use Rattle.std.proofs.Common.{◌≡◌, ℕ, suc, true, false, length, Some, None, Ok, Err, Option, Result, refl, ap, ◌∙◌}
use Rattle.events.specs.declared.refusals.Refusal.{Refusal}
use Rattle.events.specs.Refusals.{number_of}
use Rattle.parts.specs.Meaning.{Meaning}
use Rattle.ring.specs.Waiting.{Took, none, one, take_of}
use Rattle.ring.specs.Bytes.{closes_code}
use Rattle.ring.proofs.Reading.{took_first}
use Rattle.model.specs.Core.{Core}
use Rattle.model.specs.Runs.{World}
use Rattle.model.specs.Answers.{Answered, number, nothing}
use Rattle.keyboard.specs.Takes.{Seen, decoded}
use Rattle.driver.specs.Offering.{driven}
use Rattle.input.specs.Cores.{readiness}
use Rattle.ps2.specs.Takes.{take_answered, take_call, if_ready, events_taken, answer_of}
use Rattle.desk.specs.Making.{Typed, takes, take_calls, typed, typed_before, unless_done, stopped, with_core}

-- as many takes as there are bytes, and the one that finds nothing
abbrev pub all_takes : {S : Type 0} → Meaning S → ℕ → World S → Seen → Typed S
all_takes P t w b = takes P (suc (length b.waiting)) t w b

module _ {S : Type 0} (P : Meaning S) (t : ℕ) where
  -- a take that is answered a number took one byte
  pub took_byte : (k : Core S) (b : Seen) (m : ℕ) → (take_call P k b t).answer ≡ number m → length b.waiting ≡ suc (length (take_call P k b t).keyboard.waiting)
  took_byte k b m e = ready (readiness P k) e
    where
      at : (o : Took ℕ) (a : Answered) → take_of closes_code b.waiting ≡ o → answer_of (decoded b o).offer a ≡ number m → length b.waiting ≡ suc (length (decoded b o).keyboard.waiting)
      at none a q n = cc
      at (one byte rest) a q n = ap length (took_first closes_code b.waiting byte rest q)

      ready : (r : Result (Unit {0}) Refusal) → (if_ready P k b t r).answer ≡ number m → length b.waiting ≡ suc (length (if_ready P k b t r).keyboard.waiting)
      ready (Err r) n = cc
      ready (Ok u) n = at (take_of closes_code b.waiting) (driven P k t (events_taken b)).answer refl n

  module _ (w : World S) (b : Seen) where
    -- the first take, answered so, and the others
    first_take : (a : Answered) → (take_call P w.core b t).answer ≡ a
        → all_takes P t w b
        ≡ typed_before (take_calls P (readiness P w.core) t b) (unless_done (take_call P w.core b t).keyboard (with_core w (take_call P w.core b t).core) a
        (takes P (length b.waiting) t (with_core w (take_call P w.core b t).core) (take_call P w.core b t).keyboard))
    first_take a e =
        ap (λ (x : Answered). typed_before (take_calls P (readiness P w.core) t b) (unless_done (take_call P w.core b t).keyboard (with_core w (take_call P w.core b t).core) x
        (takes P (length b.waiting) t (with_core w (take_call P w.core b t).core) (take_call P w.core b t).keyboard))) e

    -- answered a number: on, with a byte fewer
    pub take_on : (m : ℕ) → (take_call P w.core b t).answer ≡ number m
        → all_takes P t w b ≡ typed_before (take_calls P (readiness P w.core) t b) (all_takes P t (with_core w (take_call P w.core b t).core) (take_call P w.core b t).keyboard)
    take_on m e =
        first_take (number m) e
        ∙ ap (λ (n : ℕ). typed_before (take_calls P (readiness P w.core) t b) (takes P n t (with_core w (take_call P w.core b t).core) (take_call P w.core b t).keyboard)) (took_byte w.core b m e)

    -- refused: that is the end
    pub take_refused : (r : Refusal) → (take_call P w.core b t).answer ≡ Err r
        → all_takes P t w b ≡ typed_before (take_calls P (readiness P w.core) t b) (typed (take_call P w.core b t).keyboard (stopped (with_core w (take_call P w.core b t).core) (Some (number_of r))))
    take_refused r e = first_take (Err r) e

    -- nothing readable: that is the end
    pub take_nothing : (take_call P w.core b t).answer ≡ nothing
        → all_takes P t w b ≡ typed_before (take_calls P (readiness P w.core) t b) (typed (take_call P w.core b t).keyboard (stopped (with_core w (take_call P w.core b t).core) None))
    take_nothing e = first_take nothing e

-- a take that found nothing, by whether it answered a number
pub none_answered : (r : Result (Option ℕ) Refusal) (o : Option ℕ) → r ≡ Ok o → is_some o ≡ false → take_answered r ≡ nothing
none_answered r None e h = ap take_answered e
none_answered r (Some n) e h = cc

pub some_answered : (r : Result (Option ℕ) Refusal) (o : Option ℕ) → r ≡ Ok o → is_some o ≡ true → (n : ℕ) × (take_answered r ≡ number n)
some_answered r None e h = cc
some_answered r (Some n) e h = (n, ap take_answered e)
