-- Reads for one client, a read at a time, and the text of their lines.
use Rattle.std.specs.Result.{IsErrAnd}
use Rattle.std.proofs.Common.{◌≡◌, ℕ, suc, List, [], ◌∷◌, ◌++◌, replicate, Some, None, Ok, Err, Option, Result, ap, ◌∙◌, append-nil}
use Rattle.parts.specs.Meaning.{Meaning}
use Rattle.model.specs.declared.Call.TheVariants.{Read as reading}
use Rattle.model.specs.Runs.{World, step}
use Rattle.lines.specs.Lines.{answer_lines, lines}
use Rattle.desk.specs.Making.{Made, made, before, unless_refused, stopped, refusal_in}
use Rattle.desk.specs.Texts.{lines_text}
use Rattle.desk.proofs.Entries.{lines_text_both}
use Rattle.events.specs.declared.refusals.Refusal.{Refusal}
use Rattle.events.specs.declared.failures.Failure.{Failure}
use Rattle.events.specs.declared.failures.Failure.TheVariants.{Refused}
use Rattle.player.specs.Rigs.{reads_text}

module _ {S : Type 0} (P : Meaning S) (words : S → List ℕ) (d i : ℕ) (w : World S) where
  -- the lines of one read
  abbrev pub told : List ℕ
  told = lines_text words d (answer_lines i ((step P w (reading i)).world.clients i).state (step P w (reading i)).answer)

  -- not refused: on
  pub made_on : (n : ℕ) → refusal_in (step P w (reading i)).answer ≡ None
      → made P w (replicate (suc n) (reading i)) ≡ before (reading i ∷ []) (made P (step P w (reading i)).world (replicate n (reading i)))
  made_on n e =
      ap (λ (r : Option ℕ). before (reading i ∷ []) (unless_refused (step P w (reading i)).world r (made P (step P w (reading i)).world (replicate n (reading i))))) e

  pub text_on : (n : ℕ) → refusal_in (step P w (reading i)).answer ≡ None → reads_text P words d w (suc n) i ≡ told ++ reads_text P words d (step P w (reading i)).world n i
  text_on n e =
      ap (λ (m : Made S). lines_text words d (lines P w m.calls)) (made_on n e)
      ∙ lines_text_both words d (answer_lines i ((step P w (reading i)).world.clients i).state (step P w (reading i)).answer) _

  -- refused: that is the end
  pub made_refused : (n k : ℕ) → refusal_in (step P w (reading i)).answer ≡ Some k
      → made P w (replicate (suc n) (reading i)) ≡ before (reading i ∷ []) (stopped (step P w (reading i)).world (Some k))
  made_refused n k e =
      ap (λ (r : Option ℕ). before (reading i ∷ []) (unless_refused (step P w (reading i)).world r (made P (step P w (reading i)).world (replicate n (reading i))))) e

  pub text_refused : (n k : ℕ) → refusal_in (step P w (reading i)).answer ≡ Some k → reads_text P words d w (suc n) i ≡ told
  text_refused n k e =
      ap (λ (m : Made S). lines_text words d (lines P w m.calls)) (made_refused n k e)
      ∙ lines_text_both words d (answer_lines i ((step P w (reading i)).world.clients i).state (step P w (reading i)).answer) []
      ∙ append-nil told

-- a refusal by which reads ended is what they answer
pub by_refusal : (r : Refusal) (res : Result (Unit {0}) Failure) → IsErrAnd res (λ e. e ≡ Refused r) → res ≡ Err (Refused r)
by_refusal r (Ok u) h = absurd h
by_refusal r (Err e) h = ap Err h
