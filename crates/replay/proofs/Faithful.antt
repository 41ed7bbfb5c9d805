-- The answers of a run, against the run theorem.
use Rattle.std.proofs.Common.{◌≡◌, ℕ, suc, ◌+◌, true, List, [], ◌∷◌, ◌++◌, length, take, drop, replicate, sym, refl, ap, ◌∙◌, arith}
use mathlib.Core.Path.{subst⁻¹}
use Rattle.std.proofs.lemmas.List.{length-replicate}
use Rattle.std.proofs.Math.Seq.{take-append_seam, drop-append_seam}
use Rattle.parts.specs.Meaning.{Meaning, Laws}
use Rattle.model.specs.declared.Call.{Call}
use Rattle.model.specs.declared.Call.TheVariants.{Read as reading}
use Rattle.model.specs.Answers.{Answered}
use Rattle.model.specs.Core.{seat_at, waiting}
use Rattle.model.specs.Runs.{World, Turn, Fresh, step}
use Rattle.model.specs.Heard.{answers, calls, Loss}
use Rattle.model.specs.Promises.{Promised, up_to_end}
use Rattle.model.specs.Replays.{turns, world_after}
use Rattle.model.proofs.Replay.{run_of, all_promised}
use Rattle.replay.specs.Replayed.{answered_by, FaithfulThroughout, RecoversThroughout}

-- two lists that begin alike
begin_alike : {A : Type 0} (a b c d : List A) → a ++ b ≡ c ++ d → length a ≡ length c → (a ≡ c) × (b ≡ d)
begin_alike a b c d e l = (
  sym (take-append_seam a b) ∙ (λ i. take (l i) (e i)) ∙ take-append_seam c d,
  sym (drop-append_seam a b) ∙ (λ i. drop (l i) (e i)) ∙ drop-append_seam c d,
)

module _ {S : Type 0} (P : Meaning S) where
  calls_of : (w : World S) (cs : List Call) → calls (turns P w cs) ≡ cs
  calls_of w [] = refl
  calls_of w (c ∷ cs) = ap (λ (l : List Call). c ∷ l) (calls_of (step P w c).world cs)

  length_answers : (w : World S) (cs : List Call) → length (answers (turns P w cs)) ≡ length cs
  length_answers w [] = refl
  length_answers w (c ∷ cs) = ap suc (length_answers (step P w c).world cs)

  answers_append : (w : World S) (a b : List Call) → answers (turns P w (a ++ b)) ≡ answers (turns P w a) ++ answers (turns P (world_after P w a) b)
  answers_append w [] b = refl
  answers_append w (c ∷ a) b = ap (λ (l : List Answered). (step P w c).answer ∷ l) (answers_append (step P w c).world a b)

  turns_again : (w : World S) (cs : List Call) → answered_by cs (answers (turns P w cs)) ≡ turns P w cs
  turns_again w [] = refl
  turns_again w (c ∷ cs) = ap (λ (l : List Turn). record { call = c; answer = (step P w c).answer } ∷ l) (turns_again (step P w c).world cs)

  -- the answers to the first calls
  first_answers : (w : World S) (early late : List Call) (said later : List Answered) → answers (turns P w (early ++ late)) ≡ said ++ later → length said ≡ length early
      → (answers (turns P w early) ≡ said) × (answers (turns P (world_after P w early) late) ≡ later)
  first_answers w early late said later e l =
      begin_alike (answers (turns P w early)) (answers (turns P (world_after P w early) late)) said later (sym (answers_append w early late) ∙ e) (length_answers w early ∙ sym l)

  module _ (laws : P.sound ≡ true → Laws P) (w : World S) (f : Fresh P w) (cs : List Call) (xs : List Answered) (is : xs ≡ answers (turns P w cs)) where
    pub throughout : FaithfulThroughout P w cs xs
    throughout early late said later ec ex l i =
        let a = (first_answers w early late said later (sym (is ∙ ap (λ (t : List Call). answers (turns P w t)) ec) ∙ ex) l).0 in
        let t : answered_by early said ≡ turns P w early = ap (answered_by early) (sym a) ∙ turns_again w early in
        subst⁻¹ (λ (ts : List Turn). Promised P ts (world_after P w early) i) t (all_promised P laws w f cs early late ec i)

    pub recovering : RecoversThroughout P w cs xs
    recovering early late said mark more later i ec ex l n loss nb nr =
        let v = world_after P w early in
        let j = up_to_end (waiting (seat_at v.core.seats (v.clients i).seat)) in
        let d = P.distance (v.clients i).state v.core.state in
        let reads = replicate (j + d + 1) (reading i) in
        let a = (first_answers w early (reads ++ late) said ((mark ∷ more) ++ later) (sym (is ∙ ap (λ (t : List Call). answers (turns P w t)) ec) ∙ ex) l).1 in
        let b : answers (turns P v reads) ≡ mark ∷ more = (first_answers v reads late (mark ∷ more) later a (n ∙ sym (length-replicate (j + d + 1) (reading i)))).0 in
        let z : j + d + 1 ≡ suc (j + d) = omega arith in
        let first : (step P v (reading i)).answer ≡ mark = (let q = sym (ap (λ (m : ℕ). answers (turns P v (replicate m (reading i)))) z) ∙ b in cc) in
        let p = (all_promised P laws w f cs early (reads ++ late) ec i).recovers (subst⁻¹ Loss first loss) nb nr (turns P v reads) (world_after P v reads) (run_of P v reads) (calls_of v reads) in
        (p.0, p.1, p.2, sym b ∙ p.3, p.4, p.5)
