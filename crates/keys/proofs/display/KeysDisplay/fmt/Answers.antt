use Rattle.std.proofs.Common.{ℕ, List, ◌++◌, sym, ap, ◌∙◌, append_assoc, append-nil, rules}
use Rattle.std.proofs.Output.{has_written_append, has_written_of_eq}
use Rattle.keys.specs.KeySetLaws.{codes_from_first}
use Rattle.keys.specs.KeyWords.{key_word, code_words}
use Rattle.keys.proofs.KeyWordLaws.{keys_apart}
use Rattle.keys.proofs.display.KeysDisplay.fmt.Goals as goal

pub loop-code-preserved : goal.loop-code-preserved
loop-code-preserved g c = λ plain.
    let so_far = c.loop-code.invariant plain in
    let word = key_word c.in-Some.code in (
      so_far.0 ++ word,
      has_written_append _ _ _ _ _ _ so_far.1 (search rules),
      append_assoc so_far.0 word _ ∙ ap (λ (cs : List ℕ). so_far.0 ++ code_words cs) (sym c.in-Some.ensures.steps.1) ∙ so_far.2,
    )

pub returns-in_err-write-clause-apart : goal.returns-in_err-write-clause-apart
returns-in_err-write-clause-apart g c = keys_apart

pub returns : goal.returns
returns g c = record {
  writes = λ plain _.
      let so_far = c.loop-code.invariant plain in
      let none = codes_from_first c.loop-code.code-iterator.keys (sym c.in-None.ensures.steps.0) in
      has_written_of_eq _ _ _ _ _ (sym (append-nil so_far.0) ∙ ap (λ (cs : List ℕ). so_far.0 ++ code_words cs) (sym none) ∙ so_far.2) so_far.1;
  apart = keys_apart;
}
