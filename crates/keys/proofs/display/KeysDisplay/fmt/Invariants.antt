use Rattle.std.proofs.Common.{◌≡◌, ℕ, List, ◌++◌}
use Rattle.std.specs.Fmt.{HasWritten, IsPlainFormatter}
use Rattle.keys.specs.KeyWords.{key_words}
use Rattle.keys.proofs.display.KeysDisplay.fmt.Given as goal

-- what is written, with the words still to come, is the whole
abbrev pub invariant-loop-code : goal.invariant-loop-code
invariant-loop-code g l =
    IsPlainFormatter l.initial.f → (done : List ℕ) × HasWritten g.W.Write.write_str_gives l.initial.f done l.f × (done ++ key_words l.code-iterator.keys ≡ key_words l.fn.self)
