-- What the value of a key's event says.
use Rattle.std.specs.Prelude.{ℕ, zero, suc, List, ℤ, pos, negsuc, Some, None, Option, codes}
use Rattle.events.specs.declared.keys.KeyAction.{KeyAction}
use Rattle.events.specs.declared.keys.KeyAction.TheVariants.{Release, Press, Repeat}

-- a release is 0, a press 1, a repeat 2
abbrev pub value_of : KeyAction → ℤ
value_of Release = pos 0
value_of Press = pos 1
value_of Repeat = pos 2

-- what a value says, if anything
abbrev pub action_of : ℤ → Option KeyAction
action_of (pos zero) = Some Release
action_of (pos (suc zero)) = Some Press
action_of (pos (suc (suc zero))) = Some Repeat
action_of (pos (suc (suc (suc n)))) = None
action_of (negsuc n) = None

-- an action in a word
abbrev pub word_of : KeyAction → List ℕ
word_of Release = codes "release"
word_of Press = codes "press"
word_of Repeat = codes "repeat"
