-- The words of the keys that are held.
use Rattle.std.specs.Prelude.{◌≡◌, ℕ, List, ◌++◌, codes, decimal, flat_map}
use Rattle.keys.specs.declared.set.Keys.{Keys}
use Rattle.keys.specs.KeySet.{held_codes}

-- a key that is held, with a space in front: K31
abbrev pub key_word : ℕ → List ℕ
key_word c = codes " K" ++ decimal c

-- the words of these codes
abbrev pub code_words : List ℕ → List ℕ
code_words cs = flat_map key_word cs

-- the keys that are held, ascending
abbrev pub key_words : Keys → List ℕ
key_words s = code_words (held_codes s)

-- two key sets that are written alike are the same
abbrev pub KeysApart : Type 0
KeysApart = (s t : Keys) → key_words s ≡ key_words t → s ≡ t
