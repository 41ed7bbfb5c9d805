-- Laws of the words of the keys.
use Rattle.std.proofs.Common.{◌≡◌, ℕ, ◌^◌, ◌<◌, List, [], ◌∷◌, ◌++◌, decimal, refl, arith}
use Rattle.std.specs.List.{All}
use Rattle.std.proofs.lemmas.Fmt.{decimal_injective}
use Rattle.std.proofs.lemmas.List.Elements.{All-head, All-tail, All-weaker}
use Rattle.keys.specs.KeySet.{held_codes}
use Rattle.keys.specs.declared.set.Keys.{Keys}
use Rattle.keys.specs.KeySetLaws.{IsHeld, all_codes, same_from_codes}
use Rattle.codes.proofs.DigitLaws.{Stops, digits, split}
use Rattle.keys.specs.KeyWords.{code_words, KeysApart}

-- ---- the words say the codes

words_stop : (cs : List ℕ) → Stops (code_words cs)
words_stop [] = tt
words_stop (c ∷ cs) = λ d. omega arith

-- a number that is printed by its digits
abbrev Small : ℕ → Type 0
Small c = c < 2 ^ 64

same_codes : (cs ds : List ℕ) → All Small cs → All Small ds → code_words cs ≡ code_words ds → cs ≡ ds
same_codes [] [] a b e = refl
same_codes [] (d ∷ ds) a b e = absurd cc
same_codes (c ∷ cs) [] a b e = absurd cc
same_codes (c ∷ cs) (d ∷ ds) a b e =
    let l : c < 2 ^ 64 = All-head Small c cs a in
    let u : d < 2 ^ 64 = All-head Small d ds b in
    let t : decimal c ++ code_words cs ≡ decimal d ++ code_words ds = cc in
    let more = split (decimal c) (decimal d) (code_words cs) (code_words ds) (digits c l) (digits d u) (words_stop cs) (words_stop ds) t in
    cc (decimal_injective c d l u more.0, same_codes cs ds (All-tail Small c cs a) (All-tail Small d ds b) more.1)

-- ---- the codes say the set

small : (s : Keys) → All Small (held_codes s)
small s = All-weaker (IsHeld s) Small (λ c h. omega arith) (held_codes s) (all_codes s)

pub keys_apart : KeysApart
keys_apart s t e = same_from_codes s t (same_codes (held_codes s) (held_codes t) (small s) (small t) e)
