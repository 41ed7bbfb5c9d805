-- What is found word by word.
use Rattle.std.specs.Prelude.{◌≡◌, ℕ, ◌+◌, ◌*◌, ◌<◌, Some, None, Option, MatchOption}
use Rattle.std.specs.Int.Count.{count_trailing_zeros}

-- an index and a word are found where there is a code o, which is that of the lowest bit set in the word
abbrev pub Lowest : Option (ℕ × ℕ) → Option ℕ → Type 0
Lowest r o = MatchOption r (o ≡ None) (λ p. (p.0 < 12) × (o ≡ Some (p.0 * 64 + count_trailing_zeros 64 p.1)))
