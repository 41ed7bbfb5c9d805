-- What a loop over a recording needs: after n records, those still to come are `cut (1000 - n) rest`, where `rest` is what is left of the bytes.
use Rattle.std.proofs.Common.{◌≡◌, ℕ, suc, ◌+◌, ◌-◌, ◌<◌, List, ◌∷◌, length, take, drop, is_some, Some, None, Option, sym, refl, ap, ◌∙◌, ⊎_elim, arith}
use Rattle.std.proofs.lemmas.Bool.{cases_lt}
use Rattle.std.proofs.lemmas.Option.{none-some}
use Rattle.recording.specs.Frames.{first_length, with_first, cut, counted}
use Rattle.recording.proofs.Cuts.{cut_full, cut_broken, cut_more, split_first}

-- the records still to come are the first one and those after it
pub turn : (rest : List ℕ) (n k : ℕ) → n < 1000 → first_length rest ≡ Some k
    → cut (1000 - n) rest ≡ with_first (take k (drop 2 rest)) (cut (1000 - (n + 1)) (drop (2 + k) rest))
turn rest n k h e =
    let one : 1000 - n ≡ suc (1000 - (n + 1)) = omega arith in
    ap (λ (m : ℕ). cut m rest) one ∙ cut_more (1000 - (n + 1)) rest k e

-- where a record is to come and all are there, one more is allowed
pub room : (rest : List ℕ) (n : ℕ) (rs : List (List ℕ)) → 0 < length rest → cut (1000 - n) rest ≡ Some rs → n < 1000
room rest n rs h e = ⊎_elim (λ l. l)
    (λ g. let z : 1000 - n ≡ 0 = omega arith in absurd (none-some rs (sym (ap (λ (m : ℕ). cut m rest) z ∙ cut_full rest h) ∙ e)))
    (cases_lt n 1000)

-- where all are there, the next one is never broken
pub whole : (rest : List ℕ) (n : ℕ) (rs : List (List ℕ)) → 0 < length rest → cut (1000 - n) rest ≡ Some rs → first_length rest ≡ None → ⊥
whole rest n rs h e o = none-some rs (sym (cut_broken (1000 - n) rest h o) ∙ e)

-- where all are there, the next one is the first of them, and the others are still to come
pub next : (rest : List ℕ) (n k : ℕ) (rs : List (List ℕ)) → 0 < length rest → cut (1000 - n) rest ≡ Some rs → first_length rest ≡ Some k
    → (others : List (List ℕ)) × (cut (1000 - (n + 1)) (drop (2 + k) rest) ≡ Some others) × (rs ≡ take k (drop 2 rest) ∷ others)
next rest n k rs h e f = split_first (take k (drop 2 rest)) (cut (1000 - (n + 1)) (drop (2 + k) rest)) rs (sym (turn rest n k (room rest n rs h e) f) ∙ e)

-- one more counts for one
counted_on : (n : ℕ) (x : List ℕ) (o : Option (List (List ℕ))) → counted n (with_first x o) ≡ counted (n + 1) o
counted_on n x None = refl
counted_on n x (Some rs) = ap Some (omega arith)

-- the count of the records so far, with those still to come, stays
pub counted_turn : (rest : List ℕ) (n k : ℕ) → n < 1000 → first_length rest ≡ Some k
    → counted (n + 1) (cut (1000 - (n + 1)) (drop (2 + k) rest)) ≡ counted n (cut (1000 - n) rest)
counted_turn rest n k h e = sym (counted_on n (take k (drop 2 rest)) (cut (1000 - (n + 1)) (drop (2 + k) rest))) ∙ ap (counted n) (sym (turn rest n k h e))

-- there is a count exactly where there are records
pub counted_some : (n : ℕ) (o : Option (List (List ℕ))) → is_some (counted n o) ≡ is_some o
counted_some n None = refl
counted_some n (Some rs) = refl
