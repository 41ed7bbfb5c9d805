-- Numbers in a text: where digits end.
use Rattle.std.proofs.Common.{◌≡◌, ℕ, ◌%◌, ◌^◌, ◌<◌, ◌≤◌, ◌+◌, List, [], ◌∷◌, ◌++◌, decimal, sym, refl, subst, arith}
use Rattle.std.specs.List.{All}
use Rattle.std.proofs.lemmas.Fmt.{decimal_by_steps}
use Rattle.std.proofs.lemmas.List.Elements.{All-nil, All-cons, All-push, All-head, All-tail}

abbrev pub Digit : ℕ → Type 0
Digit b = (48 ≤ b) × (b ≤ 57)

pub digits : (n : ℕ) → n < 2 ^ 64 → All Digit (decimal n)
digits n h = decimal_by_steps (λ n ds. All Digit ds) (λ n l. All-cons Digit (48 + n) [] (omega arith, omega arith) (All-nil Digit))
    (λ n ds l a. All-push Digit ds (48 + n % 10) a (omega arith, omega arith)) n h

-- a text that does not go on with a digit
abbrev pub Stops : List ℕ → Type 0
Stops [] = Unit {0}
Stops (x ∷ xs) = Digit x → ⊥

-- digits end where a text stops
pub split : (xs ys r s : List ℕ) → All Digit xs → All Digit ys → Stops r → Stops s → xs ++ r ≡ ys ++ s → (xs ≡ ys) × (r ≡ s)
split [] [] r s a b p q e = (refl, e)
split [] (y ∷ ys) [] s a b p q e = absurd cc
split [] (y ∷ ys) (x ∷ r) s a b p q e = absurd (let h : x ≡ y = cc in p (subst Digit (sym h) (All-head Digit y ys b)))
split (x ∷ xs) [] r [] a b p q e = absurd cc
split (x ∷ xs) [] r (y ∷ s) a b p q e = absurd (let h : y ≡ x = cc in q (subst Digit (sym h) (All-head Digit x xs a)))
split (x ∷ xs) (y ∷ ys) r s a b p q e =
    let t : xs ++ r ≡ ys ++ s = cc in
    let more = split xs ys r s (All-tail Digit x xs a) (All-tail Digit y ys b) p q t in
    (cc more.0, more.1)
