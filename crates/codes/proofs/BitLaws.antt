-- Laws of the bits of a number.
use Rattle.std.proofs.Common.{◌≡◌, ℕ, zero, suc, ◌+◌, ◌/◌, ◌%◌, ◌^◌, ◌<◌, Bool, true, false, cond, eqb, ◌⊎◌, sym, refl, ap, ◌∙◌, inl, inr, ⊎_elim, pow-suc, arith}
use lib.Bits.{bit_xor}
use lib.Count.{ones, ones_step, count_trailing_zeros, under}
use Rattle.std.specs.Int.{bit_at}
use Rattle.std.proofs.lemmas.Nat.Bits.{bit_at-suc, bit_at-zero, bit_at-pow_same, bit_at-pow_other, bit_at_xor, bit_at-lt, same_from_bits_below}
use Rattle.std.proofs.lemmas.Bool.{cases_eq, cond-true, cond-false, eq-eqb, ne_eqb, true≢false, false≢true}
use Rattle.codes.specs.Bit.{bit, unlike}
use Rattle.codes.specs.Search.{counted}
use Rattle.codes.proofs.SearchLaws.{counted_shift}

-- ---- two that are not the same

pub unlike_false : (b : Bool) → unlike b false ≡ b
unlike_false true = refl
unlike_false false = refl

pub unlike_self : (b : Bool) → unlike b b ≡ false
unlike_self true = refl
unlike_self false = refl

pub unlike_comm : (a b : Bool) → unlike a b ≡ unlike b a
unlike_comm true true = refl
unlike_comm true false = refl
unlike_comm false true = refl
unlike_comm false false = refl

pub alike : (a b : Bool) → unlike a b ≡ false → a ≡ b
alike true true e = refl
alike true false e = absurd (true≢false e)
alike false true e = absurd (true≢false e)
alike false false e = refl

-- what is unlike another, turned over, is that other
pub unlike_turned : (a b : Bool) → unlike a b ≡ true → unlike a true ≡ b
unlike_turned true true e = absurd (false≢true e)
unlike_turned true false e = refl
unlike_turned false true e = refl
unlike_turned false false e = absurd (false≢true e)

-- ---- one bit

pub bit_suc : (w k : ℕ) → bit w (suc k) ≡ bit (w / 2) k
bit_suc w k = ap (λ (x : ℕ). eqb x 1) (bit_at-suc w k)

pub bit_zero : (k : ℕ) → bit 0 k ≡ false
bit_zero k = ap (λ (x : ℕ). eqb x 1) (bit_at-zero k)

pub bit_pow : (j k : ℕ) → bit (2 ^ j) k ≡ eqb j k
bit_pow j k = ⊎_elim
    (λ e. ap (bit (2 ^ j)) (sym e) ∙ ap (λ (x : ℕ). eqb x 1) (bit_at-pow_same j) ∙ sym (eq-eqb j k e))
    (λ n. ap (λ (x : ℕ). eqb x 1) (bit_at-pow_other j k (λ e. n (sym e))) ∙ sym (ne_eqb j k n))
    (cases_eq j k)

-- a digit is 0 or 1
digit : (m : ℕ) → m < 2 → (m ≡ 0) ⊎ (m ≡ 1)
digit zero h = inl refl
digit (suc zero) h = inr refl
digit (suc (suc m)) h = absurd (omega arith)

pub bit_bit_xor : (a b k : ℕ) → bit (bit_xor a b) k ≡ unlike (bit a k) (bit b k)
bit_bit_xor a b k =
    ap (λ (x : ℕ). eqb x 1) (bit_at_xor a b k) ∙ odd (bit_at a k) (bit_at b k) (digit (bit_at a k) (bit_at-lt a k)) (digit (bit_at b k) (bit_at-lt b k))
  where
    odd : (m n : ℕ) → (m ≡ 0) ⊎ (m ≡ 1) → (n ≡ 0) ⊎ (n ≡ 1) → eqb ((m + n) % 2) 1 ≡ unlike (eqb m 1) (eqb n 1)
    odd m n (inl p) (inl q) = rw (p, q) refl
    odd m n (inl p) (inr q) = rw (p, q) refl
    odd m n (inr p) (inl q) = rw (p, q) refl
    odd m n (inr p) (inr q) = rw (p, q) refl

-- bit j is turned over, and the others stay
pub bit_turned : (w j k : ℕ) → bit (bit_xor w (2 ^ j)) k ≡ unlike (bit w k) (eqb j k)
bit_turned w j k = bit_bit_xor w (2 ^ j) k ∙ ap (unlike (bit w k)) (bit_pow j k)

-- ---- all bits

-- a number is its bits
pub same_bits : (n a b : ℕ) → a < 2 ^ n → b < 2 ^ n → ((k : ℕ) → k < n → bit a k ≡ bit b k) → a ≡ b
same_bits n a b p q f =
    same_from_bits_below n a b p q (λ k h. same (bit_at a k) (bit_at b k) (digit (bit_at a k) (bit_at-lt a k)) (digit (bit_at b k) (bit_at-lt b k)) (f k h))
  where
    same : (m n : ℕ) → (m ≡ 0) ⊎ (m ≡ 1) → (n ≡ 0) ⊎ (n ≡ 1) → eqb m 1 ≡ eqb n 1 → m ≡ n
    same m n (inl p) (inl q) e = p ∙ sym q
    same m n (inl p) (inr q) e = absurd (false≢true (sym (ne_eqb m 1 (λ y. omega arith)) ∙ e ∙ eq-eqb n 1 q))
    same m n (inr p) (inl q) e = absurd (false≢true (sym (ne_eqb n 1 (λ y. omega arith)) ∙ sym e ∙ eq-eqb m 1 p))
    same m n (inr p) (inr q) e = p ∙ sym q

-- numbers with no bit unlike are equal
pub xor_zero : (n a b : ℕ) → a < 2 ^ n → b < 2 ^ n → bit_xor a b ≡ 0 → a ≡ b
xor_zero n a b p q e = same_bits n a b p q (λ k h. alike _ _ (sym (bit_bit_xor a b k) ∙ ap (λ (x : ℕ). bit x k) e ∙ bit_zero k))

even_at : (a : ℕ) → a % 2 ≡ 0 → bit a 0 ≡ false
even_at a e = ne_eqb _ _ (λ h. omega arith)

odd_at : (a : ℕ) → (a % 2 ≡ 0 → ⊥) → bit a 0 ≡ true
odd_at a e = eq-eqb _ _ (omega arith)

-- the count of the trailing zeros is the place of the lowest bit that is set
pub trailing_lowest : (n a : ℕ) → 0 < a → a < 2 ^ n → (bit a (count_trailing_zeros n a) ≡ true) × ((j : ℕ) → j < count_trailing_zeros n a → bit a j ≡ false)
unfolding count_trailing_zeros
trailing_lowest zero a p q = absurd (omega arith)
trailing_lowest (suc n) a p q = go (a % 2) refl (λ e. trailing_lowest n (a / 2) (omega arith) (omega (arith, pow-suc 2 n)))
  where
    Lowest : ℕ → ℕ → Type 0
    Lowest b z = (bit b z ≡ true) × ((j : ℕ) → j < z → bit b j ≡ false)

    below : a % 2 ≡ 0 → (z : ℕ) → ((j : ℕ) → j < z → bit (a / 2) j ≡ false) → (j : ℕ) → j < suc z → bit a j ≡ false
    below e z r zero h = even_at a e
    below e z r (suc j) h = bit_suc a j ∙ r j (omega arith)

    go : (d : ℕ) → a % 2 ≡ d → (a % 2 ≡ 0 → Lowest (a / 2) (count_trailing_zeros n (a / 2))) → Lowest a (under d (count_trailing_zeros n (a / 2)))
    go (suc d) e rest = (odd_at a (omega arith), λ j h. absurd (omega arith))
    go zero e rest = let r = rest e in (bit_suc a _ ∙ r.0, below e _ r.1)

-- the count of the ones counts the bits that are set
pub ones_counted : (n a : ℕ) → a < 2 ^ n → ones a ≡ counted (bit a) 0 n
unfolding ones counted
ones_counted zero a h = let z : a ≡ 0 = omega arith in ap ones z
ones_counted (suc n) a h =
    let rest : ones (a / 2) ≡ counted (bit (a / 2)) 0 n = ones_counted n (a / 2) (omega (arith, pow-suc 2 n)) in
    let on : counted (bit a) 1 n ≡ counted (bit (a / 2)) 0 n = counted_shift (bit a) (bit (a / 2)) 1 0 n (λ j l.
    let x : 1 + j ≡ suc j = omega arith in
    let y : j ≡ 0 + j = omega arith in
    ap (bit a) x ∙ bit_suc a j ∙ ap (bit (a / 2)) y) in
    let lead : a % 2 ≡ cond (bit a 0) 1 0 = ⊎_elim
    (λ e. e ∙ sym (cond-false {A = ℕ} (bit a 0) 1 0 (even_at a e)))
    (λ e. let o : a % 2 ≡ 1 = omega arith in o ∙ sym (cond-true {A = ℕ} (bit a 0) 1 0 (odd_at a e)))
    (cases_eq (a % 2) 0) in
    omega (arith, ones_step a)
