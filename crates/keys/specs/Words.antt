-- The codes 1 to 767 as the bits of twelve words of 64 bits.
use Rattle.std.specs.Prelude.{◌≡◌, ℕ, ◌/◌, ◌%◌, ◌^◌, ◌<◌, ◌≤◌, Bool, false, cond, ◌&&◌, List, length, ◌==◌, bit_xor, nat_le, slice_index, slice_set}
use Rattle.std.proofs.Common.{sym, ap, ◌∙◌, subst, ⊎_elim, arith, length-set, get_or-set_same, get_or-set_other}
use Rattle.std.proofs.lemmas.Nat.{xor_lt}
use Rattle.std.proofs.Math.Pow.{pow-lt}
use Rattle.std.proofs.lemmas.Bool.{cases_eq, cond_both, and_parts, leb-true, eq-eqb, ne_eqb}
use Rattle.codes.specs.Bit.{bit, unlike}
use Rattle.codes.proofs.BitLaws.{bit_turned, unlike_false}

-- bit c % 64 of word c / 64, which is that of the code c
abbrev pub has : List ℕ → ℕ → Bool
has ws c = bit (slice_index ws (c / 64)) (c % 64)

-- twelve words of 64 bits, in which bit 0 of the first, which would be the code 0, is never set
abbrev pub Keyset : List ℕ → Type 0
Keyset ws = (length ws ≡ 12) × ((i : ℕ) → i < 12 → slice_index ws i < 2 ^ 64) × (has ws 0 ≡ false)

-- whether c is the code of a key
abbrev pub is_code : ℕ → Bool
is_code c = nat_le 1 c && nat_le c 767

-- the words with bit c % 64 of word c / 64 turned over
abbrev pub flipped : List ℕ → ℕ → List ℕ
flipped ws c = slice_set ws (c / 64) (bit_xor (slice_index ws (c / 64)) (2 ^ (c % 64)))

same_place : (c k : ℕ) → c / 64 ≡ k / 64 → (c % 64 == k % 64) ≡ (c == k)
same_place c k e =
    ⊎_elim (λ h. eq-eqb _ _ (ap (λ (x : ℕ). x % 64) h) ∙ sym (eq-eqb c k h)) (λ n. ne_eqb _ _ (λ h. n (omega arith)) ∙ sym (ne_eqb c k n)) (cases_eq c k)

-- the bit of c is turned over, and the others stay
pub has_flipped : (ws : List ℕ) (c k : ℕ) → c / 64 < length ws → has (flipped ws c) k ≡ unlike (has ws k) (c == k)
has_flipped ws c k h = ⊎_elim
    (λ e. ap (λ (x : ℕ). bit (slice_index (flipped ws c) x) (k % 64)) (sym e)
    ∙ ap (λ (x : ℕ). bit x (k % 64)) (get_or-set_same ws (c / 64) _ 0 h)
    ∙ bit_turned (slice_index ws (c / 64)) (c % 64) (k % 64)
    ∙ ap (λ (x : ℕ). unlike (bit (slice_index ws x) (k % 64)) (c % 64 == k % 64)) e
    ∙ ap (unlike (has ws k)) (same_place c k e))
    (λ n. ap (λ (x : ℕ). bit x (k % 64)) (get_or-set_other ws (c / 64) (k / 64) _ 0 (λ e. n (sym e)))
    ∙ sym (unlike_false (has ws k))
    ∙ ap (unlike (has ws k)) (sym (ne_eqb c k (λ e. n (ap (λ (x : ℕ). x / 64) e)))))
    (cases_eq (c / 64) (k / 64))

pub flipped_ok : (ws : List ℕ) (c : ℕ) → 1 ≤ c → c < 768 → Keyset ws → Keyset (flipped ws c)
flipped_ok ws c l u (twelve, wide, clear) =
    let lt : c / 64 < length ws = omega arith in (
      length-set ws _ _ ∙ twelve,
      (λ i h. ⊎_elim
          (λ e. subst (λ (x : ℕ). slice_index (flipped ws c) x < 2 ^ 64) (sym e)
          (subst (λ (x : ℕ). x < 2 ^ 64) (sym (get_or-set_same ws (c / 64) _ 0 lt))
          (let p : c % 64 < 64 = omega arith in xor_lt 64 _ _ (wide (c / 64) (omega arith)) (pow-lt p))))
          (λ n. subst (λ (x : ℕ). x < 2 ^ 64) (sym (get_or-set_other ws (c / 64) i _ 0 n)) (wide i h))
          (cases_eq i (c / 64))),
      has_flipped ws c 0 lt ∙ ap (unlike (has ws 0)) (ne_eqb c 0 (λ e. omega arith)) ∙ unlike_false (has ws 0) ∙ clear,
    )

pub turned_ok : (ws : List ℕ) (c : ℕ) → Keyset ws → Keyset (cond (is_code c) (flipped ws c) ws)
turned_ok ws c ok = cond_both (is_code c) (flipped ws c) ws Keyset
    (λ y. let r = and_parts _ _ y in flipped_ok ws c (leb-true _ _ r.0) (omega (arith, leb-true c 767 r.1)) ok)
    (λ n. ok)
