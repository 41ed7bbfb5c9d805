-- What the words of two sets say of the codes at which the sets differ.
use Rattle.std.proofs.Common.{◌≡◌, ◌≢◌, ℕ, suc, ◌+◌, ◌-◌, ◌*◌, ◌/◌, ◌%◌, ◌^◌, ◌<◌, ◌≤◌, Bool, true, false, List, [], ◌∷◌, w64, ◌==◌, length, map, take, get_or, set, Some, None, Option, MatchOption, sym, refl, ap, ◌∙◌, ap₂, subst, ⊎_elim, zero-add, arith}
use lib.Bits.{bit_xor, xor_lt}
use lib.Count.{count_trailing_zeros, ones}
use Rattle.std.specs.List.{AllWithin, HoldsAt, enumerate_from, sum_by, zip}
use Rattle.std.proofs.lemmas.Nat.{one_shl}
use Rattle.std.proofs.lemmas.Nat.Bits.{bit_at-trailing_zeros}
use Rattle.std.proofs.lemmas.List.{length-map, get_or-map, take_all}
use Rattle.std.proofs.lemmas.List.FromFn.{length-enumerate_from, get_or-enumerate_from}
use Rattle.std.proofs.lemmas.List.Sums.{sum_by-cons}
use Rattle.std.proofs.lemmas.Slice.Zip.{length-zip, get_or-zip}
use Rattle.std.proofs.lemmas.Grind.{get_or_default_zero}
use Rattle.std.proofs.lemmas.Bool.{cases_eq, cases_lt, true≢false}
use Rattle.codes.specs.Bit.{bit, unlike}
use Rattle.codes.specs.Search.{counted}
use Rattle.codes.proofs.BitLaws.{bit_bit_xor, xor_zero, ones_counted, unlike_self}
use Rattle.codes.proofs.SearchLaws.{smallest_is, smallest_none, counted_split, counted_shift}
use Rattle.keys.specs.declared.set.Keys.{Keys}
use Rattle.keys.specs.Words.{has, flipped}
use Rattle.keys.specs.KeySet.{differs, first_apart, count_apart}
use Rattle.keys.specs.Scan.{Lowest}
use Rattle.keys.specs.KeySetLaws.{held_has, count_apart_le}

-- the words as `^=` with a shifted 1 leaves them
pub written : (ws : List ℕ) (c : ℕ) → flipped ws c ≡ set ws (c / 64) (bit_xor (get_or ws (c / 64) 0) ((1 * 2 ^ (c % 64)) % 2 ^ 64))
written ws c = ap (λ (x : ℕ). set ws (c / 64) (bit_xor (get_or ws (c / 64) 0) x)) (sym (one_shl (c % 64) 64 (omega arith)))

-- the twelve words from the first on are all the words
pub twelve_taken : (s : Keys) → take 12 s.words ≡ s.words
twelve_taken s = take_all 12 s.words (omega (arith, s.ok.0))

-- the counts of blocks of 64 numbers, one after another
counted_blocks : {X : Type 0} (h : X → ℕ) (p : ℕ → Bool) (xs : List X) (c : ℕ)
    → ((i : ℕ) (d : X) → i < length xs → h (get_or xs i d) ≡ counted p (c + 64 * i) 64) → sum_by h xs ≡ counted p c (64 * length xs)
unfolding counted
counted_blocks h p [] c f = refl
counted_blocks h p (x ∷ xs) c f =
    let here : h x ≡ counted p c 64 = f 0 x (omega arith) ∙ ap (λ (n : ℕ). counted p n 64) (omega arith) in
    let rest = counted_blocks h p xs (c + 64) (λ i d l. f (suc i) d (omega arith) ∙ ap (λ (n : ℕ). counted p n 64) (omega arith)) in
    let all : 64 * suc (length xs) ≡ 64 + 64 * length xs = omega arith in
    sum_by-cons h x xs ∙ ap₂ (λ (m n : ℕ). m + n) here rest ∙ sym (counted_split p c 64 (64 * length xs)) ∙ ap (counted p c) (sym all)

-- the bits at which word i of one set differs from that of another
abbrev pub apart : Keys → Keys → ℕ → ℕ
apart s t i = bit_xor (get_or s.words i 0) (get_or t.words i 0)

module _ (s t : Keys) where
  pub apart_lt : (i : ℕ) → i < 12 → apart s t i < 2 ^ 64
  apart_lt i l = xor_lt 64 _ _ (s.ok.1 i l) (t.ok.1 i l)

  differs_has : (c : ℕ) → differs s t c ≡ unlike (has s.words c) (has t.words c)
  differs_has c = ap₂ unlike (held_has s c) (held_has t c)

  bit_apart : (i k : ℕ) → k < 64 → differs s t (i * 64 + k) ≡ bit (apart s t i) k
  bit_apart i k h =
      let q : (i * 64 + k) / 64 ≡ i = omega arith in
      let m : (i * 64 + k) % 64 ≡ k = omega arith in
      differs_has (i * 64 + k) ∙ ap₂ (λ (u v : ℕ). unlike (bit (get_or s.words u 0) v) (bit (get_or t.words u 0) v)) q m ∙ sym (bit_bit_xor _ _ k)

  -- words that are the same differ at no code
  same_word : (c : ℕ) → c / 64 < 12 → apart s t (c / 64) ≡ 0 → differs s t c ≡ false
  same_word c l e =
      let same : get_or s.words (c / 64) 0 ≡ get_or t.words (c / 64) 0 = xor_zero 64 _ _ (s.ok.1 _ l) (t.ok.1 _ l) e in
      differs_has c ∙ ap (λ (w : ℕ). unlike (bit w (c % 64)) (has t.words c)) same ∙ unlike_self (has t.words c)

  -- the smallest code that differs stands in the first word that differs, at its lowest bit
  first_apart_in : (i : ℕ) → i < 12 → ((j : ℕ) → j < i → apart s t j ≡ 0)
      → (apart s t i ≢ 0) → first_apart s t ≡ Some (i * 64 + count_trailing_zeros 64 (apart s t i))
  first_apart_in i l same ne =
      let z = count_trailing_zeros 64 (apart s t i) in
      let r = bit_at-trailing_zeros w64 (apart s t i) (omega arith) (apart_lt i l) in
      let low : z < 64 = r.0 in
      let hit : differs s t (i * 64 + z) ≡ true = bit_apart i z low ∙ ap (λ (x : ℕ). x == 1) r.1 in
      let before : (c : ℕ) → c < i * 64 + z → differs s t c ≡ false = λ c h. ⊎_elim
      (λ e. same_word c (omega arith) (same (c / 64) e))
      (λ g. let k : c ≡ i * 64 + (c - i * 64) = omega arith in ap (differs s t) k ∙ bit_apart i (c - i * 64) (omega arith) ∙ ap (λ (x : ℕ). x == 1) (r.2 (c - i * 64) (omega arith)))
      (cases_lt (c / 64) i) in
      let one : 1 ≤ i * 64 + z = ⊎_elim
      (λ e. absurd (true≢false (sym hit ∙ ap (differs s t) e)))
      (λ n. omega arith) (cases_eq (i * 64 + z) 0) in
      smallest_is (differs s t) 1 767 (i * 64 + z) one (omega arith) hit (λ j g h. before j h)

  first_apart_nowhere : ((j : ℕ) → j < 12 → apart s t j ≡ 0) → first_apart s t ≡ None
  first_apart_nowhere same = smallest_none (differs s t) 1 767 (λ c g h. same_word c (omega arith) (same (c / 64) (omega arith)))

  -- ---- all words

  abbrev pub word_pairs : List (ℕ × ℕ)
  word_pairs = zip s.words t.words

  -- the words by which the sets differ
  abbrev pub words_apart : List ℕ
  words_apart = map (λ p. bit_xor p.0 p.1) word_pairs

  twelve_pairs : length word_pairs ≡ 12
  twelve_pairs = omega (arith, length-zip s.words t.words, s.ok.0, t.ok.0)

  pair_at : (i : ℕ) (d : ℕ × ℕ) → i < 12 → get_or word_pairs i d ≡ (get_or s.words i 0, get_or t.words i 0)
  pair_at i d l =
      get_or-zip s.words t.words i d (omega (arith, s.ok.0)) (omega (arith, t.ok.0))
      ∙ ap₂ (λ (u v : ℕ). (u, v)) (get_or_default_zero s.words i d.0 (omega (arith, s.ok.0))) (get_or_default_zero t.words i d.1 (omega (arith, t.ok.0)))

  twelve_words : length words_apart ≡ 12
  twelve_words = length-map word_pairs (λ p. bit_xor p.0 p.1) ∙ twelve_pairs

  word_at : (i : ℕ) → i < 12 → get_or words_apart i 0 ≡ apart s t i
  word_at i l =
      get_or-map (λ p. bit_xor p.0 p.1) word_pairs i (0, 0) 0 (omega (arith, twelve_pairs))
      ∙ ap (λ (p : ℕ × ℕ). bit_xor p.0 p.1) (pair_at i (0, 0) l)

  numbered : List (ℕ × ℕ)
  numbered = enumerate_from 0 words_apart

  twelve_numbered : length numbered ≡ 12
  unfolding numbered
  twelve_numbered = length-enumerate_from 0 words_apart ∙ twelve_words

  numbered_at : (i : ℕ) → i < 12 → get_or numbered i (0, 0) ≡ (i, apart s t i)
  unfolding numbered
  numbered_at i l =
      get_or-enumerate_from 0 words_apart i (0, 0) (omega (arith, twelve_words)) ∙ ap₂ (λ (j w : ℕ). (j, w)) (omega arith) (word_at i l)

  -- the first word that is not 0, with its index, has the smallest code that differs
  pub lowest_found : (r : Option (ℕ × ℕ))
      → MatchOption r (AllWithin (λ p. p.1 ≡ 0) (enumerate_from 0 words_apart) 0 (length (enumerate_from 0 words_apart)))
      (λ p. (p.1 ≢ 0) × (i : ℕ) × (i < length (enumerate_from 0 words_apart)) × HoldsAt (λ q. q ≡ p) (enumerate_from 0 words_apart) i × AllWithin (λ q. q.1 ≡ 0) (enumerate_from 0 words_apart) 0 i)
      → Lowest r (first_apart s t)
  unfolding numbered
  lowest_found None h = first_apart_nowhere (λ j l. sym (ap (λ (p : ℕ × ℕ). p.1) (numbered_at j l)) ∙ h j (0, 0) (omega arith) (omega (arith, twelve_numbered)))
  lowest_found (Some p) (ne, i, l, here, before) =
      let u : i < 12 = omega (arith, twelve_numbered) in
      let same : (i, apart s t i) ≡ p = sym (numbered_at i u) ∙ here (0, 0) in
      let other : apart s t i ≢ 0 = λ z. ne (ap (λ (q : ℕ × ℕ). q.1) (sym same) ∙ z) in
      subst (λ (q : ℕ × ℕ). (q.0 < 12) × (first_apart s t ≡ Some (q.0 * 64 + count_trailing_zeros 64 q.1))) same
      (u, first_apart_in i u (λ j m. sym (ap (λ (q : ℕ × ℕ). q.1) (numbered_at j (omega arith))) ∙ before j (0, 0) (omega arith) m) other)

  -- the words' counts of ones are together the count of the codes
  pub count_summed : sum_by (λ p. ones (bit_xor p.0 p.1)) word_pairs ≡ count_apart s t
  unfolding counted
  count_summed =
      let all : 64 * length word_pairs ≡ suc 767 = omega (arith, twelve_pairs) in
      counted_blocks (λ p. ones (bit_xor p.0 p.1)) (differs s t) word_pairs 0 (λ i d l.
      let u : i < 12 = omega (arith, twelve_pairs) in
      ap (λ (p : ℕ × ℕ). ones (bit_xor p.0 p.1)) (pair_at i d u)
      ∙ ones_counted 64 (apart s t i) (apart_lt i u)
      ∙ counted_shift (bit (apart s t i)) (differs s t) 0 (0 + 64 * i) 64 (λ k h.
      let at_start : 0 + k ≡ k = omega arith in
      let n : i * 64 + k ≡ 0 + 64 * i + k = omega arith in
      ap (bit (apart s t i)) at_start ∙ sym (bit_apart i k h) ∙ ap (differs s t) n))
      ∙ ap (counted (differs s t) 0) all ∙ zero-add _

  pub count_small : sum_by (λ p. ones (bit_xor p.0 p.1)) word_pairs < 2 ^ 32
  count_small = omega (arith, count_summed, count_apart_le s t)
