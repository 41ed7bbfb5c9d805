-- Laws of the set of the keys that are held.
use Rattle.std.specs.Prelude.{◌≡◌, ℕ, suc, ◌+◌, ◌*◌, ◌/◌, ◌%◌, ◌<◌, ◌≤◌, Bool, true, false, cond, not, ◌&&◌, List, [], ◌∷◌, ◌++◌, length, replicate, is_some, Some, None, Option, ◌==◌, ◌≢◌, slice_index, refl}
use Rattle.std.proofs.Common.{sym, ap, ap₂, ◌∙◌, subst, ⊎_elim, arith}
use mathlib.Core.HLevel.{is_prop→PathP}
use denote.Struct.Props.{props}
use Rattle.std.proofs.lemmas.List.{ext_get_or, get_or-replicate, get_or_past}
use Rattle.std.proofs.lemmas.Bool.{cases_Bool, cases_eq, cases_lt, cond-true, cond-false, eqb-true, leb-true, le-leb, eq-eqb, ne_eqb, and_parts, and_from, and_left, and_right, true≢false, both_ways, not-true}
use Rattle.std.specs.Option.{option_to_list}
use Rattle.std.specs.List.{All, Contains}
use Rattle.std.proofs.lemmas.List.Elements.{All-contains}
use Rattle.codes.specs.Bit.{bit, unlike}
use Rattle.codes.specs.Search.{counted}
use Rattle.codes.proofs.BitLaws.{bit_zero, same_bits, alike, unlike_self, unlike_comm, unlike_false, unlike_turned}
use Rattle.codes.proofs.SearchLaws.{smallest_some, smallest_none, smallest_same, false_from_none, counted_le, counted_same, counted_less, ascending_some, ascending_none, none_from_ascending, length_ascending, all_ascending, has_ascending}
use Rattle.keys.specs.declared.set.Keys.{Keys}
use Rattle.keys.specs.Words.{Keyset, has, is_code, flipped, has_flipped}
use Rattle.keys.specs.KeySet.{held, no_keys, turned, with_key, without, held_codes, first_held, is_empty, differs, first_apart, count_apart}

-- ---- a set is what it holds

keyset_prop : (ws : List ℕ) → IsProp (Keyset ws)
keyset_prop ws = hlevel props

-- a set is its words
pub same_words : (s t : Keys) → s.words ≡ t.words → s ≡ t
same_words s t p = λ i. record { words = p i; ok = is_prop→PathP (λ j. Keyset (p j)) (λ j. keyset_prop (p j)) s.ok t.ok i }

pub code_parts : (c : ℕ) → is_code c ≡ true → (1 ≤ c) × (c < 768)
code_parts c y = let r = and_parts _ _ y in (leb-true _ _ r.0, omega (arith, leb-true c 767 r.1))

pub code_from : (c : ℕ) → 1 ≤ c → c < 768 → is_code c ≡ true
code_from c l u = and_from _ _ (le-leb 1 c l) (le-leb c 767 (omega arith))

-- no bit is set that is not a key's
pub held_has : (s : Keys) (c : ℕ) → held s c ≡ has s.words c
held_has s c = ⊎_elim (λ y. ap (λ (b : Bool). b && has s.words c) y) (λ n. and_left _ _ n ∙ sym (clear n)) (cases_Bool (is_code c))
  where
    clear : is_code c ≡ false → has s.words c ≡ false
    clear n = ⊎_elim
        (λ z. ap (has s.words) z ∙ s.ok.2)
        (λ nz. let past : 768 ≤ c = ⊎_elim (λ l. absurd (both_ways _ n (code_from c (omega arith) l))) (λ p. p) (cases_lt c 768) in
        ap (λ (w : ℕ). bit w (c % 64)) (get_or_past s.words (c / 64) 0 (omega (arith, s.ok.0))) ∙ bit_zero (c % 64))
        (cases_eq c 0)

-- two sets that hold the same codes are equal
pub same_held : (s t : Keys) → ((c : ℕ) → 1 ≤ c → c < 768 → held s c ≡ held t c) → s ≡ t
same_held s t f =
    let all : (c : ℕ) → c < 768 → has s.words c ≡ has t.words c = λ c u. ⊎_elim
    (λ e. ap (has s.words) e ∙ s.ok.2 ∙ sym t.ok.2 ∙ ap (has t.words) (sym e))
    (λ ne. sym (held_has s c) ∙ f c (omega arith) u ∙ held_has t c) (cases_eq c 0) in
    let ls : length s.words ≡ 12 = s.ok.0 in
    let lt : length t.words ≡ 12 = t.ok.0 in
    same_words s t (ext_get_or 0 s.words t.words (ls ∙ sym lt) (λ i h.
    let l : i < 12 = omega arith in
    same_bits 64 _ _ (s.ok.1 i l) (t.ok.1 i l) (λ k g.
    let q : (i * 64 + k) / 64 ≡ i = omega arith in
    let r : (i * 64 + k) % 64 ≡ k = omega arith in
    ap₂ (λ (x y : ℕ). bit (slice_index s.words x) y) (sym q) (sym r) ∙ all (i * 64 + k) (omega arith) ∙ ap₂ (λ (x y : ℕ). bit (slice_index t.words x) y) q r)))

pub none_held : (k : ℕ) → held no_keys k ≡ false
none_held k = held_has no_keys k ∙ ⊎_elim
    (λ l. ap (λ (w : ℕ). bit w (k % 64)) (get_or-replicate 12 (k / 64) 0 0 l) ∙ bit_zero (k % 64))
    (λ p. ap (λ (w : ℕ). bit w (k % 64)) (get_or_past (replicate 12 0) (k / 64) 0 p) ∙ bit_zero (k % 64))
    (cases_lt (k / 64) 12)

-- only codes from 1 to 767 are held
pub held_code : (s : Keys) (k : ℕ) → held s k ≡ true → (1 ≤ k) × (k < 768)
held_code s k h = code_parts k (and_parts _ _ h).0

-- ---- one key

-- the key is turned over, and the others are as they were
pub held_turned : (s : Keys) (c k : ℕ) → held (turned s c) k ≡ unlike (held s k) (is_code c && c == k)
held_turned s c k = ⊎_elim
    (λ y. let r = code_parts c y in
    held_has (turned s c) k
    ∙ ap (λ (ws : List ℕ). has ws k) (cond-true (is_code c) (flipped s.words c) s.words y)
    ∙ has_flipped s.words c k (omega (arith, s.ok.0))
    ∙ ap₂ (λ (a b : Bool). unlike a (b && c == k)) (sym (held_has s k)) (sym y))
    (λ n. ap (λ (ws : List ℕ). is_code k && has ws k) (cond-false (is_code c) (flipped s.words c) s.words n)
    ∙ sym (unlike_false (held s k))
    ∙ ap (λ (b : Bool). unlike (held s k) (b && c == k)) (sym n))
    (cases_Bool (is_code c))

-- the key is held or not, as given, and the others are as they were
pub held_with_key : (s : Keys) (c : ℕ) (down : Bool) (k : ℕ) → held (with_key s c down) k ≡ cond (is_code c && c == k) down (held s k)
held_with_key s c down k = ⊎_elim
    (λ u. ap (λ (t : Keys). held t k) (cond-true _ (turned s c) s u) ∙ held_turned s c k ∙ ⊎_elim
    (λ e. ap₂ (λ (j : ℕ) (b : Bool). unlike (held s j) b) (sym (same e)) e ∙ unlike_turned (held s c) down u ∙ sym (cond-true _ down (held s k) e))
    (λ n. ap (unlike (held s k)) n ∙ unlike_false (held s k) ∙ sym (cond-false _ down (held s k) n))
    (cases_Bool (is_code c && c == k)))
    (λ u. ap (λ (t : Keys). held t k) (cond-false _ (turned s c) s u) ∙ ⊎_elim
    (λ e. ap (held s) (sym (same e)) ∙ alike _ _ u ∙ sym (cond-true _ down (held s k) e))
    (λ n. sym (cond-false _ down (held s k) n))
    (cases_Bool (is_code c && c == k)))
    (cases_Bool (unlike (held s c) down))
  where
    same : (is_code c && c == k) ≡ true → c ≡ k
    same e = eqb-true c k (and_parts (is_code c) (c == k) e).1

pub held_own : (s : Keys) (c : ℕ) (down : Bool) → 1 ≤ c → c < 768 → held (with_key s c down) c ≡ down
held_own s c down l u = held_with_key s c down c ∙ cond-true _ _ _ (and_from _ _ (code_from c l u) (eq-eqb c c refl))

pub held_other : (s : Keys) (c : ℕ) (down : Bool) (k : ℕ) → (c ≢ k) → held (with_key s c down) k ≡ held s k
held_other s c down k n = held_with_key s c down k ∙ cond-false _ _ _ (and_right _ _ (ne_eqb c k n))

-- what a key already is leaves the set
pub with_key_stays : (s : Keys) (c : ℕ) (down : Bool) → held s c ≡ down → with_key s c down ≡ s
with_key_stays s c down e = cond-false _ _ _ (ap (unlike (held s c)) (sym e) ∙ unlike_self (held s c))

-- a code that no key has leaves the set
pub with_key_outside : (s : Keys) (c : ℕ) (down : Bool) → is_code c ≡ false → with_key s c down ≡ s
with_key_outside s c down n = same_held _ _ (λ k l u. held_with_key s c down k ∙ cond-false _ _ _ (and_left _ _ n))

-- any other change changes the set
pub with_key_moves : (s : Keys) (c : ℕ) (down : Bool) → 1 ≤ c → c < 768 → (held s c ≢ down) → with_key s c down ≢ s
with_key_moves s c down l u n e = n (ap (λ (t : Keys). held t c) (sym e) ∙ held_own s c down l u)

-- ---- the codes that are held

pub first_some : (s : Keys) (k : ℕ) → first_held s ≡ Some k → (1 ≤ k) × (k < 768) × (held s k ≡ true) × ((j : ℕ) → j < k → held s j ≡ false)
first_some s k e =
    let r = smallest_some (held s) 1 767 k e in
    (r.0, omega arith, r.2, λ j h. ⊎_elim (λ z. ap (held s) z) (λ n. r.3 j (omega arith) h) (cases_eq j 0))

pub none_from_first : (s : Keys) → first_held s ≡ None → s ≡ no_keys
none_from_first s e = same_held s no_keys (λ c l u. false_from_none (held s) 1 767 e c l (omega arith) ∙ sym (none_held c))

pub first_none : first_held no_keys ≡ None
first_none = smallest_none (held no_keys) 1 767 (λ j l u. none_held j)

pub none_from_empty : (s : Keys) → is_empty s ≡ true → s ≡ no_keys
none_from_empty s e = none_from_first s (missing (first_held s) (not-true _ e))
  where
    missing : (o : Option ℕ) → is_some o ≡ false → o ≡ None
    missing None f = refl
    missing (Some x) f = absurd (true≢false f)

pub empty_none : is_empty no_keys ≡ true
empty_none = ap (λ (o : Option ℕ). not (is_some o)) first_none

-- where there is no first, there is no code at all
pub codes_from_first : (s : Keys) → first_held s ≡ None → held_codes s ≡ []
codes_from_first s e = ascending_none (held s) 1 767 e

pub codes_none : held_codes no_keys ≡ []
codes_none = codes_from_first no_keys first_none

pub none_from_codes : (s : Keys) → held_codes s ≡ [] → s ≡ no_keys
none_from_codes s e = none_from_first s (none_from_ascending (held s) 1 767 e)

-- the smallest code comes first, and then those of the set without it
pub codes_first : (s : Keys) (k : ℕ) → first_held s ≡ Some k → held_codes s ≡ k ∷ held_codes (with_key s k false)
codes_first s k e =
    let r = first_some s k e in
    ascending_some (held s) (held (with_key s k false)) 1 767 k e (held_own s k false r.0 r.1) (λ j n. sym (held_other s k false j (λ q. n (sym q))))

pub codes_split : (s : Keys) (r : Option ℕ) → r ≡ first_held s → held_codes s ≡ option_to_list r ++ held_codes (without s r)
codes_split s None e = codes_from_first s (sym e) ∙ sym (codes_from_first s (sym e))
codes_split s (Some k) e = codes_first s k (sym e)

-- a code that is held
abbrev pub IsHeld : Keys → ℕ → Type 0
IsHeld s k = (held s k ≡ true) × (1 ≤ k) × (k < 768)

pub all_codes : (s : Keys) → All (IsHeld s) (held_codes s)
all_codes s = all_ascending (held s) 1 767

pub has_codes : (s : Keys) (k : ℕ) → held s k ≡ true → Contains (held_codes s) k
has_codes s k h = let r = held_code s k h in has_ascending (held s) 1 767 k r.0 r.1 h

-- two sets whose codes are the same are equal
pub same_from_codes : (s t : Keys) → held_codes s ≡ held_codes t → s ≡ t
same_from_codes s t e = same_held s t (λ c l u. let there = over s t e c in let back = over t s (sym e) c in grind arith)
  where
    over : (s t : Keys) → held_codes s ≡ held_codes t → (c : ℕ) → held s c ≡ true → held t c ≡ true
    over s t e c h = (All-contains (IsHeld t) (held_codes t) c (all_codes t) (subst (λ (cs : List ℕ). Contains cs c) e (has_codes s c h))).0

pub length_codes : (s : Keys) → length (held_codes s) ≡ counted (held s) 1 767
length_codes s = length_ascending (held s) 1 767

-- ---- two sets

pub differs_self : (s : Keys) (c : ℕ) → differs s s c ≡ false
differs_self s c = unlike_self (held s c)

pub differs_comm : (s t : Keys) (c : ℕ) → differs s t c ≡ differs t s c
differs_comm s t c = unlike_comm (held s c) (held t c)

pub differs_none : (s : Keys) (c : ℕ) → differs s no_keys c ≡ held s c
differs_none s c = ap (unlike (held s c)) (none_held c) ∙ unlike_false (held s c)

pub first_apart_some : (s t : Keys) (c : ℕ) → first_apart s t ≡ Some c → (1 ≤ c) × (c < 768) × (differs s t c ≡ true)
first_apart_some s t c e = let r = smallest_some (differs s t) 1 767 c e in (r.0, omega arith, r.2)

-- sets that differ nowhere are equal
pub same_from_first : (s t : Keys) → first_apart s t ≡ None → s ≡ t
same_from_first s t e = same_held s t (λ c l u. alike _ _ (false_from_none (differs s t) 1 767 e c l (omega arith)))

pub first_apart_self : (s : Keys) → first_apart s s ≡ None
first_apart_self s = smallest_none (differs s s) 1 767 (λ j l u. differs_self s j)

pub first_apart_none : (s : Keys) → first_apart s no_keys ≡ first_held s
first_apart_none s = smallest_same (differs s no_keys) (held s) 1 767 (λ j l u. differs_none s j)

pub count_apart_le : (s t : Keys) → count_apart s t ≤ 767
count_apart_le s t = counted_le (differs s t) 1 767

pub count_apart_comm : (s t : Keys) → count_apart s t ≡ count_apart t s
count_apart_comm s t = counted_same (differs s t) (differs t s) 1 767 (λ j l u. differs_comm s t j)

pub count_apart_none : (s : Keys) → count_apart s no_keys ≡ length (held_codes s)
count_apart_none s = counted_same (differs s no_keys) (held s) 1 767 (λ j l u. differs_none s j) ∙ sym (length_codes s)

-- a key that is set as in t brings the set one nearer to t
pub count_apart_nearer : (s t : Keys) (c : ℕ) → 1 ≤ c → c < 768 → differs s t c ≡ true → suc (count_apart (with_key s c (held t c)) t) ≡ count_apart s t
count_apart_nearer s t c l u d = counted_less (differs s t) (differs (with_key s c (held t c)) t) 1 767 c l u d
    (ap (λ (b : Bool). unlike b (held t c)) (held_own s c (held t c) l u) ∙ unlike_self (held t c))
    (λ j n. ap (λ (b : Bool). unlike b (held t j)) (sym (held_other s c (held t c) j (λ q. n (sym q)))))
