-- Every listed key stands once in the two tables: one test over both, which antt computes.
use Rattle.std.proofs.Common.{◌≡◌, ℕ, zero, suc, ◌+◌, ◌<◌, ◌≤◌, true, List, [], ◌∷◌, length, get_or, Some, sym, refl, ap, ◌∙◌, arith}
use Rattle.std.proofs.lemmas.List.{get_or_append_left, get_or-append-add, get_or_past}
use Rattle.std.proofs.lemmas.Bool.{and_parts}
use Rattle.std.proofs.lemmas.Bool.Decides.{nat_tests}
use Rattle.set2.specs.declared.Table.{Table}
use Rattle.set2.specs.declared.Table.TheVariants.{Plain, Extended}
use Rattle.set2.specs.Set2.{keys_of, number_of, listed, key_of, all_keys, absent, once, listed_once, KeyRange, OneCode, OneToOne}

-- the test holds
stands : listed_once ≡ true
stands = refl

-- a key that is absent from a list stands nowhere in it
nowhere : (key : ℕ) (keys : List ℕ) (at : ℕ) → absent key keys ≡ true → 1 ≤ key → get_or keys at 0 ≡ key → ⊥
nowhere key [] at t p e = omega arith
nowhere key (k ∷ ks) zero t p e = grind (arith, nat_tests)
nowhere key (k ∷ ks) (suc at) t p e = nowhere key ks at (and_parts _ _ t).1 p e

-- the first key of a list is at most 767 and absent from the rest
first : (k : ℕ) (ks : List ℕ) → once (k ∷ ks) ≡ true → 1 ≤ k → (k ≤ 767) × (absent k ks ≡ true)
first k ks t p = grind (arith, nat_tests)

-- a key of the list is at most 767
in_range : (keys : List ℕ) → once keys ≡ true → (at : ℕ) → 1 ≤ get_or keys at 0 → get_or keys at 0 ≤ 767
in_range [] t at p = omega arith
in_range (k ∷ ks) t zero p = (first k ks t p).0
in_range (k ∷ ks) t (suc at) p = in_range ks (and_parts _ _ t).1 at p

-- a key stands at one place of the list
one_place : (keys : List ℕ) → once keys ≡ true → (i j : ℕ) → 1 ≤ get_or keys i 0 → get_or keys i 0 ≡ get_or keys j 0 → i ≡ j
one_place [] t i j p e = absurd (omega arith)
one_place (k ∷ ks) t zero zero p e = refl
one_place (k ∷ ks) t zero (suc j) p e = absurd (nowhere k ks j (first k ks t p).1 p (sym e))
one_place (k ∷ ks) t (suc i) zero p e = let q : 1 ≤ k = omega arith in absurd (nowhere k ks i (first k ks t q).1 q e)
one_place (k ∷ ks) t (suc i) (suc j) p e = ap suc (one_place ks (and_parts _ _ t).1 i j p e)

-- where a scan code's number stands among all keys
place : Table → ℕ → ℕ
place Plain code = code
place Extended code = 256 + code

-- a place is that of one scan code
same_place : (table other : Table) (code at : ℕ) → code < 256 → at < 256 → place table code ≡ place other at → (table ≡ other) × (code ≡ at)
unfolding place
same_place Plain Plain code at l m e = (refl, e)
same_place Extended Extended code at l m e = (refl, omega arith)
same_place Plain Extended code at l m e = absurd (omega arith)
same_place Extended Plain code at l m e = absurd (omega arith)

-- a number other than 0 stands within its list
within : (keys : List ℕ) (code : ℕ) → 1 ≤ get_or keys code 0 → code < length keys
within keys code p = grind (arith, get_or_past keys code 0)

-- a listed scan code is below 256, and its number stands at its place
at_place : (table : Table) (code : ℕ) → 1 ≤ number_of table code → (code < 256) × (get_or all_keys (place table code) 0 ≡ number_of table code)
unfolding place
at_place Plain code p =
    let l : code < 256 = within (keys_of Plain) code p in (l, get_or_append_left (keys_of Plain) (keys_of Extended) 0 code l)
at_place Extended code p = (within (keys_of Extended) code p, get_or-append-add (keys_of Plain) (keys_of Extended) code 0)

-- a listed key is the number, and not 0
some : (number key : ℕ) → listed number ≡ Some key → (1 ≤ key) × (number ≡ key)
some number key e = grind (arith, nat_tests)

-- so does the key that it stands for
found : (table : Table) (code key : ℕ) → key_of table code ≡ Some key → (1 ≤ key) × (code < 256) × (get_or all_keys (place table code) 0 ≡ key)
unfolding key_of
found table code key e =
    let s = some (number_of table code) key e in
    let l = at_place table code (omega arith) in
    (s.0, l.0, l.1 ∙ s.1)

-- every key that a scan code stands for is 1 to 767
pub key_range : KeyRange
key_range table code key e =
    let f = found table code key e in
    let h = in_range all_keys stands (place table code) (omega arith) in
    (f.0, omega arith)

-- two scan codes that stand for the same key are the same scan code
one_code : OneCode
one_code table other code at key d e =
    let f = found table code key d in
    let g = found other at key e in
    same_place table other code at f.1 g.1
    (one_place all_keys stands (place table code) (place other at) (omega arith) (f.2 ∙ sym g.2))

-- both together
pub one_to_one : OneToOne
one_to_one = (key_range, one_code)
