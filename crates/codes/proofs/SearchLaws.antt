-- Laws of `smallest`, `counted` and `ascending`.
use Rattle.std.proofs.Common.{◌≡◌, ◌≢◌, ℕ, zero, suc, ◌+◌, ◌<◌, ◌≤◌, Bool, true, false, cond, List, [], ◌∷◌, length, get_or, Some, None, Option, MatchOption, sym, refl, ap, ◌∙◌, ap₂, ⊎_elim, arith}
use Rattle.std.proofs.lemmas.Bool.{cases_Bool, cases_eq, cond-true, cond-false, cond_both, true≢false}
use Rattle.std.specs.List.{All, Contains, filter, range_with_len}
use Rattle.std.proofs.lemmas.List.Elements.{All-same, All-filter, filter_passes}
use Rattle.std.proofs.lemmas.List.FromFn.{length-range_with_len, get_or-range_with_len}
use Rattle.codes.specs.Search.{smallest, counted, ascending}

-- ---- the smallest

pub smallest_is : (p : ℕ → Bool) (c n k : ℕ) → c ≤ k → k < c + n → p k ≡ true → ((j : ℕ) → c ≤ j → j < k → p j ≡ false) → smallest p c n ≡ Some k
unfolding smallest
smallest_is p c zero k l u y f = absurd (omega arith)
smallest_is p c (suc n) k l u y f = ⊎_elim
    (λ e. cond-true (p c) _ _ (ap p e ∙ y) ∙ ap Some e)
    (λ ne. let lt : c < k = omega arith in
    cond-false (p c) _ _ (f c (omega arith) lt) ∙ smallest_is p (suc c) n k lt (omega arith) y (λ j g h. f j (omega arith) h))
    (cases_eq c k)

pub smallest_none : (p : ℕ → Bool) (c n : ℕ) → ((j : ℕ) → c ≤ j → j < c + n → p j ≡ false) → smallest p c n ≡ None
unfolding smallest
smallest_none p c zero f = refl
smallest_none p c (suc n) f =
    cond-false (p c) _ _ (f c (omega arith) (omega arith)) ∙ smallest_none p (suc c) n (λ j g h. f j (omega arith) (omega arith))

pub smallest_some : (p : ℕ → Bool) (c n k : ℕ) → smallest p c n ≡ Some k → (c ≤ k) × (k < c + n) × (p k ≡ true) × ((j : ℕ) → c ≤ j → j < k → p j ≡ false)
unfolding smallest
smallest_some p c zero k e = absurd cc
smallest_some p c (suc n) k e = ⊎_elim
    (λ y. let same : c ≡ k = cc (cond-true (p c) (Some c) (smallest p (suc c) n) y) in
    (omega arith, omega arith, ap p (sym same) ∙ y, λ j g h. absurd (omega arith)))
    (λ no. let r = smallest_some p (suc c) n k (sym (cond-false (p c) (Some c) (smallest p (suc c) n) no) ∙ e) in
    (omega arith, omega arith, r.2, λ j g h. ⊎_elim (λ q. ap p (sym q) ∙ no) (λ q. r.3 j (omega arith) h) (cases_eq c j)))
    (cases_Bool (p c))

-- where none is found, none passes
pub false_from_none : (p : ℕ → Bool) (c n : ℕ) → smallest p c n ≡ None → (j : ℕ) → c ≤ j → j < c + n → p j ≡ false
unfolding smallest
false_from_none p c zero e j l u = absurd (omega arith)
false_from_none p c (suc n) e j l u = ⊎_elim
    (λ y. absurd (cc (cond-true (p c) (Some c) (smallest p (suc c) n) y)))
    (λ no. ⊎_elim (λ q. ap p (sym q) ∙ no)
    (λ q. false_from_none p (suc c) n (sym (cond-false (p c) (Some c) (smallest p (suc c) n) no) ∙ e) j (omega arith) (omega arith))
    (cases_eq c j))
    (cases_Bool (p c))

-- tests that agree on the numbers find the same
pub smallest_same : (p q : ℕ → Bool) (c n : ℕ) → ((j : ℕ) → c ≤ j → j < c + n → p j ≡ q j) → smallest p c n ≡ smallest q c n
unfolding smallest
smallest_same p q c zero f = refl
smallest_same p q c (suc n) f =
    ap₂ (λ (b : Bool) (o : Option ℕ). cond b (Some c) o) (f c (omega arith) (omega arith)) (smallest_same p q (suc c) n (λ j g h. f j (omega arith) (omega arith)))

-- the number that a search upwards finds
pub smallest_found : (p : ℕ → Bool) (c n : ℕ) (r : Option ℕ)
    → MatchOption r ((k : ℕ) → c ≤ k → k < c + n → p k ≡ false) (λ i. (c ≤ i) × (i < c + n) × (p i ≡ true) × ((k : ℕ) → c ≤ k → k < i → p k ≡ false))
    → r ≡ smallest p c n
smallest_found p c n None f = sym (smallest_none p c n f)
smallest_found p c n (Some i) (l, u, y, f) = sym (smallest_is p c n i l u y f)

-- ---- how many

pub counted_le : (p : ℕ → Bool) (c n : ℕ) → counted p c n ≤ n
unfolding counted
counted_le p c zero = omega arith
counted_le p c (suc n) = ⊎_elim
    (λ y. omega (arith, cond-true {A = ℕ} (p c) 1 0 y, counted_le p (suc c) n))
    (λ o. omega (arith, cond-false {A = ℕ} (p c) 1 0 o, counted_le p (suc c) n))
    (cases_Bool (p c))

pub counted_zero : (p : ℕ → Bool) (c n : ℕ) → ((j : ℕ) → c ≤ j → j < c + n → p j ≡ false) → counted p c n ≡ 0
unfolding counted
counted_zero p c zero f = refl
counted_zero p c (suc n) f =
    omega (arith, cond-false {A = ℕ} (p c) 1 0 (f c (omega arith) (omega arith)), counted_zero p (suc c) n (λ j g h. f j (omega arith) (omega arith)))

-- where none is counted, none passes
pub false_from_zero : (p : ℕ → Bool) (c n : ℕ) → counted p c n ≡ 0 → (j : ℕ) → c ≤ j → j < c + n → p j ≡ false
unfolding counted
false_from_zero p c zero e j l u = absurd (omega arith)
false_from_zero p c (suc n) e j l u = ⊎_elim
    (λ y. absurd (omega (arith, cond-true {A = ℕ} (p c) 1 0 y)))
    (λ no. ⊎_elim (λ q. ap p (sym q) ∙ no) (λ q. false_from_zero p (suc c) n (omega arith) j (omega arith) (omega arith)) (cases_eq c j))
    (cases_Bool (p c))

pub counted_none : (p : ℕ → Bool) (c n : ℕ) → smallest p c n ≡ None → counted p c n ≡ 0
counted_none p c n e = counted_zero p c n (false_from_none p c n e)

pub counted_same : (p q : ℕ → Bool) (c n : ℕ) → ((j : ℕ) → c ≤ j → j < c + n → p j ≡ q j) → counted p c n ≡ counted q c n
unfolding counted
counted_same p q c zero f = refl
counted_same p q c (suc n) f =
    ap₂ (λ (b : Bool) (x : ℕ). cond b 1 0 + x) (f c (omega arith) (omega arith)) (counted_same p q (suc c) n (λ j g h. f j (omega arith) (omega arith)))

-- one that no longer passes makes one less
pub counted_less : (p q : ℕ → Bool) (c n k : ℕ) → c ≤ k → k < c + n → p k ≡ true → q k ≡ false → ((j : ℕ) → (j ≡ k → ⊥) → p j ≡ q j) → suc (counted q c n) ≡ counted p c n
unfolding counted
counted_less p q c zero k l u y off f = absurd (omega arith)
counted_less p q c (suc n) k l u y off f = ⊎_elim
    (λ e. let rest = counted_same p q (suc c) n (λ j g h. f j (λ i. omega arith)) in
    omega (arith, cond-true {A = ℕ} (p c) 1 0 (ap p e ∙ y), cond-false {A = ℕ} (q c) 1 0 (ap q e ∙ off)))
    (λ ne. let rest = counted_less p q (suc c) n k (omega arith) (omega arith) y off f in
    omega (arith, ap (λ (b : Bool). cond {A = ℕ} b 1 0) (f c ne)))
    (cases_eq c k)

pub counted_split : (p : ℕ → Bool) (c m n : ℕ) → counted p c (m + n) ≡ counted p c m + counted p (c + m) n
unfolding counted
counted_split p c zero n =
    let a : zero + n ≡ n = omega arith in
    let b : c ≡ c + zero = omega arith in
    ap (counted p c) a ∙ ap (λ (x : ℕ). counted p x n) b ∙ omega arith
counted_split p c (suc m) n =
    let a : suc m + n ≡ suc (m + n) = omega arith in
    let b : suc c + m ≡ c + suc m = omega arith in
    let r = counted_split p (suc c) m n in
    let s = ap (λ (x : ℕ). counted p x n) b in
    ap (counted p c) a ∙ omega arith

pub counted_shift : (p q : ℕ → Bool) (c d n : ℕ) → ((j : ℕ) → j < n → p (c + j) ≡ q (d + j)) → counted p c n ≡ counted q d n
unfolding counted
counted_shift p q c d zero f = refl
counted_shift p q c d (suc n) f =
    let a : c ≡ c + 0 = omega arith in
    let b : d + 0 ≡ d = omega arith in
    ap₂ (λ (x : Bool) (y : ℕ). cond x 1 0 + y) (ap p a ∙ f 0 (omega arith) ∙ ap q b)
    (counted_shift p q (suc c) (suc d) n (λ j h.
    let x : suc c + j ≡ c + suc j = omega arith in
    let y : d + suc j ≡ suc d + j = omega arith in
    ap p x ∙ f (suc j) (omega arith) ∙ ap q y))

-- items that pass, each counted at its place
pub counted_items : {X : Type 0} (test : X → Bool) (p : ℕ → Bool) (xs : List X) (c : ℕ)
    → ((i : ℕ) (d : X) → i < length xs → test (get_or xs i d) ≡ p (c + i)) → length (filter test xs) ≡ counted p c (length xs)
unfolding counted
counted_items test p [] c f = refl
counted_items test p (x ∷ xs) c f = by (test x) (p c) (f 0 x (omega arith) ∙ ap p (omega arith)) (counted_items test p xs (suc c) (λ i d l. f (suc i) d (omega arith) ∙ ap p (omega arith)))
  where
    by : (b d : Bool) → b ≡ d → length (filter test xs) ≡ counted p (suc c) (length xs) → length (cond b (x ∷ filter test xs) (filter test xs)) ≡ cond d 1 0 + counted p (suc c) (length xs)
    by true true e r = omega arith
    by false false e r = omega arith
    by true false e r = absurd (true≢false e)
    by false true e r = absurd (true≢false (sym e))

-- ---- those that pass, ascending

pub filter_range : (p : ℕ → Bool) (c n : ℕ) → filter p (range_with_len c n) ≡ ascending p c n
unfolding ascending
filter_range p c zero = refl
filter_range p c (suc n) =
    let on : c + 1 ≡ suc c = omega arith in
    ap (λ (xs : List ℕ). cond (p c) (c ∷ xs) xs) (ap (λ (d : ℕ). filter p (range_with_len d n)) on ∙ filter_range p (suc c) n)

pub ascending_same : (p q : ℕ → Bool) (c n : ℕ) → ((j : ℕ) → c ≤ j → j < c + n → p j ≡ q j) → ascending p c n ≡ ascending q c n
unfolding ascending
ascending_same p q c zero f = refl
ascending_same p q c (suc n) f =
    ap₂ (λ (b : Bool) (xs : List ℕ). cond b (c ∷ xs) xs) (f c (omega arith) (omega arith)) (ascending_same p q (suc c) n (λ j g h. f j (omega arith) (omega arith)))

pub length_ascending : (p : ℕ → Bool) (c n : ℕ) → length (ascending p c n) ≡ counted p c n
unfolding ascending counted
length_ascending p c zero = refl
length_ascending p c (suc n) = by (p c) (ascending p (suc c) n) (length_ascending p (suc c) n)
  where
    by : (b : Bool) (xs : List ℕ) → length xs ≡ counted p (suc c) n → length (cond b (c ∷ xs) xs) ≡ cond b 1 0 + counted p (suc c) n
    by true xs e = omega arith
    by false xs e = omega arith

pub ascending_none : (p : ℕ → Bool) (c n : ℕ) → smallest p c n ≡ None → ascending p c n ≡ []
ascending_none p c n e = nil (ascending p c n) (length_ascending p c n ∙ counted_none p c n e)
  where
    nil : (xs : List ℕ) → length xs ≡ 0 → xs ≡ []
    nil [] e = refl
    nil (x ∷ xs) e = absurd (omega arith)

pub none_from_ascending : (p : ℕ → Bool) (c n : ℕ) → ascending p c n ≡ [] → smallest p c n ≡ None
none_from_ascending p c n e = smallest_none p c n (false_from_zero p c n (sym (length_ascending p c n) ∙ ap length e))

-- the smallest comes first, and then those that pass a test which differs at it alone
pub ascending_some : (p q : ℕ → Bool) (c n k : ℕ) → smallest p c n ≡ Some k → q k ≡ false → ((j : ℕ) → (j ≡ k → ⊥) → p j ≡ q j) → ascending p c n ≡ k ∷ ascending q c n
unfolding ascending
ascending_some p q c n k e off f = let r = smallest_some p c n k e in from c n r.0 r.1 r.2 r.3
  where
    from : (c n : ℕ) → c ≤ k → k < c + n → p k ≡ true → ((j : ℕ) → c ≤ j → j < k → p j ≡ false) → ascending p c n ≡ k ∷ ascending q c n
    from c zero l u y g = absurd (omega arith)
    from c (suc n) l u y g = ⊎_elim
        (λ e. cond-true (p c) _ _ (ap p e ∙ y)
        ∙ ap₂ (λ (x : ℕ) (xs : List ℕ). x ∷ xs) e (ascending_same p q (suc c) n (λ j h i. f j (λ s. omega arith)) ∙ sym (cond-false (q c) _ _ (ap q e ∙ off))))
        (λ ne. let no : p c ≡ false = g c (omega arith) (omega arith) in
        cond-false (p c) _ _ no ∙ from (suc c) n (omega arith) (omega arith) y (λ j h i. g j (omega arith) i)
        ∙ ap (λ (xs : List ℕ). k ∷ xs) (sym (cond-false (q c) _ _ (sym (f c ne) ∙ no))))
        (cases_eq c k)

-- every member passes and lies in the range
pub all_ascending : (p : ℕ → Bool) (c n : ℕ) → All (λ k. (p k ≡ true) × (c ≤ k) × (k < c + n)) (ascending p c n)
all_ascending p c n = All-same (λ k. (p k ≡ true) × (c ≤ k) × (k < c + n)) (ascending p c n) (filter p (range_with_len c n)) (sym (filter_range p c n))
    (λ i d l. let within = All-filter p (λ k. (c ≤ k) × (k < c + n)) (range_with_len c n) in_range i d l in (filter_passes p (range_with_len c n) i d l, within.0, within.1))
  where
    in_range : All (λ k. (c ≤ k) × (k < c + n)) (range_with_len c n)
    in_range i d l =
        let u : i < n = omega (arith, length-range_with_len c n) in
        let e = get_or-range_with_len c n i d u in
        (omega arith, omega arith)

-- every number in the range that passes is a member
pub has_ascending : (p : ℕ → Bool) (c n k : ℕ) → c ≤ k → k < c + n → p k ≡ true → Contains (ascending p c n) k
unfolding ascending
has_ascending p c zero k l u y = absurd (omega arith)
has_ascending p c (suc n) k l u y =
    let rest : (c ≢ k) → Contains (ascending p (suc c) n) k = λ ne. has_ascending p (suc c) n k (omega arith) (omega arith) y in
    cond_both (p c) _ _ (λ xs. Contains xs k)
    (λ t. ⊎_elim (λ e. (0, omega arith, e)) (λ ne. let r = rest ne in (suc r.0, omega arith, r.2)) (cases_eq c k))
    (λ no. rest (λ e. true≢false (sym y ∙ ap p (sym e) ∙ no)))
