-- Laws of cutting a recording: one record after another, and that the cut finds what the bytes are made of.
use Rattle.std.proofs.Common.{◌≡◌, ℕ, zero, suc, ◌+◌, ◌/◌, ◌%◌, ◌<◌, ◌≤◌, leb, List, [], ◌∷◌, ◌++◌, length, take, drop, Some, None, Option, sym, refl, ap, ◌∙◌, subst, ap₂, ⊎_elim, arith, length-append, length-drop, length-take}
use Rattle.std.specs.List.{AllByRecursion as Each}
use Rattle.std.proofs.lemmas.List.{take-append-drop, drop_at, take_at, drop-drop, length-take-le}
use Rattle.std.proofs.lemmas.Option.{none-some, cond_some}
use Rattle.std.proofs.ByRecursion.{All-drop}
use Rattle.std.proofs.lemmas.Bool.{cases_Bool, cond-true, cond-false, leb-true, le-leb, and_parts, and_from}
use Rattle.recording.specs.Frames.{framed, laid, Recording, word, fits, first_length, with_first, given, cut, records_of, CutsRight}

-- ---- one record

pub cut_end : (n : ℕ) (bs : List ℕ) → length bs ≤ 0 → cut n bs ≡ Some []
unfolding cut
cut_end n [] h = refl
cut_end n (b ∷ bs) h = absurd (omega arith)

pub cut_full : (bs : List ℕ) → 0 < length bs → cut 0 bs ≡ None
unfolding cut
cut_full [] h = absurd (omega arith)
cut_full (b ∷ bs) h = refl

pub cut_broken : (n : ℕ) (bs : List ℕ) → 0 < length bs → first_length bs ≡ None → cut n bs ≡ None
unfolding cut
cut_broken n [] h e = absurd (omega arith)
cut_broken zero (b ∷ bs) h e = refl
cut_broken (suc n) (b ∷ bs) h e = ap (λ o. given o (λ k. with_first (take k (drop 2 (b ∷ bs))) (cut n (drop (2 + k) (b ∷ bs))))) e

pub cut_more : (n : ℕ) (bs : List ℕ) (k : ℕ) → first_length bs ≡ Some k → cut (suc n) bs ≡ with_first (take k (drop 2 bs)) (cut n (drop (2 + k) bs))
unfolding cut
cut_more n [] k e = absurd (none-some k e)
cut_more n (b ∷ bs) k e = ap (λ o. given o (λ k. with_first (take k (drop 2 (b ∷ bs))) (cut n (drop (2 + k) (b ∷ bs))))) e

-- the length is what the first two bytes write, and it fits
first_word : (a b : ℕ) (body : List ℕ) (k : ℕ) → first_length (a ∷ b ∷ body) ≡ Some k → (word a b ≡ k) × (1 ≤ k) × (k ≤ length body)
first_word a b body k e =
    let w = cond_some (fits (word a b) body) (word a b) k e in
    let is = w.1 in
    let parts = and_parts (leb 1 (word a b)) (leb (word a b) (length body)) w.0 in
    (is, omega (arith, leb-true 1 (word a b) parts.0), omega (arith, leb-true (word a b) (length body) parts.1))

-- the first record lies within the bytes
pub first_fits : (bs : List ℕ) (k : ℕ) → first_length bs ≡ Some k → (1 ≤ k) × (2 + k ≤ length bs)
first_fits [] k e = absurd (none-some k e)
first_fits (a ∷ []) k e = absurd (none-some k e)
first_fits (a ∷ b ∷ body) k e = let w = first_word a b body k e in (w.1, omega (arith, w.2))

-- ---- the cut finds what the bytes are made of

head_length : (r more : List ℕ) → 1 ≤ length r → first_length (framed r ++ more) ≡ Some (length r)
head_length r more h =
    let w : word (length r % 256) (length r / 256) ≡ length r = omega arith in
    let v = word (length r % 256) (length r / 256) in
    cond-true (fits v (r ++ more)) _ _ (and_from (leb 1 v) (leb v (length (r ++ more))) (le-leb 1 v (omega arith)) (le-leb v (length (r ++ more)) (omega (arith, length-append r more))))
    ∙ ap Some w

found : (rs : List (List ℕ)) (n : ℕ) → length rs ≤ n → Each (λ r. 1 ≤ length r) rs → cut n (laid rs) ≡ Some rs
found [] n h a = cut_end n [] (omega arith)
found (r ∷ rs) zero h a = absurd (omega arith)
found (r ∷ rs) (suc n) h a =
    cut_more n (framed r ++ laid rs) (length r) (head_length r (laid rs) a.0)
    ∙ ap₂ with_first (take_at r (laid rs) (length r) refl) (ap (cut n) (drop_at (framed r) (laid rs) (2 + length r) (omega arith)) ∙ found rs n (omega arith) a.1)

-- the first record and the rest put together again
rejoined : (bs : List ℕ) (k : ℕ) → Each (λ b. b < 256) bs → first_length bs ≡ Some k → bs ≡ framed (take k (drop 2 bs)) ++ drop (2 + k) bs
rejoined [] k a e = absurd (none-some k e)
rejoined (x ∷ []) k a e = absurd (none-some k e)
rejoined (x ∷ y ∷ body) k a e =
    let w = first_word x y body k e in
    let is = w.0 in
    let m : length (take k body) ≡ k = length-take-le k body w.2 in
    let low : x ≡ length (take k body) % 256 = omega (arith, a.0) in
    let high : y ≡ length (take k body) / 256 = omega (arith, a.0) in
    let d : drop (2 + k) (x ∷ y ∷ body) ≡ drop k body = sym (drop-drop k 2 (x ∷ y ∷ body)) in
    ap₂ (λ (p q : ℕ). p ∷ (q ∷ body)) low high
    ∙ ap (λ (xs : List ℕ). length (take k body) % 256 ∷ (length (take k body) / 256 ∷ xs)) (sym (take-append-drop k body) ∙ ap (λ (xs : List ℕ). take k body ++ xs) (sym d))

record Made (n : ℕ) (bs : List ℕ) (rs : List (List ℕ)) : Type 0 where
  pub whole : bs ≡ laid rs
  pub some : Each (λ r. 1 ≤ length r) rs
  pub few : length rs ≤ n

pub split_first : {A : Type 0} (x : A) (o : Option (List A)) (ys : List A) → with_first x o ≡ Some ys → (xs : List A) × (o ≡ Some xs) × (ys ≡ x ∷ xs)
split_first x None ys e = absurd (none-some ys e)
split_first x (Some xs) ys e = (xs, refl, cc)

made : (n : ℕ) (bs : List ℕ) (rs : List (List ℕ)) → Each (λ b. b < 256) bs → cut n bs ≡ Some rs → Made n bs rs
made n [] rs a e =
    let s : ◌≡◌ {A = Option (List (List ℕ))} (Some []) (Some rs) = sym (cut_end n [] (omega arith)) ∙ e in
    let z : [] ≡ rs = cc in
    subst (λ (xs : List (List ℕ)). Made n [] xs) z (record { whole = refl; some = tt; few = omega arith })
made zero (b ∷ bs) rs a e = absurd (none-some rs (sym (cut_full (b ∷ bs) (omega arith)) ∙ e))
made (suc n) (b ∷ bs) rs a e = by (λ xs ys c f. made n xs ys c f) (first_length (b ∷ bs)) refl
  where
    by : ((xs : List ℕ) (ys : List (List ℕ)) → Each (λ x. x < 256) xs → cut n xs ≡ Some ys → Made n xs ys) → (o : Option ℕ) → first_length (b ∷ bs) ≡ o → Made (suc n) (b ∷ bs) rs
    by again None h = absurd (none-some rs (sym (cut_broken (suc n) (b ∷ bs) (omega arith) h) ∙ e))
    by again (Some k) h =
        let s = split_first (take k (drop 2 (b ∷ bs))) (cut n (drop (2 + k) (b ∷ bs))) rs (sym (cut_more n (b ∷ bs) k h) ∙ e) in
        let f = first_fits (b ∷ bs) k h in
        let rest = again (drop (2 + k) (b ∷ bs)) s.0 (All-drop (λ x. x < 256) (2 + k) (b ∷ bs) a) s.1 in
        let long : 1 ≤ length (take k (drop 2 (b ∷ bs))) = omega (arith, length-take k (drop 2 (b ∷ bs)), length-drop 2 (b ∷ bs)) in
        let fewer = rest.few in
        subst (λ (xs : List (List ℕ)). Made (suc n) (b ∷ bs) xs) (sym s.2)
        (record {
          whole = rejoined (b ∷ bs) k a h ∙ ap (λ (xs : List ℕ). framed (take k (drop 2 (b ∷ bs))) ++ xs) rest.whole;
          some = (long, rest.some);
          few = omega arith;
        })

-- a recording that is short enough is cut
pub records_here : (bs : List ℕ) → length bs ≤ 65536 → records_of bs ≡ cut 1000 bs
records_here bs h = cond-true (leb (length bs) 65536) (cut 1000 bs) None (le-leb (length bs) 65536 h)

-- where there are records, the recording is short enough
pub records_short : (bs : List ℕ) (rs : List (List ℕ)) → records_of bs ≡ Some rs → length bs ≤ 65536
records_short bs rs e = ⊎_elim (leb-true (length bs) 65536) (λ o. absurd (none-some rs (sym (cond-false (leb (length bs) 65536) (cut 1000 bs) None o) ∙ e))) (cases_Bool (leb (length bs) 65536))

pub cuts_right : CutsRight
unfolding CutsRight
cuts_right bs a rs = (there, back)
  where
    there : records_of bs ≡ Some rs → Recording bs rs
    there e =
        let short = records_short bs rs e in
        let m = made 1000 bs rs a (sym (records_here bs short) ∙ e) in
        record { whole = m.whole; some = m.some; short = short; few = m.few }

    back : Recording bs rs → records_of bs ≡ Some rs
    back r = records_here bs r.short ∙ ap (cut 1000) r.whole ∙ found rs 1000 r.few r.some
