-- Laws of a loop over the records of a recording.
use Rattle.std.specs.Prelude.{◌==◌}
use Rattle.std.specs.Bool.{then_some}
use Rattle.std.specs.Option.{option_map}
use Rattle.std.specs.Iterator.{AlwaysYields}
use Rattle.std.proofs.Common.{◌≡◌, ℕ, zero, suc, ◌+◌, ◌-◌, ◌<◌, ◌≤◌, Bool, true, false, List, [], ◌∷◌, length, take, drop, Option, Some, None, is_some, sym, refl, ap, ◌∙◌, arith}
use Rattle.std.proofs.lemmas.Bool.{ne_eqb}
use denote.Ref.{Bor}
use Rattle.std.proofs.lemmas.Option.{none-some}
use Rattle.recording.specs.declared.frames.Records.{Records}
use Rattle.recording.specs.Frames.{first_length, parted, first_record, cut, counted}
use Rattle.recording.specs.Iteration.{gives, GivesAll}
use Rattle.recording.proofs.Cuts.{cut_end, cut_full, cut_broken, cut_more, first_fits, split_first, records_here, records_short}
use Rattle.recording.proofs.Turns.{counted_turn}

-- ---- the first record

-- it has the first length, and what follows it begins after that
first_of : (bs r more : List ℕ) → first_record bs ≡ Some (r, more) → (k : ℕ) × (first_length bs ≡ Some k) × (r ≡ take k (drop 2 bs)) × (more ≡ drop (2 + k) bs)
first_of bs r more e = by (first_length bs) refl e
  where
    by : (o : Option ℕ) → first_length bs ≡ o → option_map (parted bs) o ≡ Some (r, more) → (k : ℕ) × (first_length bs ≡ Some k) × (r ≡ take k (drop 2 bs)) × (more ≡ drop (2 + k) bs)
    by None h e = absurd (none-some (r, more) e)
    by (Some k) h e =
        let same : ◌≡◌ {A = List ℕ × List ℕ} (r, more) (parted bs k) = cc in
        (k, h, ap (λ (p : List ℕ × List ℕ). p.0) same, ap (λ (p : List ℕ × List ℕ). p.1) same)

-- where none comes, there is no first length
none_of : (bs : List ℕ) → first_record bs ≡ None → first_length bs ≡ None
none_of bs e = by (first_length bs) refl e
  where
    by : (o : Option ℕ) → first_length bs ≡ o → option_map (parted bs) o ≡ None → first_length bs ≡ None
    by None h e = h
    by (Some k) h e = absurd (none-some (parted bs k) (sym e))

-- ---- counting

-- a record that came is the first, and what follows it is left
came : (s t : Records) (o : Option (Bor (List ℕ))) → gives s o t → is_some o ≡ true → (r : List ℕ) × (first_record s.rest.now ≡ Some (r, t.rest.now))
came s t None g i = absurd (let z : ◌≡◌ {A = ℕ} 0 1 = cc in omega arith)
came s t (Some r) g i = (r.now, g)

none_came : (s t : Records) (o : Option (Bor (List ℕ))) → gives s o t → is_some o ≡ false → (first_record s.rest.now ≡ None) × (t.rest.now ≡ s.rest.now)
none_came s t None g i = g
none_came s t (Some r) g i = absurd (let z : ◌≡◌ {A = ℕ} 0 1 = cc in omega arith)

-- the count of the records so far, with those still to come, stays
pub counted_one : (s t : Records) (o : Option (Bor (List ℕ))) (n : ℕ) → gives s o t → is_some o ≡ true → n < 1000
    → counted (n + 1) (cut (1000 - (n + 1)) t.rest.now) ≡ counted n (cut (1000 - n) s.rest.now)
counted_one s t o n g i h =
    let c = came s t o g i in
    let f = first_of s.rest.now c.0 t.rest.now c.1 in
    ap (λ (bs : List ℕ). counted (n + 1) (cut (1000 - (n + 1)) bs)) f.3 ∙ counted_turn s.rest.now n f.0 h f.1

-- no record may follow the thousandth
pub counted_full : (s t : Records) (o : Option (Bor (List ℕ))) (n : ℕ) → gives s o t → is_some o ≡ true → 1000 ≤ n → counted n (cut (1000 - n) s.rest.now) ≡ None
counted_full s t o n g i h =
    let c = came s t o g i in
    let f = first_of s.rest.now c.0 t.rest.now c.1 in
    let none : 1000 - n ≡ 0 = omega arith in
    ap (λ (m : ℕ). counted n (cut m s.rest.now)) none ∙ ap (counted n) (cut_full s.rest.now (omega (arith, first_fits s.rest.now f.0 f.1)))

-- where none comes, the recording ends there, or it is broken
end_of : (bs : List ℕ) (n : ℕ) → first_record bs ≡ None → counted n (cut (1000 - n) bs) ≡ then_some (length bs == 0) n
end_of [] n e = ap (counted n) (cut_end (1000 - n) [] (omega arith)) ∙ ap Some (omega arith)
end_of (b ∷ bs) n e =
    ap (counted n) (cut_broken (1000 - n) (b ∷ bs) (omega arith) (none_of (b ∷ bs) e))
    ∙ sym (ap (λ (x : Bool). then_some x n) (ne_eqb (length (b ∷ bs)) 0 (λ z. omega arith)))

pub counted_end : (s t : Records) (o : Option (Bor (List ℕ))) (n : ℕ) → gives s o t → is_some o ≡ false
    → counted n (cut (1000 - n) s.rest.now) ≡ then_some (length t.rest.now == 0) n
counted_end s t o n g i =
    let c = none_came s t o g i in
    end_of s.rest.now n c.0 ∙ sym (ap (λ (bs : List ℕ). then_some (length bs == 0) n) c.1)

-- ---- all the records come

-- of records still to come the first comes, and the others are left
first_comes : (n : ℕ) (s t : Records) (r : Bor (List ℕ)) (rs : List (List ℕ)) → gives s (Some r) t → cut n s.rest.now ≡ Some rs
    → (xs : List (List ℕ)) × (m : ℕ) × (rs ≡ r.now ∷ xs) × (cut m t.rest.now ≡ Some xs)
first_comes zero s t r rs g e =
    let f = first_of s.rest.now r.now t.rest.now g in
    absurd (none-some rs (sym (cut_full s.rest.now (omega (arith, first_fits s.rest.now f.0 f.1))) ∙ e))
first_comes (suc m) s t r rs g e =
    let f = first_of s.rest.now r.now t.rest.now g in
    let p = split_first (take f.0 (drop 2 s.rest.now)) (cut m (drop (2 + f.0) s.rest.now)) rs (sym (cut_more m s.rest.now f.0 f.1) ∙ e) in
    (p.0, m, p.2 ∙ ap (λ (x : List ℕ). x ∷ p.0) (sym f.2), ap (cut m) f.3 ∙ p.1)

-- where records are still to come, one comes
one_comes : (n : ℕ) (bs r : List ℕ) (rs : List (List ℕ)) → first_record bs ≡ None → cut n bs ≡ Some (r ∷ rs) → ⊥
one_comes n [] r rs h e =
    let z : ◌≡◌ {A = Option (List (List ℕ))} (Some []) (Some (r ∷ rs)) = sym (cut_end n [] (omega arith)) ∙ e in
    absurd (let y : ◌≡◌ {A = ℕ} 0 1 = cc in omega arith)
one_comes n (b ∷ bs) r rs h e = none-some (r ∷ rs) (sym (cut_broken n (b ∷ bs) (omega arith) (none_of (b ∷ bs) h)) ∙ e)

comes : (rs : List (List ℕ)) (n : ℕ) (s : Records) → cut n s.rest.now ≡ Some rs → AlwaysYields gives (λ r. r.now) s rs
comes [] n s e = λ r t g. let f = first_comes n s t r [] g e in let z = f.2 in absurd (let y : ◌≡◌ {A = ℕ} 0 1 = cc in omega arith)
comes (x ∷ xs) n s e = (
  λ t g. one_comes n s.rest.now x xs g.0 e,
  λ r t g.
      let f = first_comes n s t r (x ∷ xs) g e in
      let z = f.2 in
      let same : xs ≡ f.0 = cc in
      (cc, comes xs f.1 t (f.3 ∙ ap Some (sym same))),
)

pub gives_all : (s : Records) → GivesAll s
unfolding GivesAll
gives_all s rs e = comes rs 1000 s (sym (records_here s.rest.now (records_short s.rest.now rs e)) ∙ e)
