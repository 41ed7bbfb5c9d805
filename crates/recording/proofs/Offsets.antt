-- What a loop over a recording needs that goes by offsets: at offset `at`, after n records, the records still to come are `cut (1000 - n) (drop at bs)`.
use Rattle.std.proofs.Common.{◌≡◌, ℕ, ◌+◌, ◌-◌, ◌<◌, ◌≤◌, List, [], ◌∷◌, length, take, drop, Some, None, Option, sym, refl, ap, ◌∙◌, ap₂, arith, length-drop}
use Rattle.std.proofs.lemmas.List.{drop-drop, take_rest}
use Rattle.recording.specs.Frames.{first_length, with_first, cut, counted}
use Rattle.recording.proofs.Cuts.{cut_end, first_fits}
use Rattle.recording.proofs.Turns.{turn as turn_left, room, whole, next, counted_turn as counted_left}

-- what `first_length(&recording[at..])` answers, over the bytes from `at` on
pub length_at : (bs : List ℕ) (at : ℕ) (o : Option ℕ) → o ≡ first_length (take (length bs - at) (drop at bs)) → first_length (drop at bs) ≡ o
length_at bs at o e = ap first_length (sym (take_rest bs at)) ∙ sym e

-- the first record from `at` on, as `&recording[at + 2..at + 2 + k]` hands it on
pub body_at : (bs : List ℕ) (at k : ℕ) → take (at + 2 + k - (at + 2)) (drop (at + 2) bs) ≡ take k (drop (at + 2) bs)
body_at bs at k = let width : at + 2 + k - (at + 2) ≡ k = omega arith in ap (λ (m : ℕ). take m (drop (at + 2) bs)) width

-- the first record lies within the recording
pub within_at : (bs : List ℕ) (at k : ℕ) → at ≤ length bs → first_length (drop at bs) ≡ Some k → (1 ≤ k) × (at + 2 + k ≤ length bs)
within_at bs at k h e = let f = first_fits (drop at bs) k e in (f.0, omega (arith, f.1, length-drop at bs))

-- some bytes are left before the end
left_at : (bs : List ℕ) (at : ℕ) → at < length bs → 0 < length (drop at bs)
left_at bs at h = omega (arith, length-drop at bs)

-- what follows the first record
after_at : (bs : List ℕ) (at k : ℕ) → drop (2 + k) (drop at bs) ≡ drop (at + 2 + k) bs
after_at bs at k = let far : at + (2 + k) ≡ at + 2 + k = omega arith in drop-drop (2 + k) at bs ∙ ap (λ (m : ℕ). drop m bs) far

-- the records still to come are the first one and those after it
pub turn : (bs : List ℕ) (at n k : ℕ) → n < 1000 → first_length (drop at bs) ≡ Some k
    → cut (1000 - n) (drop at bs) ≡ with_first (take k (drop (at + 2) bs)) (cut (1000 - (n + 1)) (drop (at + 2 + k) bs))
turn bs at n k h e =
    turn_left (drop at bs) n k h e
    ∙ ap₂ (λ (x y : List ℕ). with_first (take k x) (cut (1000 - (n + 1)) y)) (drop-drop 2 at bs) (after_at bs at k)

-- where a record is to come and all are there, one more is allowed
pub room_at : (bs : List ℕ) (at n : ℕ) (rs : List (List ℕ)) → at < length bs → cut (1000 - n) (drop at bs) ≡ Some rs → n < 1000
room_at bs at n rs h e = room (drop at bs) n rs (left_at bs at h) e

-- where all are there, the next one is never broken
pub whole_at : (bs : List ℕ) (at n : ℕ) (rs : List (List ℕ)) → at < length bs → cut (1000 - n) (drop at bs) ≡ Some rs → first_length (drop at bs) ≡ None → ⊥
whole_at bs at n rs h e o = whole (drop at bs) n rs (left_at bs at h) e o

-- where all are there, the next one is the first of them, and the others are still to come
pub next_at : (bs : List ℕ) (at n k : ℕ) (rs : List (List ℕ)) → at < length bs → cut (1000 - n) (drop at bs) ≡ Some rs → first_length (drop at bs) ≡ Some k
    → (others : List (List ℕ)) × (cut (1000 - (n + 1)) (drop (at + 2 + k) bs) ≡ Some others) × (rs ≡ take k (drop (at + 2) bs) ∷ others)
next_at bs at n k rs h e f =
    let p = next (drop at bs) n k rs (left_at bs at h) e f in
    (p.0, ap (cut (1000 - (n + 1))) (sym (after_at bs at k)) ∙ p.1, p.2 ∙ ap (λ (x : List ℕ). take k x ∷ p.0) (drop-drop 2 at bs))

-- at the end no record is to come, and no length is found
pub none_at : (bs : List ℕ) (at n : ℕ) → length bs ≤ at → cut (1000 - n) (drop at bs) ≡ Some []
none_at bs at n h = cut_end (1000 - n) (drop at bs) (omega (arith, length-drop at bs))

pub ended_at : (bs : List ℕ) (at : ℕ) → length bs ≤ at → first_length (drop at bs) ≡ None
ended_at bs at h = none (drop at bs) (omega (arith, length-drop at bs))
  where
    none : (xs : List ℕ) → length xs ≤ 0 → first_length xs ≡ None
    none [] l = refl
    none (x ∷ xs) l = absurd (omega arith)

-- the count of the records so far, with those still to come, stays
pub counted_turn : (bs : List ℕ) (at n k : ℕ) → n < 1000 → first_length (drop at bs) ≡ Some k
    → counted (n + 1) (cut (1000 - (n + 1)) (drop (at + (2 + k)) bs)) ≡ counted n (cut (1000 - n) (drop at bs))
counted_turn bs at n k h e = ap (λ (xs : List ℕ). counted (n + 1) (cut (1000 - (n + 1)) xs)) (sym (drop-drop (2 + k) at bs)) ∙ counted_left (drop at bs) n k h e
