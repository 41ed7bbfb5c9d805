-- A recording: records one after another, each a length of 16 bits, at least 1, and that many bytes.
use Rattle.std.specs.Prelude.{◌≡◌, ℕ, zero, suc, ◌+◌, ◌*◌, ◌/◌, ◌%◌, ◌<◌, ◌≤◌, Bool, cond, ◌&&◌, List, [], ◌∷◌, ◌++◌, length, take, drop, Some, None, Option, Result, nat_le}
use Rattle.std.specs.Option.{ok_or, option_map}
use Rattle.std.specs.List.{AllByRecursion as Each}
use Rattle.events.specs.declared.refusals.Refusal.{Refusal}
use Rattle.events.specs.declared.refusals.Refusal.TheVariants.{BrokenRecording}

-- ---- what a recording is

-- a record with its length in front, the low byte first
abbrev pub framed : List ℕ → List ℕ
framed r = length r % 256 ∷ (length r / 256 ∷ r)

-- records one after another
abbrev pub laid : List (List ℕ) → List ℕ
laid [] = []
laid (r ∷ rs) = framed r ++ laid rs

-- these bytes are a recording of these records
pub record Recording (bs : List ℕ) (rs : List (List ℕ)) : Type 0 where
  pub whole : bs ≡ laid rs
  pub some : Each (λ r. 1 ≤ length r) rs
  pub short : length bs ≤ 65536
  pub few : length rs ≤ 1000

-- ---- how it is cut

-- the number that two bytes write, the low one first
abbrev pub word : ℕ → ℕ → ℕ
word low high = low + 256 * high

-- whether a length is at least 1 and there are so many bytes
abbrev pub fits : ℕ → List ℕ → Bool
fits k body = nat_le 1 k && nat_le k (length body)

-- the length of the first record; none where the recording ends or is broken there
abbrev pub first_length : List ℕ → Option ℕ
first_length [] = None
first_length (low ∷ []) = None
first_length (low ∷ high ∷ body) = cond (fits (word low high) body) (Some (word low high)) None

-- a first record of this length, and what follows it
abbrev pub parted : List ℕ → ℕ → List ℕ × List ℕ
parted bs k = (take k (drop 2 bs), drop (2 + k) bs)

-- the first record and what follows it; none where the recording ends or is broken there
abbrev pub first_record : List ℕ → Option (List ℕ × List ℕ)
first_record bs = option_map (parted bs) (first_length bs)

-- one more in front, if there is a list
abbrev pub with_first : {A : Type 0} → A → Option (List A) → Option (List A)
with_first x None = None
with_first x (Some xs) = Some (x ∷ xs)

-- what follows from a value, if there is one
abbrev pub given : {A B : Type 0} → Option A → (A → Option B) → Option B
given None f = None
given (Some x) f = f x

-- the records, at most n of them; none where the bytes are broken
unfoldable pub cut : ℕ → List ℕ → Option (List (List ℕ))
cut n [] = Some []
cut zero (b ∷ bs) = None
cut (suc n) (b ∷ bs) = given (first_length (b ∷ bs)) (λ k. with_first (take k (drop 2 (b ∷ bs))) (cut n (drop (2 + k) (b ∷ bs))))

-- the records of a recording; none where it is broken
abbrev pub records_of : List ℕ → Option (List (List ℕ))
records_of bs = cond (nat_le (length bs) 65536) (cut 1000 bs) None

-- how many records, with n more
abbrev pub counted : ℕ → Option (List (List ℕ)) → Option ℕ
counted n None = None
counted n (Some rs) = Some (n + length rs)

-- how many records a recording has; none where it is broken
abbrev pub count_of : List ℕ → Option ℕ
count_of bs = counted 0 (records_of bs)

-- the same, with refusal 8 where it is broken
abbrev pub check_of : List ℕ → Result ℕ Refusal
check_of bs = ok_or (count_of bs) BrokenRecording

-- the cut finds the records that bytes are a recording of, and finds none exactly where they are no recording
unfoldable pub CutsRight : Type 0
CutsRight =
    (bs : List ℕ) → Each (λ b. b < 256) bs → (rs : List (List ℕ))
    → (records_of bs ≡ Some rs → Recording bs rs) × (Recording bs rs → records_of bs ≡ Some rs)
