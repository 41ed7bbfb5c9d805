-- What holds of a ring over every list of puts and takes.
use Rattle.std.specs.Prelude.{◌≡◌, ℕ, ◌<◌, ◌≤◌, Bool, true, false, ◌⊎◌, List, [], ◌∷◌, ◌++◌, length, take, drop}
use Rattle.std.specs.List.{AllByRecursion as Each}
use Rattle.ring.specs.Waiting.{Took, none, one, after_put, take_of, readable_of}

-- one call on a ring
pub data Turn (T : Type 0) : Type 0 where
  puts : T → Turn T
  takes : Turn T

-- the items taken so far, in order, and those that wait
pub record State (T : Type 0) : Type 0 where
  pub taken : List T
  pub waiting : List T

-- a ring just started
abbrev pub fresh : {T : Type 0} → State T
fresh = record { taken = []; waiting = [] }

-- the items that were put
abbrev pub put_in : {T : Type 0} → List (Turn T) → List T
put_in [] = []
put_in (puts x ∷ ts) = x ∷ put_in ts
put_in (takes ∷ ts) = put_in ts

-- what a take moves
abbrev pub moved : {T : Type 0} → State T → Took T → State T
moved s none = s
moved s (one x rest) = record { taken = s.taken ++ (x ∷ []); waiting = rest }

module _ {T : Type 0} (closing : T → Bool) (lost : T → T) (capacity : ℕ) where
  abbrev pub after_turn : State T → Turn T → State T
  after_turn s (puts x) = record { taken = s.taken; waiting = after_put lost capacity s.waiting x }
  after_turn s takes = moved s (take_of closing s.waiting)

  abbrev pub after : State T → List (Turn T) → State T
  after s [] = s
  after s (t ∷ ts) = after (after_turn s t) ts

  -- no put of these turns finds the ring full
  abbrev pub NeverFull : State T → List (Turn T) → Type 0
  NeverFull s ts = (us vs : List (Turn T)) (x : T) → ts ≡ us ++ (puts x ∷ vs) → length (after s us).waiting < capacity

  -- Without an overrun, what was taken followed by what waits is what was put, none missing or repeated.
  abbrev pub InOrder : Type 0
  InOrder = (ts : List (Turn T)) → NeverFull fresh ts → (after fresh ts).taken ++ (after fresh ts).waiting ≡ put_in ts

  -- An overrun replaces everything that waits by the mark and the item that found the ring full; from there on nothing is lost till the next.
  abbrev pub Overrun : Type 0
  Overrun =
      (before later : List (Turn T)) (x : T) → capacity ≤ length (after fresh before).waiting
      → NeverFull (record { taken = (after fresh before).taken; waiting = lost x ∷ (x ∷ []) }) later
      → let end = after fresh (before ++ (puts x ∷ later)) in
      end.taken ++ end.waiting ≡ (after fresh before).taken ++ (lost x ∷ (x ∷ put_in later))

  -- What waits are the items put last; or, in front of them, one mark, made from the first of them.
  abbrev pub OneMark : Type 0
  OneMark =
      (ts : List (Turn T)) → (early late : List T) × (early ++ late ≡ put_in ts)
      × (((after fresh ts).waiting ≡ late) ⊎ ((x : T) × (rest : List T) × (late ≡ x ∷ rest) × ((after fresh ts).waiting ≡ lost x ∷ late)))

  -- A ring never holds more than its capacity.
  abbrev pub Bounded : Type 0
  Bounded = (ts : List (Turn T)) → length (after fresh ts).waiting ≤ capacity

  -- What is readable is nothing or ends with a closing item, and no item behind it closes.
  abbrev pub ReadableCloses : Type 0
  ReadableCloses =
      (ws : List T) → Each (λ x. closing x ≡ false) (drop (readable_of closing ws) ws)
      × ((readable_of closing ws ≡ 0) ⊎ ((front : List T) × (x : T) × (take (readable_of closing ws) ws ≡ front ++ (x ∷ [])) × (closing x ≡ true)))

  pub record Runs : Type 0 where
    pub in_order : InOrder
    pub overrun : Overrun
    pub one_mark : OneMark
    pub bounded : Bounded
    pub readable_closes : ReadableCloses
