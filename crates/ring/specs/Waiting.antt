-- What a ring means: the list of the items that wait, oldest first.
use Rattle.std.specs.Prelude.{◌≡◌, ℕ, ◌+◌, ◌-◌, ◌<◌, ◌≤◌, Bool, false, cond, ◌&&◌, ◌||◌, List, [], ◌∷◌, ◌++◌, length, take, drop, Some, None, Option, min, nat_le, nat_lt}
use Rattle.ring.specs.declared.Span.{Span}

-- a ring has room for 2 to 64 items
abbrev pub is_capacity : ℕ → Bool
is_capacity n = nat_le 2 n && nat_le n 64

-- and in this many slots for no more than those
abbrev pub is_capacity_in : ℕ → ℕ → Bool
is_capacity_in slots n = nat_le 2 n && nat_le n (min slots 64)

-- the slots from `head` on, going round
abbrev pub turned : {T : Type 0} → ℕ → List T → List T
turned head slots = drop head slots ++ take head slots

-- the items waiting, oldest first
abbrev pub waiting_at : {T : Type 0} → List T → ℕ → ℕ → List T
waiting_at slots head len = take len (turned head slots)

abbrev pub waiting : {T : Type 0} → List T → Span → List T
waiting slots span = waiting_at slots span.head span.len

-- a put: appends, or, at a full ring, throws all away and leaves the mark and the item
abbrev pub after_put : {T : Type 0} → (T → T) → ℕ → List T → T → List T
after_put lost capacity ws x = cond (nat_lt (length ws) capacity) (ws ++ (x ∷ [])) (lost x ∷ (x ∷ []))

-- how many items are readable: those up to and including the last closing one
abbrev pub readable_of : {T : Type 0} → (T → Bool) → List T → ℕ
readable_of closing [] = 0
readable_of closing (x ∷ ws) = cond (nat_lt 0 (readable_of closing ws)) (1 + readable_of closing ws) (cond (closing x) 1 0)

-- the readable items, and those behind them
abbrev pub readable_items : {T : Type 0} → (T → Bool) → List T → List T
readable_items closing ws = take (readable_of closing ws) ws

abbrev pub unreadable_items : {T : Type 0} → (T → Bool) → List T → List T
unreadable_items closing ws = drop (readable_of closing ws) ws

-- whether some item closes a group, so that something is readable
abbrev pub closed : {T : Type 0} → (T → Bool) → List T → Bool
closed closing [] = false
closed closing (x ∷ ws) = closing x || closed closing ws

-- what a take finds: the oldest item with those that it leaves, or none
pub data Took (T : Type 0) : Type 0 where
  none : Took T
  one : T → List T → Took T

-- a take removes the oldest item if something is readable
abbrev pub take_of : {T : Type 0} → (T → Bool) → List T → Took T
take_of closing [] = none
take_of closing (x ∷ ws) = cond (closed closing (x ∷ ws)) (one x ws) none

-- the item that was taken
abbrev pub item_of : {T : Type 0} → Took T → Option T
item_of none = None
item_of (one x ws) = Some x

-- the items that are left of ws
abbrev pub left_of : {T : Type 0} → List T → Took T → List T
left_of ws none = ws
left_of ws (one x rest) = rest

-- the slot that lies `far` past `head`, going round
abbrev pub place_of : ℕ → ℕ → ℕ → ℕ
place_of capacity head far = cond (nat_lt (head + far) capacity) (head + far) (head + far - capacity)

-- where no item waits
abbrev pub no_span : Span
no_span = record { head = 0; len = 0; ready = 0 }

-- what holds of slots and a span between calls: 2 to 64 slots, and `ready` counts the readable items
abbrev pub ValidAt : {T : Type 0} → (T → Bool) → List T → ℕ → ℕ → ℕ → Type 0
ValidAt closing slots head len ready =
    (2 ≤ length slots) × (length slots ≤ 64) × (head < length slots) × (len ≤ length slots) × (ready ≡ readable_of closing (waiting_at slots head len))

abbrev pub Valid : {T : Type 0} → (T → Bool) → List T → Span → Type 0
Valid closing slots span = ValidAt closing slots span.head span.len span.ready
