-- The core and its clients, as values: seats with the items that wait in their rings, the holder of a grab, the reports ended.
use Rattle.std.specs.Prelude.{ℕ, suc, Bool, true, false, not, ◌&&◌, List, [], ◌∷◌, map, ◌==◌, slice_index_or, slice_set}
use Rattle.events.specs.Items.{item, report_end, loss_mark, is_report_end, mark_from}
use Rattle.ring.specs.Waiting.{Took, after_put, closed, take_of}
use Rattle.model.specs.Answers.{Answered}
use Rattle.events.specs.declared.items.Item.{Item}
use Rattle.model.specs.declared.Phase.{Phase}
use Rattle.model.specs.declared.Phase.TheVariants.{NotOpen, InStep, Lost, Due, CatchingUp}

-- the ring -------------------------------------------------------------------------------------------------------

-- a put into a ring of this capacity
abbrev pub put : ℕ → List Item → Item → List Item
put capacity q x = after_put mark_from capacity q x

-- whether a report end waits
abbrev pub some_end : List Item → Bool
some_end q = closed is_report_end q

-- the oldest readable item with what it leaves, or none
abbrev pub take : List Item → Took Item
take q = take_of is_report_end q

-- seats and the grab ---------------------------------------------------------------------------------------------

-- a seat is free, or has a capacity and the items that wait, oldest first
pub data Seat : Type 0 where
  free : Seat
  taken_by : ℕ → List Item → Seat

-- the seat that holds the grab, if one does
pub data Holder : Type 0 where
  nobody : Holder
  held : ℕ → Holder

abbrev pub seat_at : List Seat → ℕ → Seat
seat_at seats k = slice_index_or seats k free

abbrev pub is_free : Seat → Bool
is_free free = true
is_free (taken_by c q) = false

abbrev pub waiting : Seat → List Item
waiting free = []
waiting (taken_by capacity q) = q

abbrev pub room : Seat → ℕ
room free = 0
room (taken_by capacity q) = capacity

-- whether this seat holds the grab
abbrev pub holds : Holder → ℕ → Bool
holds nobody s = false
holds (held h) s = h == s

abbrev pub is_held : Holder → Bool
is_held nobody = false
is_held (held h) = true

-- whether another seat holds the grab
abbrev pub barred : Holder → ℕ → Bool
barred nobody s = false
barred (held h) s = not (h == s)

-- an open seat's ring gets the item
abbrev pub put_seat : Item → Seat → Seat
put_seat x free = free
put_seat x (taken_by c q) = taken_by c (put c q x)

-- fed are all open seats, or only the holder's while a grab is held
abbrev pub feed : Holder → Item → List Seat → List Seat
feed nobody x seats = map (put_seat x) seats
feed (held h) x seats = slice_set seats h (put_seat x (seat_at seats h))

-- what the end of a grab leaves in the others' rings: a mark and a report end, or in an open report a mark alone, numbered one more
abbrev pub left_ring : Bool → ℕ → ℕ → List Item
left_ring true t n = item loss_mark t (suc n) ∷ []
left_ring false t n = item loss_mark t n ∷ item report_end t n ∷ []

abbrev pub mark_seat : Bool → ℕ → ℕ → Seat → Seat
mark_seat reporting t n free = free
mark_seat reporting t n (taken_by c q) = taken_by c (left_ring reporting t n)

-- the core and the clients ---------------------------------------------------------------------------------------

-- a client: what it is at, its picture of the device, the state that it is catching up with, and whose client it is
pub record Client (S : Type 0) : Type 0 where
  pub phase : Phase
  pub state : S
  pub target : S
  pub device : ℕ
  pub seat : ℕ

-- a core: the device's number and state, the reports ended and the time of the last, whether a report is open, the grab and the seats
pub record Core (S : Type 0) : Type 0 where
  pub device : ℕ
  pub state : S
  pub reports : ℕ
  pub time : ℕ
  pub reporting : Bool
  pub holder : Holder
  pub seats : List Seat

abbrev pub is_open : Phase → Bool
is_open NotOpen = false
is_open InStep = true
is_open Lost = true
is_open Due = true
is_open (CatchingUp n t) = true

-- whether a client is open under this device number
abbrev pub here : {S : Type 0} → ℕ → Client S → Bool
here d c = is_open c.phase && c.device == d

-- the last report number
abbrev pub most : ℕ
most = 4294967295

-- a core with other seats, and with another holder
abbrev pub with_seats : {S : Type 0} → Core S → List Seat → Core S
with_seats k ss =
    record { device = k.device; state = k.state; reports = k.reports; time = k.time; reporting = k.reporting; holder = k.holder; seats = ss }

abbrev pub with_holder : {S : Type 0} → Core S → Holder → List Seat → Core S
with_holder k h ss =
    record { device = k.device; state = k.state; reports = k.reports; time = k.time; reporting = k.reporting; holder = h; seats = ss }

-- what a call leaves: the core, with the answer
pub record Left (S : Type 0) : Type 0 where
  pub core : Core S
  pub answer : Answered

-- and the client that was handed to it
pub record Met (S : Type 0) : Type 0 where
  pub core : Core S
  pub client : Client S
  pub answer : Answered

abbrev pub left : {S : Type 0} → Core S → Answered → Left S
left k a = record { core = k; answer = a }

abbrev pub met : {S : Type 0} → Core S → Client S → Answered → Met S
met k c a = record { core = k; client = c; answer = a }
