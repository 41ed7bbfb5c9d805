-- The numbers and the words of the refusals.
use Rattle.std.specs.Prelude.{◌≡◌, ℕ, List, [], ◌∷◌, ◌++◌, Ok, Err, codes, decimal, Result, ◌==◌, find, unwrap_or, refl}
use Rattle.events.specs.declared.refusals.Refusal.{Refusal}
use Rattle.events.specs.declared.refusals.Refusal.TheVariants.{UnknownAddress, BadValue, BadCapacity, BadSeat, UnsoundPile, TouchLength, TouchSlot, BrokenRecording, BrokenRecord, SeatOpen, ClientOpen, NotOpen, OtherDevice, GrabHeld, OtherGrab, HoldsGrab, ReportsSpent}

-- the number by which a refusal is known
abbrev pub number_of : Refusal → ℕ
number_of UnknownAddress = 1
number_of BadValue = 2
number_of BadCapacity = 3
number_of BadSeat = 4
number_of UnsoundPile = 5
number_of TouchLength = 6
number_of TouchSlot = 7
number_of BrokenRecording = 8
number_of BrokenRecord = 9
number_of SeatOpen = 21
number_of ClientOpen = 22
number_of NotOpen = 23
number_of OtherDevice = 24
number_of GrabHeld = 25
number_of OtherGrab = 26
number_of HoldsGrab = 27
number_of ReportsSpent = 28

-- every refusal
abbrev pub refusals : List Refusal
refusals = UnknownAddress ∷ BadValue ∷ BadCapacity ∷ BadSeat ∷ UnsoundPile ∷ TouchLength ∷ TouchSlot ∷ BrokenRecording ∷ BrokenRecord ∷ SeatOpen ∷ ClientOpen ∷ NotOpen ∷ OtherDevice ∷ GrabHeld ∷ OtherGrab ∷ HoldsGrab ∷ ReportsSpent ∷ []

-- the refusal with this number; where there is none, the first
abbrev pub refusal_with : ℕ → Refusal
refusal_with n = unwrap_or (find (λ r. number_of r == n) refusals) UnknownAddress

-- which is the one that is known by it
pub refusal_with-number_of : (r : Refusal) → refusal_with (number_of r) ≡ r
refusal_with-number_of UnknownAddress = refl
refusal_with-number_of BadValue = refl
refusal_with-number_of BadCapacity = refl
refusal_with-number_of BadSeat = refl
refusal_with-number_of UnsoundPile = refl
refusal_with-number_of TouchLength = refl
refusal_with-number_of TouchSlot = refl
refusal_with-number_of BrokenRecording = refl
refusal_with-number_of BrokenRecord = refl
refusal_with-number_of SeatOpen = refl
refusal_with-number_of ClientOpen = refl
refusal_with-number_of NotOpen = refl
refusal_with-number_of OtherDevice = refl
refusal_with-number_of GrabHeld = refl
refusal_with-number_of OtherGrab = refl
refusal_with-number_of HoldsGrab = refl
refusal_with-number_of ReportsSpent = refl

-- a refusal in a few words
abbrev pub sentence_of : Refusal → List ℕ
sentence_of UnknownAddress = codes "no part knows the event's address"
sentence_of BadValue = codes "the event's value is not allowed"
sentence_of BadCapacity = codes "the ring's capacity is not 2 to 64"
sentence_of BadSeat = codes "the seat is not 0 to 7"
sentence_of UnsoundPile = codes "the parts of the pile overlap"
sentence_of TouchLength = codes "the touch record has a wrong length"
sentence_of TouchSlot = codes "the touch slot is not 0 to 9"
sentence_of BrokenRecording = codes "the recording is broken"
sentence_of BrokenRecord = codes "the record is broken"
sentence_of SeatOpen = codes "the seat is open already"
sentence_of ClientOpen = codes "the client is open already"
sentence_of NotOpen = codes "the client is not open here"
sentence_of OtherDevice = codes "the client belongs to another device"
sentence_of GrabHeld = codes "the device is grabbed already"
sentence_of OtherGrab = codes "the grab is not the one held"
sentence_of HoldsGrab = codes "the client holds the grab"
sentence_of ReportsSpent = codes "the report numbers are spent"

-- a refusal as text: its number and its words
abbrev pub refusal_text : Refusal → List ℕ
refusal_text r = decimal (number_of r) ++ (codes ": " ++ sentence_of r)

-- the number of the refusal that a call answered, 0 where it was not refused
abbrev pub refused_by : {T : Type 0} → Result T Refusal → ℕ
refused_by (Ok x) = 0
refused_by (Err r) = number_of r
