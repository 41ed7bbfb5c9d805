-- What a record asks for.
use Rattle.std.specs.Prelude.{◌≡◌, ℕ, cond, List, [], ◌∷◌, ◌++◌, Some, None, Ok, Err, Option, Result, ◌==◌, codes, decimal}
use Rattle.events.specs.declared.refusals.Refusal.{Refusal}
use Rattle.events.specs.declared.refusals.Refusal.TheVariants.{BrokenRecord}
use Rattle.recording.specs.declared.commands.Device.{Device}
use Rattle.recording.specs.declared.commands.Device.TheVariants.{Keyboard, Panel}
use Rattle.recording.specs.declared.commands.Seat.{Seat}
use Rattle.recording.specs.declared.commands.Seat.TheVariants.{First, Second}
use Rattle.recording.specs.declared.commands.Place.{Place}
use Rattle.recording.specs.declared.commands.Command.{Command}
use Rattle.recording.specs.declared.commands.Command.TheVariants.{Keys, Touch, Open, Close, Grab, Release, Read}

-- the keyboard is device 1, the panel device 2
abbrev pub device_number : Device → ℕ
device_number Keyboard = 1
device_number Panel = 2

-- the device that a number names
abbrev pub device_of : ℕ → Option Device
device_of n = cond (n == 1) (Some Keyboard) (cond (n == 2) (Some Panel) None)

-- the seats are numbered 0 and 1
abbrev pub seat_number : Seat → ℕ
seat_number First = 0
seat_number Second = 1

-- the seat that a number names
abbrev pub seat_of : ℕ → Option Seat
seat_of n = cond (n == 0) (Some First) (cond (n == 1) (Some Second) None)

-- a place as it is printed: the numbers of device and seat, joined by a dot
abbrev pub place_text : Place → List ℕ
place_text p = decimal (device_number p.device) ++ (codes "." ++ decimal (seat_number p.seat))

-- ---- what a record says

-- the letters: K, T, O, C, G, U and R
abbrev pub letter : Command → ℕ
letter Keys = 75
letter Touch = 84
letter (Open p n) = 79
letter (Close p) = 67
letter (Grab p) = 71
letter (Release p) = 85
letter (Read p n) = 82

-- the numbers of device and seat, and what follows them
abbrev pub placed : Place → List ℕ → List ℕ
placed p more = device_number p.device ∷ (seat_number p.seat ∷ more)

-- what stands after the letter: bytes for a driver, or device and seat, with the capacity of an opening and the count of a read
abbrev pub Follows : Command → List ℕ → Type 0
Follows Keys body = Unit {0}
Follows Touch body = Unit {0}
Follows (Open p n) body = body ≡ placed p (n ∷ [])
Follows (Close p) body = body ≡ placed p []
Follows (Grab p) body = body ≡ placed p []
Follows (Release p) body = body ≡ placed p []
Follows (Read p n) body = body ≡ placed p (n ∷ [])

-- a record asks for a command: its letter, and what stands after it
abbrev pub Asks : List ℕ → Command → Type 0
Asks [] c = ⊥
Asks (b ∷ body) c = (b ≡ letter c) × Follows c body

-- ---- how it is decoded

-- a record that is broken
abbrev pub broken : Result Command Refusal
broken = Err BrokenRecord

-- by the letter, for a place, from the bytes after it
abbrev pub placed_call : ℕ → Place → List ℕ → Result Command Refusal
placed_call l p [] = cond (l == 67) (Ok (Close p)) (cond (l == 71) (Ok (Grab p)) (cond (l == 85) (Ok (Release p)) broken))
placed_call l p (n ∷ []) = cond (l == 79) (Ok (Open p n)) (cond (l == 82) (Ok (Read p n)) broken)
placed_call l p (n ∷ m ∷ more) = broken

-- where device and seat are there
abbrev pub call_at : ℕ → Option Device → Option Seat → List ℕ → Result Command Refusal
call_at l None s more = broken
call_at l (Some d) None more = broken
call_at l (Some d) (Some s) more = placed_call l (record { device = d; seat = s }) more

-- from the bytes after the letter
abbrev pub call_of : ℕ → List ℕ → Result Command Refusal
call_of l [] = broken
call_of l (d ∷ []) = broken
call_of l (d ∷ s ∷ more) = call_at l (device_of d) (seat_of s) more

-- from the whole record
abbrev pub command_of : List ℕ → Result Command Refusal
command_of [] = broken
command_of (l ∷ rest) = cond (l == 75) (Ok Keys) (cond (l == 84) (Ok Touch) (call_of l rest))

-- a record is decoded to a command exactly where it asks for it, and any other is refused by 9
unfoldable pub DecodesRight : Type 0
DecodesRight =
    (r : List ℕ)
    → ((c : Command) → (command_of r ≡ Ok c → Asks r c) × (Asks r c → command_of r ≡ Ok c))
    × ((e : Refusal) → command_of r ≡ Err e → e ≡ BrokenRecord)
