-- The two devices of a recording with their drivers, and what each record does to them.
use Rattle.std.specs.Prelude.{ℕ, ◌+◌, List, [], ◌∷◌, ◌++◌, map, drop, replicate, Some, None, Ok, Err, Option, Result}
use Rattle.events.specs.declared.refusals.Refusal.{Refusal}
use Rattle.events.specs.Refusals.{number_of}
use Rattle.parts.specs.declared.pair.Pair.{Pair}
use Rattle.keys.specs.declared.set.Keys.{Keys}
use Rattle.keys.specs.KeysPart.{keys_meaning}
use Rattle.slots.specs.declared.Slots.{Slots}
use Rattle.parts.specs.Meaning.{Meaning}
use Rattle.model.specs.declared.Call.{Call}
use Rattle.model.specs.declared.Call.TheVariants.{Open as opening, Close as closing, Grab as grab, Release as release, Read as reading}
use Rattle.model.specs.Runs.{World}
use Rattle.input.specs.Clients.{fresh}
use Rattle.input.specs.Cores.{fresh_core}
use Rattle.keyboard.specs.Takes.{Seen}
use Rattle.ps2.specs.Runs.{new_keyboard}
use Rattle.touch.specs.Runs.{panel_meaning, new_ids}
use Rattle.recording.specs.declared.commands.Device.{Device}
use Rattle.recording.specs.declared.commands.Device.TheVariants.{Keyboard, Panel}
use Rattle.recording.specs.declared.commands.Command.{Command}
use Rattle.recording.specs.declared.commands.Command.TheVariants.{Keys as keys, Touch as touch, Open as open_seat, Close as close_seat, Grab as grab_for, Release as release_for, Read as read_for}
use Rattle.recording.specs.Commands.{seat_number, device_number, command_of}
use Rattle.lines.specs.Acts.{Act}
use Rattle.lines.specs.Acts.Act.{on_first, on_second, refusal}
use Rattle.desk.specs.Making.{Made, made, keys_typed, record_touched}

-- the keyboard and the panel, each with its clients, by seat, and its driver
pub record Desk : Type 0 where
  pub first : World Keys
  pub second : World (Pair Keys Slots)
  pub keyboard : Seen
  pub ids : List (Option ℕ)

-- a core just made, and clients of which none is open
abbrev pub new_world : {S : Type 0} → Meaning S → ℕ → World S
new_world P d = record { core = fresh_core P d; clients = λ i. fresh P }

-- everything just made: the keyboard is device 1, the panel device 2
abbrev pub new_desk : Desk
new_desk = record { first = new_world keys_meaning 1; second = new_world panel_meaning 2; keyboard = new_keyboard; ids = new_ids }

-- what a record leaves, the calls that it made, and the refusal that ended it, if one did
pub record Played : Type 0 where
  pub desk : Desk
  pub acts : List Act
  pub refusal : Option ℕ

-- the calls that a command makes of its device; each seat has a client of its own number
abbrev pub calls_of : ℕ → Command → List Call
calls_of t keys = []
calls_of t touch = []
calls_of t (open_seat p n) = opening (seat_number p.seat) (seat_number p.seat) n ∷ []
calls_of t (close_seat p) = closing (seat_number p.seat) ∷ []
calls_of t (grab_for p) = grab (seat_number p.seat) ∷ []
calls_of t (release_for p) = release (device_number p.device) (seat_number p.seat) t ∷ []
calls_of t (read_for p n) = replicate n (reading (seat_number p.seat))

-- calls on the keyboard's core
abbrev pub on_keyboard : Desk → Seen → Made Keys → Played
on_keyboard k b m = record {
  desk = record { first = m.world; second = k.second; keyboard = b; ids = k.ids };
  acts = map on_first m.calls;
  refusal = m.refusal;
}

-- calls on the panel's core
abbrev pub on_panel : Desk → List (Option ℕ) → Made (Pair Keys Slots) → Played
on_panel k ids m = record {
  desk = record { first = k.first; second = m.world; keyboard = k.keyboard; ids = ids };
  acts = map on_second m.calls;
  refusal = m.refusal;
}

-- calls on a device
abbrev pub on_device : Desk → Device → List Call → Played
on_device k Keyboard cs = on_keyboard k k.keyboard (made keys_meaning k.first cs)
on_device k Panel cs = on_panel k k.ids (made panel_meaning k.second cs)

-- the bytes of a record go to the keyboard's driver
abbrev pub type_keys : Desk → ℕ → List ℕ → Played
type_keys k p bs = let x = keys_typed keys_meaning p k.first k.keyboard bs in on_keyboard k x.keyboard x.made

-- the bytes of a record go to the panel's driver
abbrev pub touch_panel : Desk → ℕ → List ℕ → Played
touch_panel k p bs = let x = record_touched panel_meaning p k.second k.ids bs in on_panel k x.ids x.made

-- what a command does, with the bytes after the record's letter
abbrev pub obeyed : Desk → ℕ → List ℕ → Command → Played
obeyed k p bs keys = type_keys k p bs
obeyed k p bs touch = touch_panel k p bs
obeyed k p bs (open_seat q n) = on_device k q.device (calls_of p (open_seat q n))
obeyed k p bs (close_seat q) = on_device k q.device (calls_of p (close_seat q))
obeyed k p bs (grab_for q) = on_device k q.device (calls_of p (grab_for q))
obeyed k p bs (release_for q) = on_device k q.device (calls_of p (release_for q))
obeyed k p bs (read_for q n) = on_device k q.device (calls_of p (read_for q n))

-- a record that asks for nothing is refused, and nothing is done
abbrev pub decoded : Desk → ℕ → List ℕ → Result Command Refusal → Played
decoded k p bs (Ok c) = obeyed k p bs c
decoded k p bs (Err r) = record { desk = k; acts = []; refusal = Some (number_of r) }

-- the record at a position, which is its time
unfoldable pub played : Desk → ℕ → List ℕ → Played
played k p r = decoded k p (drop 1 r) (command_of r)

-- a record that was refused is marked with its position
abbrev pub mark : ℕ → Option ℕ → List Act
mark p None = []
mark p (Some n) = refusal p n ∷ []

-- all that a record did, and its mark
abbrev pub acts_at : ℕ → Played → List Act
acts_at p x = x.acts ++ mark p x.refusal

-- all that records did, one after another; the first has the position after p
abbrev pub acts_of : Desk → ℕ → List (List ℕ) → List Act
acts_of k p [] = []
acts_of k p (r ∷ rs) = acts_at (p + 1) (played k (p + 1) r) ++ acts_of (played k (p + 1) r).desk (p + 1) rs
