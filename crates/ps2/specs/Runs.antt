-- A keyboard's driver with its core, over every list of puts and takes.
use Rattle.std.specs.Prelude.{◌≡◌, ℕ, List, [], ◌∷◌, ◌++◌, pos, Ok, Err, Result}
use Rattle.events.specs.declared.refusals.Refusal.{Refusal}
use Rattle.keys.specs.declared.set.Keys.{Keys}
use Rattle.keys.specs.KeySet.{held}
use Rattle.keys.specs.KeysPart.{keys_meaning}
use Rattle.ring.specs.Waiting.{Took, none, one, take_of}
use Rattle.ring.specs.Bytes.{closes_code}
use Rattle.decoder.specs.Steps.{fresh}
use Rattle.decoder.specs.Runs.{offered, last_value, not_zero}
use Rattle.keyboard.specs.Takes.{Seen}
use Rattle.model.specs.Core.{Core}
use Rattle.input.specs.Cores.{fresh_core, readiness}
use Rattle.ps2.specs.Takes.{put_call, take_call}

-- a byte arrives, or the driver takes one at a time
pub data Act : Type 0 where
  put : ℕ → Act
  take : ℕ → Act

-- a driver, and the core over keys alone that it offers to
pub record Desk : Type 0 where
  pub keyboard : Seen
  pub core : Core Keys

-- both just made
abbrev pub new_keyboard : Seen
new_keyboard = record { waiting = []; decoder = fresh }

abbrev pub new_desk : ℕ → Desk
new_desk device = record { keyboard = new_keyboard; core = fresh_core keys_meaning device }

abbrev pub act : Desk → Act → Desk
act d (put b) = record { keyboard = put_call d.keyboard b; core = d.core }
act d (take t) = record { keyboard = (take_call keys_meaning d.core d.keyboard t).keyboard; core = (take_call keys_meaning d.core d.keyboard t).core }

abbrev pub acts : Desk → List Act → Desk
acts d [] = d
acts d (a ∷ later) = acts (act d a) later

-- the byte that a take finds
abbrev pub byte_found : Took ℕ → List ℕ
byte_found none = []
byte_found (one b rest) = b ∷ []

-- a refused take leaves it where it is
abbrev pub byte_if : Result (Unit {0}) Refusal → Took ℕ → List ℕ
byte_if (Err r) found = []
byte_if (Ok _) found = byte_found found

-- the bytes that went through the decoder, in order
abbrev pub bytes_decoded : Desk → List Act → List ℕ
bytes_decoded d [] = []
bytes_decoded d (put b ∷ later) = bytes_decoded (act d (put b)) later
bytes_decoded d (take t ∷ later) = byte_if (readiness keys_meaning d.core) (take_of closes_code d.keyboard.waiting) ++ bytes_decoded (act d (take t)) later

-- The keys that are down in the core are exactly those that the driver holds, whatever was refused.
abbrev pub DownIsHeld : Type 0
DownIsHeld = (device : ℕ) (run : List Act) → (acts (new_desk device) run).core.state ≡ (acts (new_desk device) run).keyboard.decoder.held

-- And a key is down exactly where the bytes decoded so far last offered it with a value other than 0: one that they last lifted is not down.
abbrev pub DownIsLastOffered : Type 0
DownIsLastOffered =
    (device : ℕ) (run : List Act) (key : ℕ)
    → held (acts (new_desk device) run).core.state key ≡ not_zero (last_value key (pos 0) (offered fresh (bytes_decoded (new_desk device) run)))

-- A take keeps them so on any core over keys, whatever its clients did in between.
abbrev pub TakesKeepIt : Type 0
TakesKeepIt =
    (k : Core Keys) (b : Seen) (time : ℕ) → k.state ≡ b.decoder.held
    → (take_call keys_meaning k b time).core.state ≡ (take_call keys_meaning k b time).keyboard.decoder.held

pub record Laws : Type 0 where
  pub down_is_held : DownIsHeld
  pub down_is_last_offered : DownIsLastOffered
  pub takes_keep_it : TakesKeepIt
