-- What a keyboard does with its oldest byte.
use Rattle.std.specs.Prelude.{ℕ, List, Some, None, Option}
use Rattle.ring.specs.Waiting.{Took, none, one, take_of}
use Rattle.ring.specs.Bytes.{closes_code}
use Rattle.ring.specs.Rings.{waiting_in}
use Rattle.decoder.specs.declared.Decoder.{Decoder}
use Rattle.decoder.specs.declared.offers.Offer.{Offer}
use Rattle.decoder.specs.Steps.{step}
use Rattle.keyboard.specs.declared.Keyboard.{Keyboard}

-- what can be seen of a keyboard: the bytes that wait, oldest first, and the decoder
pub record Seen : Type 0 where
  pub waiting : List ℕ
  pub decoder : Decoder

abbrev pub seen : Keyboard → Seen
seen k = record { waiting = waiting_in k.bytes; decoder = k.decoder }

-- the keyboard after a take, and what it offered
pub record Taken : Type 0 where
  pub keyboard : Seen
  pub offer : Option Offer

-- nothing readable: nothing changes; else the oldest byte goes through the decoder
abbrev pub decoded : Seen → Took ℕ → Taken
decoded k none = record { keyboard = k; offer = None }
decoded k (one byte rest) = record {
  keyboard = record { waiting = rest; decoder = (step k.decoder byte).decoder };
  offer = Some (step k.decoder byte).offer;
}

abbrev pub take_seen : Seen → Taken
take_seen k = decoded k (take_of closes_code k.waiting)
