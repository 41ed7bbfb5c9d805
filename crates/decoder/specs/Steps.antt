-- What a decoder does with one byte.
use Rattle.std.specs.Prelude.{ℕ, Bool, true, false, cond, not, ◌||◌, Some, None, Option, ◌==◌}
use Rattle.keys.specs.KeySet.{held, with_key, no_keys}
use Rattle.set2.specs.declared.Table.{Table}
use Rattle.set2.specs.declared.Table.TheVariants.{Plain, Extended}
use Rattle.set2.specs.Set2.{key_of}
use Rattle.decoder.specs.declared.Prefix.{Prefix}
use Rattle.decoder.specs.declared.Prefix.TheVariants.{E0, E1, E1Code}
use Rattle.decoder.specs.declared.Decoder.{Decoder}
use Rattle.decoder.specs.declared.offers.Offer.{Offer}
use Rattle.decoder.specs.declared.offers.Offer.TheVariants.{Nothing, One, Releases}
use Rattle.decoder.specs.Offers.{key_event}

-- the decoder after a byte, and what the byte offered
pub record Step : Type 0 where
  pub decoder : Decoder
  pub offer : Offer

-- a decoder just made: no prefix, not deaf, no key held
abbrev pub fresh : Decoder
fresh = record { prefix = None; released = false; deaf = false; held = no_keys }

-- afresh, with a prefix or none: whatever prefix came before is forgotten
abbrev pub restarted : Decoder → Option Prefix → Decoder
restarted d p = record { prefix = p; released = false; deaf = d.deaf; held = d.held }

-- without prefixes
abbrev pub cleared : Decoder → Decoder
cleared d = restarted d None

-- E0 and E1 start afresh
abbrev pub prefixed : Decoder → Prefix → Decoder
prefixed d p = restarted d (Some p)

-- nothing is offered
abbrev pub silent : Decoder → Step
silent d = record { decoder = d; offer = Nothing }

-- every held key is released, ascending, and held no more
abbrev pub releasing : Decoder → Step
releasing d = record {
  decoder = record { prefix = d.prefix; released = d.released; deaf = d.deaf; held = no_keys };
  offer = Releases d.held;
}

-- 0 after F0, else 1, or 2 if the key is held
abbrev pub value_of : Bool → Bool → ℕ
value_of released down = cond released 0 (cond down 2 1)

-- the key is held from now on, or no more
abbrev pub key_step : Decoder → ℕ → Bool → Decoder
key_step d k released = record { prefix = d.prefix; released = d.released; deaf = d.deaf; held = with_key d.held k (not released) }

-- a code clears the prefixes, and offers its key, if it stands for one
abbrev pub found : Decoder → Option ℕ → Step
found d None = silent (cleared d)
found d (Some k) = record {
  decoder = key_step (cleared d) k d.released;
  offer = One (key_event k (value_of d.released (held d.held k)));
}

abbrev pub look_up : Decoder → Table → ℕ → Step
look_up d table code = found d (key_of table code)

-- the two codes after E1 offer nothing, and the second clears the prefixes
abbrev pub by_prefix : Decoder → ℕ → Option Prefix → Step
by_prefix d code None = look_up d Plain code
by_prefix d code (Some E0) = look_up d Extended code
by_prefix d code (Some E1) = silent (record { prefix = Some E1Code; released = d.released; deaf = d.deaf; held = d.held })
by_prefix d code (Some E1Code) = silent (cleared d)

abbrev pub code_step : Decoder → ℕ → Step
code_step d code = by_prefix d code d.prefix

-- AA clears the prefixes and ends deafness; a deaf decoder drops all else; 00 and FF make it deaf; E0, E1 and F0 are prefixes; the rest are codes
abbrev pub step : Decoder → ℕ → Step
step d byte =
    cond (byte == 0xaa) (releasing (record { prefix = None; released = false; deaf = false; held = d.held }))
    (cond d.deaf (silent d)
    (cond (byte == 0x00 || byte == 0xff) (releasing (record { prefix = d.prefix; released = d.released; deaf = true; held = d.held }))
    (cond (byte == 0xe0) (silent (prefixed d E0))
    (cond (byte == 0xe1) (silent (prefixed d E1))
    (cond (byte == 0xf0) (silent (record { prefix = d.prefix; released = true; deaf = d.deaf; held = d.held }))
    (code_step d byte))))))
