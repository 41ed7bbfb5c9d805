-- The part of the keys: type 1, codes 1 to 767.
use Rattle.std.specs.Prelude.{ℕ, zero, suc, Bool, true, cond, ◌&&◌, ℤ, pos, negsuc, Option, ◌==◌}
use Rattle.std.specs.Option.{option_map}
use Rattle.events.specs.declared.items.Event.{Event}
use Rattle.events.specs.Items.{same_value}
use Rattle.parts.specs.declared.Verdict.{Verdict}
use Rattle.parts.specs.declared.Verdict.TheVariants.{Stranger, BadValue, Same, Passing, Change}
use Rattle.parts.specs.Meaning.{Meaning}
use Rattle.keys.specs.declared.set.Keys.{Keys}
use Rattle.keys.specs.Words.{is_code}
use Rattle.keys.specs.KeySet.{held, no_keys, with_key, first_apart, count_apart}

-- whether the event is a key's: type 1, and a code that a key has
abbrev pub is_key : Event → Bool
is_key e = e.kind == 1 && is_code e.code

-- what a key that is held or not says to a value: 0 releases it, 1 presses it, and 2 repeats it where it is held
abbrev pub value_verdict : Bool → ℤ → Verdict
value_verdict down (pos zero) = cond down Change Same
value_verdict down (pos (suc zero)) = cond down Same Change
value_verdict down (pos (suc (suc zero))) = cond down Passing Same
value_verdict down (pos (suc (suc (suc n)))) = BadValue
value_verdict down (negsuc n) = BadValue

-- what the keys say to an event
abbrev pub keys_verdict : Keys → Event → Verdict
keys_verdict s e = cond (is_key e) (value_verdict (held s e.code) e.value) Stranger

-- a change presses its key at the value 1 and releases it at 0; any other event leaves the set
abbrev pub keys_taken : Keys → Event → Keys
keys_taken s e = elim (keys_verdict s e) [
  | Change ↦ with_key s e.code (same_value e.value (pos 1))
  | Passing ↦ s
  | Same ↦ s
  | BadValue ↦ s
  | Stranger ↦ s
]

-- the event by which a key is pressed or released
abbrev pub key_event : ℕ → Bool → Event
key_event c down = record { kind = 1; code = c; value = pos (cond down 1 0) }

-- the event that makes the key with the code c as it is in t
abbrev pub towards : Keys → ℕ → Event
towards t c = key_event c (held t c)

-- the next event concerns the smallest code at which the sets differ
abbrev pub keys_next : Keys → Keys → Option Event
keys_next s t = option_map (towards t) (first_apart s t)

-- how many codes the sets differ at
abbrev pub keys_distance : Keys → Keys → ℕ
keys_distance s t = count_apart s t

-- what the part of the keys means
abbrev pub keys_meaning : Meaning Keys
keys_meaning = record {
  first = 65537;
  last = 66303;
  sound = true;
  empty = no_keys;
  verdict = keys_verdict;
  taken = keys_taken;
  distance = keys_distance;
  next = keys_next;
}
