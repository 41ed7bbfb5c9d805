-- The set of the keys that are held.
use Rattle.std.proofs.Common.{sym, subst, lit<}
use Rattle.std.specs.Prelude.{ℕ, ◌^◌, ◌<◌, Bool, false, cond, not, ◌&&◌, List, replicate, is_some, Some, None, Option, refl}
use Rattle.std.proofs.lemmas.List.{get_or-replicate}
use Rattle.codes.specs.Bit.{unlike}
use Rattle.codes.specs.Search.{smallest, counted, ascending}
use Rattle.keys.specs.declared.set.Keys.{Keys}
use Rattle.keys.specs.Words.{Keyset, has, is_code, flipped, turned_ok}

-- whether the key with the code c is held; only codes from 1 to 767 are
abbrev pub held : Keys → ℕ → Bool
held s c = is_code c && has s.words c

pub none_ok : Keyset (replicate 12 0)
none_ok = (refl, (λ i h. subst (λ (x : ℕ). x < 2 ^ 64) (sym (get_or-replicate 12 i 0 0 h)) (lit< tt)), refl)

-- no key is held
abbrev pub no_keys : Keys
no_keys = record { words = replicate 12 0; ok = none_ok }

-- the key with the code c is held where it was not, or no more where it was; a code outside 1 to 767 changes nothing
abbrev pub turned : Keys → ℕ → Keys
turned s c = record { words = cond (is_code c) (flipped s.words c) s.words; ok = turned_ok s.words c s.ok }

-- the key with the code c is held or not, as given, and the others are as they were
abbrev pub with_key : Keys → ℕ → Bool → Keys
with_key s c down = cond (unlike (held s c) down) (turned s c) s

-- the set without a key, if one is named
abbrev pub without : Keys → Option ℕ → Keys
without s None = s
without s (Some c) = with_key s c false

-- the codes that are held, ascending
abbrev pub held_codes : Keys → List ℕ
held_codes s = ascending (held s) 1 767

-- the smallest code that is held
abbrev pub first_held : Keys → Option ℕ
first_held s = smallest (held s) 1 767

-- whether no key is held
abbrev pub is_empty : Keys → Bool
is_empty s = not (is_some (first_held s))

-- whether the key is held in one of the two sets and not in the other
abbrev pub differs : Keys → Keys → ℕ → Bool
differs s t c = unlike (held s c) (held t c)

-- the smallest code at which two sets differ
abbrev pub first_apart : Keys → Keys → Option ℕ
first_apart s t = smallest (differs s t) 1 767

-- how many codes two sets differ at
abbrev pub count_apart : Keys → Keys → ℕ
count_apart s t = counted (differs s t) 1 767
