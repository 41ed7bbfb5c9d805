-- What a decoder offers over a list of bytes, and what holds of it.
use Rattle.std.specs.Prelude.{◌≡◌, ℕ, zero, suc, Bool, true, false, cond, ◌⊎◌, List, [], ◌∷◌, ◌++◌, ℤ, pos, negsuc, Some, None, ◌==◌, ◌≢◌}
use Rattle.std.specs.List.{AllByRecursion as Each}
use Rattle.events.specs.declared.items.Event.{Event}
use Rattle.keys.specs.KeySet.{held}
use Rattle.set2.specs.declared.Table.{Table}
use Rattle.set2.specs.declared.Table.TheVariants.{Plain, Extended}
use Rattle.set2.specs.Set2.{key_of}
use Rattle.decoder.specs.declared.Decoder.{Decoder}
use Rattle.decoder.specs.Offers.{key_event, events_of}
use Rattle.decoder.specs.Steps.{fresh, step}

-- the decoder after these bytes
abbrev pub after : Decoder → List ℕ → Decoder
after d [] = d
after d (b ∷ bs) = after (step d b).decoder bs

-- all that these bytes offer, in order
abbrev pub offered : Decoder → List ℕ → List Event
offered d [] = []
offered d (b ∷ bs) = events_of (step d b).offer ++ offered (step d b).decoder bs

-- the value last offered for a key; v where none was
abbrev pub last_value : ℕ → ℤ → List Event → ℤ
last_value k v [] = v
last_value k v (e ∷ es) = last_value k (cond (e.code == k) e.value v) es

-- whether a value is other than 0
abbrev pub not_zero : ℤ → Bool
not_zero (pos zero) = false
not_zero (pos (suc n)) = true
not_zero (negsuc n) = true

-- The keys held are exactly those whose value last offered is not 0.
abbrev pub HeldIsLastOffered : Type 0
HeldIsLastOffered =
    (bs : List ℕ) (k : ℕ) → held (after fresh bs).held k ≡ not_zero (last_value k (pos 0) (offered fresh bs))

-- From a byte 00 or FF to the next AA nothing is pressed: what is offered are releases.
abbrev pub DeafPressesNothing : Type 0
DeafPressesNothing =
    (before bs : List ℕ) (b : ℕ) → (b ≡ 0x00) ⊎ (b ≡ 0xff) → Each (λ x. x ≢ 0xaa) bs
    → Each (λ e. e.value ≡ pos 0) (offered (after fresh before) (b ∷ bs))

-- the bytes that a keyboard sends for a key: E0 if the extended table has it, F0 if it is let go, and the code
abbrev pub lead : Table → List ℕ → List ℕ
lead Plain bs = bs
lead Extended bs = 0xe0 ∷ bs

abbrev pub make : Table → ℕ → List ℕ
make table code = lead table (code ∷ [])

abbrev pub break : Table → ℕ → List ℕ
break table code = lead table (0xf0 ∷ code ∷ [])

-- not deaf, and no prefix pending
abbrev pub AtRest : Decoder → Type 0
AtRest d = (d.prefix ≡ None) × (d.released ≡ false) × (d.deaf ≡ false)

-- At rest, the make bytes of a key offer one event, a press or, if the key is held, a repeat; its break bytes offer one release.
-- The decoder is at rest again, and holds the key or holds it no more.
abbrev pub MakeAndBreak : Type 0
MakeAndBreak =
    (d : Decoder) → AtRest d → (table : Table) (code k : ℕ) → key_of table code ≡ Some k
    → (offered d (make table code) ≡ key_event k (cond (held d.held k) 2 1) ∷ [])
    × (offered d (break table code) ≡ key_event k 0 ∷ [])
    × AtRest (after d (make table code))
    × AtRest (after d (break table code))
    × (held (after d (make table code)).held k ≡ true)
    × (held (after d (break table code)).held k ≡ false)

-- a code: none of the prefixes, and none of AA, 00 and FF
abbrev pub IsCode : ℕ → Type 0
IsCode b = Each (λ x. b ≢ x) (0xaa ∷ 0x00 ∷ 0xff ∷ 0xe0 ∷ 0xe1 ∷ 0xf0 ∷ [])

-- The two codes after E1 offer nothing, whether or not F0 stands before them, and leave the decoder at rest with the same keys held.
abbrev pub TwoPassedOver : Type 0
TwoPassedOver =
    (d : Decoder) → d.deaf ≡ false → (b c : ℕ) → IsCode b → IsCode c
    → (offered d (0xe1 ∷ b ∷ c ∷ []) ≡ []) × (offered d (0xe1 ∷ 0xf0 ∷ b ∷ 0xf0 ∷ c ∷ []) ≡ [])
    × AtRest (after d (0xe1 ∷ b ∷ c ∷ [])) × AtRest (after d (0xe1 ∷ 0xf0 ∷ b ∷ 0xf0 ∷ c ∷ []))
    × ((after d (0xe1 ∷ b ∷ c ∷ [])).held ≡ d.held) × ((after d (0xe1 ∷ 0xf0 ∷ b ∷ 0xf0 ∷ c ∷ [])).held ≡ d.held)

pub record Laws : Type 0 where
  pub held_is_last_offered : HeldIsLastOffered
  pub deaf_presses_nothing : DeafPressesNothing
  pub make_and_break : MakeAndBreak
  pub two_passed_over : TwoPassedOver
