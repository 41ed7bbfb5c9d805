-- What a byte offers: no event, one, or the release of every held key.
use Rattle.std.specs.Prelude.{◌≡◌, ℕ, List, [], ◌∷◌, map, drop, pos, Some, None, Option}
use Rattle.events.specs.declared.items.Event.{Event}
use Rattle.keys.specs.KeySet.{held_codes}
use Rattle.decoder.specs.declared.offers.Offer.{Offer}
use Rattle.decoder.specs.declared.offers.Offer.TheVariants.{Nothing, One, Releases}

-- an event of a key: type 1, the key as its code
abbrev pub key_event : ℕ → ℕ → Event
key_event k v = record { kind = 1; code = k; value = pos v }

-- the release of a key
abbrev pub release : ℕ → Event
release k = key_event k 0

-- the events of an offer; the releases go from the smallest code up
abbrev pub events_of : Offer → List Event
events_of Nothing = []
events_of (One e) = e ∷ []
events_of (Releases s) = map release (held_codes s)

-- the first of a list, if there is one
abbrev pub first_of : {T : Type 0} → List T → Option T
first_of [] = None
first_of (x ∷ xs) = Some x

-- going through an offer: its first event comes, and the others are left
abbrev pub gives : Offer → Option Event → Offer → Type 0
gives o r p = (r ≡ first_of (events_of o)) × (events_of p ≡ drop 1 (events_of o))
