-- The walk from one state of a part to another.
use Rattle.std.specs.Prelude.{◌≡◌, ℕ, zero, suc, true, false, List, [], ◌∷◌, length, Some, None, Ok, Err, fold, Result, ◌≢◌}
use Rattle.events.specs.declared.items.Event.{Event}
use Rattle.events.specs.Refusals.{number_of}
use Rattle.parts.specs.declared.Verdict.TheVariants.{Change}
use Rattle.events.specs.declared.failures.Failure.{Failure}
use Rattle.events.specs.declared.failures.Failure.TheVariants.{Refused, NoMemory}
use Rattle.parts.specs.Meaning.{Meaning}

-- the state after the next event towards t
abbrev pub stepped : {S : Type 0} → Meaning S → S → S → S
stepped m s t = elim (m.next s t) [ None ↦ s | Some e ↦ m.taken s e ]

-- the next events towards t from s, at most n of them
unfoldable pub steps : {S : Type 0} → Meaning S → ℕ → S → S → List Event
steps m zero s t = []
steps m (suc n) s t = elim (m.next s t) [ None ↦ [] | Some e ↦ e ∷ steps m n (m.taken s e) t ]

-- the walk from s to t: as many of the next events as the distance says
abbrev pub walk : {S : Type 0} → Meaning S → S → S → List Event
walk m s t = steps m (m.distance s t) s t

-- the state after a list of events
abbrev pub after : {S : Type 0} → Meaning S → S → List Event → S
after m s es = fold m.taken s es

-- each event is the next one and a change where it is taken, and before it the state is not t; after the last the state is t and there is no next event
abbrev pub Stepwise : {S : Type 0} → Meaning S → S → S → List Event → Type 0
Stepwise m s t [] = (s ≡ t) × (m.next s t ≡ None)
Stepwise m s t (e ∷ es) = (m.next s t ≡ Some e) × (m.verdict s e ≡ Change) × (s ≢ t) × Stepwise m (m.taken s e) t es

-- what is true of the walk from s to t
pub record Led {S : Type 0} (m : Meaning S) (s t : S) : Type 0 where
  pub count : length (walk m s t) ≡ m.distance s t
  pub arrives : after m s (walk m s t) ≡ t
  pub stepwise : Stepwise m s t (walk m s t)

-- from any state to any target the walk has as many events as the distance says, leads to exactly the target, and reaches it only at its end
abbrev pub WalkLeads : {S : Type 0} → Meaning S → Type 0
WalkLeads {S} m = (s t : S) → Led m s t

-- a route is refused, by number 5, exactly where the part is not sound
abbrev pub Refuses : {S V : Type 0} → Meaning S → Result V Failure → Type 0
Refuses m (Ok v) = m.sound ≡ true
Refuses m (Err NoMemory) = m.sound ≡ true
Refuses m (Err (Refused r)) = (m.sound ≡ false) × (number_of r ≡ 5)
