-- What a part means, and the laws that every sound part owes.
use Rattle.std.specs.Prelude.{◌≡◌, ℕ, suc, ◌<◌, ◌≤◌, Bool, Some, None, Option, ◌≢◌}
use Rattle.events.specs.declared.items.Event.{Event}
use Rattle.events.specs.Items.{address}
use Rattle.parts.specs.declared.Verdict.{Verdict}
use Rattle.parts.specs.declared.Verdict.TheVariants.{Stranger, Change}

-- what a part with states S means: the addresses that it runs from and to, whether it is sound, its empty state, its verdict on an event, the state
-- after an event is taken, how far it is from one state to another, and the next event on that way
pub record Meaning (S : Type 0) : Type 0 where
  pub first : ℕ
  pub last : ℕ
  pub sound : Bool
  pub empty : S
  pub verdict : S → Event → Verdict
  pub taken : S → Event → S
  pub distance : S → S → ℕ
  pub next : S → S → Option Event

-- the four laws of a sound part
pub record Laws {S : Type 0} (m : Meaning S) : Type 0 where
  -- law 1: the first address is at least 65536, the last no smaller; outside them the verdict is stranger
  pub low : 65536 ≤ m.first
  pub ordered : m.first ≤ m.last
  pub below : (s : S) (e : Event) → address e < m.first → m.verdict s e ≡ Stranger
  pub above : (s : S) (e : Event) → m.last < address e → m.verdict s e ≡ Stranger
  -- law 2: taking a change gives another state, taking anything else leaves the state
  pub moves : (s : S) (e : Event) → m.verdict s e ≡ Change → m.taken s e ≢ s
  pub stays : (s : S) (e : Event) → (m.verdict s e ≢ Change) → m.taken s e ≡ s
  -- law 3: the distance is zero exactly for equal states
  pub apart : (s t : S) → m.distance s t ≡ 0 → s ≡ t
  pub together : (s : S) → m.distance s s ≡ 0
  -- law 4: the next event is none exactly at distance zero; otherwise its verdict is change, and the distance after taking it is one smaller
  pub done : (s t : S) → m.next s t ≡ None → m.distance s t ≡ 0
  pub none : (s t : S) → m.distance s t ≡ 0 → m.next s t ≡ None
  pub changes : (s t : S) (e : Event) → m.next s t ≡ Some e → m.verdict s e ≡ Change
  pub nearer : (s t : S) (e : Event) → m.next s t ≡ Some e → suc (m.distance (m.taken s e) t) ≡ m.distance s t
