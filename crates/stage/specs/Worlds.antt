-- The world that a running core and a slice of clients are.
use Rattle.std.specs.Prelude.{◌≡◌, ℕ, false, List, map, slice_index_or}
use Rattle.std.specs.List.{AllByRecursion as Each}
use Rattle.parts.specs.Meaning.{Meaning}
use Rattle.model.specs.Core.{Core as Model, Client as Reader, here}
use Rattle.model.specs.Runs.{World}
use Rattle.input.specs.Clients.{held, fresh}
use Rattle.input.specs.Cores.{fresh_core}
use Rattle.input.specs.declared.client.Client.{Client}

module _ {S : Type 0} (P : Meaning S) where
  -- the client at a place; past the end none is open
  abbrev pub client_at : List (Client S) → ℕ → Reader S
  client_at cs i = slice_index_or (map held cs) i (fresh P)

  -- a core with these clients
  abbrev pub world : Model S → List (Client S) → World S
  world k cs = record { core = k; clients = client_at cs }

  -- a core just made, with these clients
  abbrev pub start : ℕ → List (Client S) → World S
  start d cs = world (fresh_core P d) cs

-- no client is open under the device number
abbrev pub Strangers : {S : Type 0} → ℕ → List (Client S) → Type 0
Strangers d cs = Each (λ c. here d (held c) ≡ false) cs
