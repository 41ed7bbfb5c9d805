-- The clients of a slice as the clients of a world.
use Rattle.std.proofs.Common.{◌≡◌, ℕ, zero, suc, ◌<◌, false, List, [], ◌∷◌, length, get_or, set, sym, refl, arith}
use mathlib.Core.Path.{fun_ext}
use lib.ListN.{length-map}
use Rattle.std.proofs.lemmas.List.{map-set, get_or-map}
use Rattle.std.proofs.lemmas.Grind.{common_steps}
use Rattle.parts.specs.Meaning.{Meaning}
use Rattle.model.specs.Core.{Client as Reader, here}
use Rattle.model.specs.Runs.{put_client, Fresh}
use Rattle.input.specs.Clients.{held, fresh}
use Rattle.input.specs.declared.client.Client.{Client}
use Rattle.stage.proofs.Kept.{untouched}
use Rattle.std.proofs.lemmas.Bool.{ltb-true}
use Rattle.stage.specs.Worlds.{client_at, start, Strangers}

-- a client of the slice, and the clients after a write of one
module _ {S : Type 0} (P : Meaning S) (cs : List (Client S)) (i : ℕ) (x : Client S) (in_range : i < length cs) where
  pub slice_client : held (get_or cs i x) ≡ client_at P cs i
  slice_client = sym (get_or-map held cs i x (fresh P) in_range)

  put_at : (y : Client S) (j : ℕ) → client_at P (set cs i y) j ≡ put_client (client_at P cs) i (held y) j
  put_at y j = grind (arith, common_steps, map-set {A = Client S} {B = Reader S}, length-map {A = Client S} {B = Reader S})

  pub slice_put : (y : Client S) → client_at P (set cs i y) ≡ put_client (client_at P cs) i (held y)
  slice_put y = fun_ext (put_at y)

pub ruleset sliced = (slice_client, untouched, ltb-true)

-- a core just made, and clients none of which is open under its number
pub strangers_at : {S : Type 0} (P : Meaning S) (d : ℕ) (cs : List (Client S)) → Strangers d cs → (i : ℕ) → here d (client_at P cs i) ≡ false
strangers_at P d [] s i = refl
strangers_at P d (c ∷ cs) s zero = s.0
strangers_at P d (c ∷ cs) s (suc i) = strangers_at P d cs s.1 i

pub start_fresh : {S : Type 0} (P : Meaning S) (d : ℕ) (cs : List (Client S)) → Strangers d cs → Fresh P (start P d cs)
start_fresh P d cs s = record { empty = refl; none_ended = refl; no_time = refl; shut = refl; no_grab = refl; free = refl; strangers = strangers_at P d cs s }
