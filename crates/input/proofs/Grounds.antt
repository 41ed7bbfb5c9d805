-- The grounds that close, grab and read share, against the model's.
use Rattle.std.proofs.Common.{◌≡◌, ℕ, false, Ok, Err, arith}
use Rattle.std.proofs.lemmas.Grind.{common_steps}
use Rattle.events.specs.declared.refusals.Refusal.{Refusal}
use Rattle.events.specs.Refusals.{number_of}
use Rattle.parts.specs.Meaning.{Meaning}
use Rattle.model.specs.Core.{Core, Client, met, left, is_free, seat_at, waiting}
use Rattle.model.specs.Calls.{for_client, close_call, grab_call}
use Rattle.model.specs.Reads.{look, looked, read_call}
use Rattle.input.specs.Cores.{admitted}

module _ {S : Type 0} (P : Meaning S) (k : Core S) (c : Client S) {A : Type 0} (r : ℕ → A) (o : A) where
  -- on a ground, a call that stands under the grounds is refused by that ground's number
  pub not_admitted : (e : Refusal) → admitted P k c ≡ Err e → for_client P r k c o ≡ r (number_of e)
  not_admitted e h = grind arith

  -- on none, it does what it is for
  pub is_admitted : (u : Unit {0}) → admitted P k c ≡ Ok u → for_client P r k c o ≡ o
  is_admitted u h = grind arith

module _ {S : Type 0} (P : Meaning S) (k : Core S) (c : Client S) where
  -- so each of the three calls leaves the core and the client as they were
  pub close_refused : (e : Refusal) → admitted P k c ≡ Err e → close_call P k c ≡ met k c (Err e)
  unfolding close_call
  close_refused e h = grind arith

  pub grab_refused : (e : Refusal) → admitted P k c ≡ Err e → grab_call P k c ≡ left k (Err e)
  unfolding grab_call
  grab_refused e h = grind arith

  pub read_refused : (e : Refusal) → admitted P k c ≡ Err e → read_call P k c ≡ met k c (Err e)
  unfolding read_call
  read_refused e h = grind (arith, common_steps)

  pub read_admitted : admitted P k c ≡ Ok tt → read_call P k c ≡ looked P k c (look P k (waiting (seat_at k.seats c.seat)) c c.phase)
  unfolding read_call
  read_admitted h = grind (arith, common_steps)

  -- where no ground holds, the client's seat is open
  pub admitted_seat : (u : Unit {0}) → admitted P k c ≡ Ok u → is_free (seat_at k.seats c.seat) ≡ false
  admitted_seat u h = grind arith
