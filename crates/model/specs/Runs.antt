-- A core with its clients, one call after another, and the runs that they make.
use Rattle.std.specs.Prelude.{◌≡◌, ℕ, false, cond, List, [], ◌∷◌, replicate, ◌==◌}
use Rattle.parts.specs.Meaning.{Meaning}
use Rattle.model.specs.declared.Call.{Call}
use Rattle.model.specs.declared.Call.TheVariants.{Event as event, Report as report, Open as opening, Close as closing, Grab as grab, Release as release, Read as reading}
use Rattle.model.specs.Answers.{Answered}
use Rattle.model.specs.Core.{Client, Core, Left, Met, here}
use Rattle.model.specs.Core.Holder.{nobody}
use Rattle.model.specs.Core.Seat.{free}
use Rattle.model.specs.Calls.{event_call, report_call, open_call, close_call, grab_call, release_call}
use Rattle.model.specs.Reads.{read_call}

-- a core, and its clients by number
pub record World (S : Type 0) : Type 0 where
  pub core : Core S
  pub clients : ℕ → Client S

-- the world after a call, with the answer
pub record Out (S : Type 0) : Type 0 where
  pub world : World S
  pub answer : Answered

abbrev pub put_client : {S : Type 0} → (ℕ → Client S) → ℕ → Client S → ℕ → Client S
put_client f i c j = cond (i == j) c (f j)

abbrev pub on_core : {S : Type 0} → World S → Left S → Out S
on_core w o = record { world = record { core = o.core; clients = w.clients }; answer = o.answer }

abbrev pub on_client : {S : Type 0} → World S → ℕ → Met S → Out S
on_client w i m = record { world = record { core = m.core; clients = put_client w.clients i m.client }; answer = m.answer }

module _ {S : Type 0} (P : Meaning S) where
  -- one call
  unfoldable pub step : World S → Call → Out S
  step w (event t e) = on_core w (event_call P w.core t e)
  step w (report t) = on_core w (report_call P w.core t)
  step w (opening i s capacity) = on_client w i (open_call P w.core (w.clients i) s capacity)
  step w (closing i) = on_client w i (close_call P w.core (w.clients i))
  step w (grab i) = on_core w (grab_call P w.core (w.clients i))
  step w (release d s t) = on_core w (release_call P w.core d s t)
  step w (reading i) = on_client w i (read_call P w.core (w.clients i))

  -- a core just made, and no client open under its number
  pub record Fresh (w : World S) : Type 0 where
    pub empty : w.core.state ≡ P.empty
    pub none_ended : w.core.reports ≡ 0
    pub no_time : w.core.time ≡ 0
    pub shut : w.core.reporting ≡ false
    pub no_grab : w.core.holder ≡ nobody
    pub free : w.core.seats ≡ replicate 8 free
    pub strangers : (i : ℕ) → here w.core.device (w.clients i) ≡ false

-- a call that was made, with what it was answered
pub record Turn : Type 0 where
  pub call : Call
  pub answer : Answered

-- The turns that lead from one world to another. Between them calls may be made to other cores: none bears this core's number,
-- so a client that they touch is open here neither before nor after.
module _ {S : Type 0} (P : Meaning S) where
  pub data Run : World S → List Turn → World S → Type 0 where
    rest : {w : World S} → Run w [] w
    turn : {w v : World S} {ts : List Turn} (c : Call) → Run (step P w c).world ts v → Run w (record { call = c; answer = (step P w c).answer } ∷ ts) v
    elsewhere : {w v : World S} {ts : List Turn} (i : ℕ) (c : Client S)
        → here w.core.device (w.clients i) ≡ false → here w.core.device c ≡ false
        → Run (record { core = w.core; clients = put_client w.clients i c }) ts v → Run w ts v
