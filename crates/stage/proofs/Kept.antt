-- No call but grab and release touches the device's number and the holder; and what these two do to a grab that is kept.
use Rattle.std.proofs.Common.{◌≡◌, ℕ, true, false, cond, ◌&&◌, eqb, Some, None, Option, refl, arith}
use Rattle.std.proofs.lemmas.Bool.{false≢true}
use Rattle.events.specs.declared.items.Event.{Event}
use Rattle.parts.specs.Meaning.{Meaning}
use Rattle.model.specs.Answers.{refused, number, granted}
use Rattle.model.specs.Core.{Core, Client, Holder, left, is_held, holds}
use Rattle.model.specs.Core.Holder.{nobody, held}
use Rattle.model.specs.Calls.{event_call, report_call, open_call, close_call, grab_call, release_call}
use Rattle.model.specs.Reads.{read_call}
use Rattle.input.specs.declared.cores.Grab.{Grab}
use Rattle.stage.specs.Kept.{Kept, tied, bears}

-- what both cores have in common
abbrev pub Untouched : {S : Type 0} → Core S → Core S → Type 0
Untouched k l = (l.device ≡ k.device) × (l.holder ≡ k.holder)

module _ {S : Type 0} (P : Meaning S) (k : Core S) where
  pub untouched_event : (t : ℕ) (e : Event) → Untouched k (event_call P k t e).core
  unfolding event_call
  untouched_event t e = (grind arith, grind arith)

  pub untouched_report : (t : ℕ) → Untouched k (report_call P k t).core
  unfolding report_call
  untouched_report t = (grind arith, grind arith)

  pub untouched_open : (c : Client S) (s capacity : ℕ) → Untouched k (open_call P k c s capacity).core
  unfolding open_call
  untouched_open c s capacity = (grind arith, grind arith)

  pub untouched_close : (c : Client S) → Untouched k (close_call P k c).core
  unfolding close_call
  untouched_close c = (grind arith, grind arith)

  pub untouched_read : (c : Client S) → Untouched k (read_call P k c).core
  unfolding read_call
  untouched_read c = (grind arith, grind arith)

pub ruleset untouched = (untouched_event, untouched_report, untouched_open, untouched_close, untouched_read)

-- so the grab that is out stays the one held
pub still_kept : {S : Type 0} (o : Option Grab) (k l : Core S) → Untouched k l → Kept o k → Kept o l
still_kept o k l u h = rw (u.0, u.1) h

-- nobody holds, or the kept grab's seat does, at the grab's device
abbrev Tie : Option Grab → ℕ → Holder → Type 0
Tie None d h = h ≡ nobody
Tie (Some g) d h = (g.device ≡ d) × (h ≡ held g.seat.number)

-- which is what `tied` says
pub tie : (o : Option Grab) (d : ℕ) (h : Holder) → tied o d h ≡ true → Tie o d h
tie None d nobody e = refl
tie None d (held n) e = absurd (false≢true e)
tie (Some g) d nobody e = absurd (false≢true e)
tie (Some g) d (held n) e = (grind arith, grind arith)

-- where nobody holds, no grab is kept
none_kept : (o : Option Grab) (d : ℕ) (h : Holder) → tied o d h ≡ true → is_held h ≡ false → o ≡ None
none_kept None d h e f = refl
none_kept (Some g) d h e f = let t = tie (Some g) d h e in grind arith

-- where a grab is answered none was kept, and its own is kept then
pub grab_kept : {S : Type 0} (P : Meaning S) (o : Option Grab) (k : Core S) (h : Kept o k) (c : Client S) (d s : ℕ) → (grab_call P k c).answer ≡ granted d s
    → (o ≡ None) × ((g : Grab) → g.device ≡ d → g.seat.number ≡ s → Kept (Some g) (grab_call P k c).core)
unfolding grab_call
grab_kept P o k h c d s e = (none_kept o k.device k.holder h (grind arith), λ g x y. grind arith)

-- a release that is answered leaves nobody holding
pub released : {S : Type 0} (P : Meaning S) (k : Core S) (d s t n : ℕ) → (release_call P k d s t).answer ≡ number n → Kept None (release_call P k d s t).core
unfolding release_call
released P k d s t n e = grind arith

-- the kept grab is released, where the pile is sound
pub spent : {S : Type 0} (P : Meaning S) (g : Grab) (k : Core S) → Kept (Some g) k → (t : ℕ) → P.sound ≡ true → (release_call P k g.device g.seat.number t).answer ≡ number 0
unfolding release_call
spent P g k h t so = let e = tie (Some g) k.device k.holder h in grind arith

-- another grab than the kept one is not the one held
not_held : (o : Option Grab) (d n s : ℕ) (h : Holder) → tied o n h ≡ true → bears o d s ≡ false → (eqb d n && holds h s) ≡ false
not_held None d n s h e f = let t = tie None n h e in grind arith
not_held (Some g) d n s h e f = let t = tie (Some g) n h e in grind arith

-- and is refused, with the core left as it was
pub not_released : {S : Type 0} (P : Meaning S) (o : Option Grab) (k : Core S) (h : Kept o k) (d s t : ℕ) → bears o d s ≡ false
    → release_call P k d s t ≡ left k (refused (cond P.sound 26 5))
unfolding release_call
not_released P o k h d s t f = let n = not_held o d k.device s k.holder h f in grind arith
