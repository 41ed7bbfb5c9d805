-- The calls on a core but read: event, report, open, close, grab and release, each with its refusals in order.
use Rattle.std.specs.Prelude.{ℕ, suc, true, false, cond, not, ◌&&◌, [], map, ◌==◌, nat_le, slice_set}
use Rattle.events.specs.Items.{item, report_end}
use Rattle.ring.specs.Waiting.{is_capacity}
use Rattle.parts.specs.Meaning.{Meaning}
use Rattle.model.specs.Answers.{refused, number, granted}
use Rattle.events.specs.declared.items.Event.{Event}
use Rattle.parts.specs.declared.Verdict.{Verdict}
use Rattle.parts.specs.declared.Verdict.TheVariants.{Stranger, BadValue, Same, Passing, Change}
use Rattle.model.specs.declared.Phase.TheVariants.{NotOpen, Due}
use Rattle.model.specs.Core.{Client, Core, Left, Met, seat_at, is_free, is_open, holds, is_held, feed, mark_seat, left, met, with_seats, with_holder, most}
use Rattle.model.specs.Core.Holder.{nobody, held}
use Rattle.model.specs.Core.Seat.{free, taken_by}

module _ {S : Type 0} (P : Meaning S) where
  -- an event that is told to clients: the state takes it, a report is open, and every fed seat gets it, numbered reports ended + 1
  abbrev pub accepted : Core S → ℕ → Event → Core S
  accepted k t e =
      record { device = k.device; state = P.taken k.state e; reports = k.reports; time = k.time; reporting = true; holder = k.holder; seats = feed k.holder (item e t (suc k.reports)) k.seats }

  -- the end of a report: the number rises by one, and every fed seat gets a report end with it
  abbrev pub ended : Core S → ℕ → Core S
  ended k t =
      record { device = k.device; state = k.state; reports = suc k.reports; time = t; reporting = false; holder = k.holder; seats = feed k.holder (item report_end t (suc k.reports)) k.seats }

  -- refusals 1, 2 and 28 come before answers
  abbrev pub judged : Core S → ℕ → Event → Verdict → Left S
  judged k t e Stranger = left k (refused 1)
  judged k t e BadValue = left k (refused 2)
  judged k t e Same = cond (k.reports == most) (left k (refused 28)) (left k (number 0))
  judged k t e Passing = cond (k.reports == most) (left k (refused 28)) (left (accepted k t e) (number 1))
  judged k t e Change = cond (k.reports == most) (left k (refused 28)) (left (accepted k t e) (number 1))

  -- event: 5, 1, 2, 28; 0 for same, 1 for passing or change
  unfoldable pub event_call : Core S → ℕ → Event → Left S
  event_call k t e = cond (not P.sound) (left k (refused 5)) (judged k t e (P.verdict k.state e))

  -- report: 5; 0 with no report open, else the number of the report that it ends
  unfoldable pub report_call : Core S → ℕ → Left S
  report_call k t =
      cond (not P.sound) (left k (refused 5))
      (cond k.reporting (left (ended k t) (number (suc k.reports))) (left k (number 0)))

  -- a client that is just open: nothing seen yet, due to be caught up
  abbrev pub opened : Core S → ℕ → Client S
  opened k s =
      record { phase = Due; state = P.empty; target = P.empty; device = k.device; seat = s }

  -- a client that was closed
  abbrev pub shut : Client S → Client S
  shut c =
      record { phase = NotOpen; state = P.empty; target = P.empty; device = c.device; seat = c.seat }

  -- open: 5, 4, 3, 22, 21; the seat opens with an empty ring
  unfoldable pub open_call : Core S → Client S → ℕ → ℕ → Met S
  open_call k c s capacity =
      cond (not P.sound) (met k c (refused 5))
      (cond (nat_le 8 s) (met k c (refused 4))
      (cond (not (is_capacity capacity)) (met k c (refused 3))
      (cond (is_open c.phase) (met k c (refused 22))
      (cond (not (is_free (seat_at k.seats s))) (met k c (refused 21))
      (met (with_seats k (slice_set k.seats s (taken_by capacity []))) (opened k s) (number 0))))))

  -- close, grab and read: 5, 23, 24, and 23 again where the client's seat at this core is not open
  abbrev pub for_client : {A : Type 0} → (ℕ → A) → Core S → Client S → A → A
  for_client no_way k c o =
      cond (not P.sound) (no_way 5)
      (cond (not (is_open c.phase)) (no_way 23)
      (cond (not (c.device == k.device)) (no_way 24)
      (cond (is_free (seat_at k.seats c.seat)) (no_way 23)
      o)))

  -- close: 27; the seat is free
  unfoldable pub close_call : Core S → Client S → Met S
  close_call k c =
      for_client (λ n. met k c (refused n)) k c
      (cond (holds k.holder c.seat) (met k c (refused 27))
      (met (with_seats k (slice_set k.seats c.seat free)) (shut c) (number 0)))

  -- grab: 25; a grab of device number and seat is handed out
  unfoldable pub grab_call : Core S → Client S → Left S
  grab_call k c =
      for_client (λ n. left k (refused n)) k c
      (cond (is_held k.holder) (left k (refused 25))
      (left (with_holder k (held c.seat) k.seats) (granted k.device c.seat)))

  -- release: 5, 26; every other open seat's ring is emptied and marked
  unfoldable pub release_call : Core S → ℕ → ℕ → ℕ → Left S
  release_call k d s t =
      cond (not P.sound) (left k (refused 5))
      (cond (not (d == k.device && holds k.holder s)) (left k (refused 26))
      (left (with_holder k nobody (slice_set (map (mark_seat k.reporting t k.reports) k.seats) s (seat_at k.seats s))) (number 0)))
