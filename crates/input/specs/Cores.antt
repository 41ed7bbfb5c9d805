-- A core as its users see it.
use Rattle.std.specs.Prelude.{ℕ, ◌+◌, Bool, false, cond, not, replicate, Some, None, Ok, Err, Option, Result, ◌==◌}
use Rattle.events.specs.declared.items.Item.{Item}
use Rattle.events.specs.Items.{item, loss_mark, report_end}
use Rattle.events.specs.declared.refusals.Refusal.{Refusal}
use Rattle.events.specs.declared.refusals.Refusal.TheVariants as refusal
use Rattle.parts.specs.Meaning.{Meaning}
use Rattle.model.specs.Core.{Core as Model, Client, Holder, with_seats, feed, is_open, is_free, seat_at, barred, most}
use Rattle.model.specs.Core.Holder.{nobody, held}
use Rattle.model.specs.Core.Seat.{free}
use Rattle.seats.specs.Rows.{rows}
use Rattle.seats.specs.declared.numbers.SeatNumber.{SeatNumber}
use Rattle.input.specs.declared.cores.Core.{Core}
use Rattle.model.specs.declared.Read.{Read}
use Rattle.model.specs.declared.Read.TheVariants.{ReportOpen, Barred}

-- who holds the grab
abbrev pub holder_of : Option SeatNumber → Holder
holder_of None = nobody
holder_of (Some s) = held s.number

-- what can be seen of a core: each ring as the list of the items that wait
abbrev pub shown : {P : Type 0} → Core P → Model P
shown k = record { device = k.device; state = k.state; reports = k.reports; time = k.time; reporting = k.reporting; holder = holder_of k.holder; seats = rows k.seats }

module _ {S : Type 0} (P : Meaning S) where
  -- a core just made
  abbrev pub fresh_core : ℕ → Model S
  fresh_core d = record { device = d; state = P.empty; reports = 0; time = 0; reporting = false; holder = nobody; seats = replicate 8 free }

  -- every fed seat gets the item
  abbrev pub fed : Item → Model S → Model S
  fed x k = with_seats k (feed k.holder x k.seats)

  -- whether a driver may start: 5 where the pile is not sound, 28 where the last report number is spent
  abbrev pub readiness : Model S → Result (Unit {0}) Refusal
  readiness k =
      cond (not P.sound) (Err refusal.UnsoundPile)
      (cond (k.reports == most) (Err refusal.ReportsSpent)
      (Ok tt))

  -- the grounds on which close, grab and read are refused alike
  abbrev pub admitted : Model S → Client S → Result (Unit {0}) Refusal
  admitted k c =
      cond (not P.sound) (Err refusal.UnsoundPile)
      (cond (not (is_open c.phase)) (Err refusal.NotOpen)
      (cond (not (c.device == k.device)) (Err refusal.OtherDevice)
      (cond (is_free (seat_at k.seats c.seat)) (Err refusal.NotOpen)
      (Ok tt))))

-- what a read that is due is answered for now, if anything
abbrev pub delayed : {S : Type 0} → Model S → ℕ → Option Read
delayed k s = cond k.reporting (Some ReportOpen) (cond (barred k.holder s) (Some Barred) None)

-- what the end of a grab leaves in the others' rings: a mark and a report end, or in an open report a mark alone, numbered one more
abbrev pub left_over : Bool → ℕ → ℕ → Item × Option Item
left_over reporting t n = cond reporting (item loss_mark t (n + 1), None) (item loss_mark t n, Some (item report_end t n))
