-- The report end that an answer tells, and how.
use Rattle.std.specs.Prelude.{ℕ, Bool, true, false, cond, List, Some, None, Option, codes}
use Rattle.events.specs.Items.{is_report_end}
use Rattle.events.specs.declared.items.Item.{Item}
use Rattle.model.specs.declared.Answer.{Answer}
use Rattle.model.specs.declared.Answer.TheVariants.{Read}
use Rattle.model.specs.declared.Read.TheVariants.{Live as read_live, CaughtUp as read_caught_up}
use Rattle.player.specs.declared.listing.Told.{Told}
use Rattle.player.specs.declared.listing.Told.TheVariants.{Live, CaughtUp}

-- whether it was told live, as a line says it
abbrev pub is_live : Told → Bool
is_live Live = true
is_live CaughtUp = false

-- L for live, C for caught up
abbrev pub told_letter : Told → List ℕ
told_letter Live = codes "L"
told_letter CaughtUp = codes "C"

-- an item that is a report end, with how it was told
abbrev pub if_end : Item → Told → Option (Item × Told)
if_end x l = cond (is_report_end x) (Some (x, l)) None

-- a report end that was told live or caught up
abbrev pub told_end : Answer → Option (Item × Told)
told_end (Read (read_live x)) = if_end x Live
told_end (Read (read_caught_up x)) = if_end x CaughtUp
told_end _ = None
