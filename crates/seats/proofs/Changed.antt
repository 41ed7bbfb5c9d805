-- A table of seats, of which one, or each, is changed, as its rows show it.
use Rattle.std.proofs.Common.{◌≡◌, ℕ, ◌<◌, List, map, length, get_or, set, None, Option, sym, ap, ◌∙◌, arith}
use Rattle.std.proofs.lemmas.List.{map-set, get_or_default, same_lists}
use Rattle.std.proofs.lemmas.List as list
use lib.ListN.{get_or-map, length-map}
use Rattle.events.specs.declared.items.Item.{Item}
use Rattle.ring.specs.declared.RingItem.{Ghosts}
use Rattle.ring.specs.declared.owned.Ring.{Ring}
use Rattle.model.specs.Core.{Seat as Place}
use Rattle.model.specs.Core.Seat.{free}
use Rattle.seats.specs.Seen.{seen}
use Rattle.seats.specs.Rows.{change}

module _ {N : ℕ} {g : Ghosts Item} (seats : List (Option (Ring Item N g))) where
  -- the row of a seat
  pub row_at : (k : ℕ) → get_or (map seen seats) k free ≡ seen (get_or seats k None)
  row_at k = get_or-map seen seats k None

  -- the row of a seat with a function on it
  pub row_under : (f : Place → Place) (k : ℕ) → f free ≡ free → get_or (map f (map seen seats)) k free ≡ f (seen (get_or seats k None))
  row_under f k e = ap (get_or (map f (map seen seats)) k) (sym e) ∙ get_or-map f (map seen seats) k free ∙ ap f (row_at k)

  -- one seat changed
  pub seat_changed : (f : Place → Place) (i : ℕ) (old new : Option (Ring Item N g)) → i < length seats → seen new ≡ f (seen (get_or seats i old)) → map seen (set seats i new) ≡ change f i (map seen seats)
  seat_changed f i old new inside k =
      map-set seen seats i new ∙ ap (set (map seen seats) i) (k ∙ ap f (sym (list.get_or-map seen seats i old free inside)))

  -- the rows, one by one
  pub rows_are : (places : List Place) → length seats ≡ length places → ((k : ℕ) → k < length seats → seen (get_or seats k None) ≡ get_or places k free) → map seen seats ≡ places
  rows_are places e each =
      same_lists (map seen seats) places (simp length-map e) (λ k d h.
      let inside : k < length seats = simp length-map at h in
      list.get_or-map seen seats k None d inside ∙ each k inside ∙ get_or_default places k free d (omega arith))

pub ruleset one_row = (map-set)
