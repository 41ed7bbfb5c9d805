-- What takes leave of the readable items.
use Rattle.std.proofs.Common.{◌≡◌, suc, Bool, List, [], ◌∷◌, refl, arith}
use Rattle.std.proofs.lemmas.Bool.Decides.{nat_tests}
use Rattle.ring.specs.Waiting.{none, one, take_of, readable_of, readable_items, unreadable_items}
use Rattle.ring.proofs.Rotation.{closed_readable, readable_drop}

module _ {T : Type 0} (closing : T → Bool) where
  -- the item was the first that waited
  pub took_first : (ws : List T) (x : T) (rest : List T) → take_of closing ws ≡ one x rest → ws ≡ x ∷ rest
  took_first [] x rest e = cc
  took_first (y ∷ ws) x rest e = grind arith

  -- a take that finds an item removes the first readable one
  pub took_one : (ws : List T) (x : T) (rest : List T) → take_of closing ws ≡ one x rest
      → (readable_items closing ws ≡ x ∷ readable_items closing rest) × (unreadable_items closing ws ≡ unreadable_items closing rest)
  took_one [] x rest e = cc
  took_one (y ∷ ws) x rest e =
      let c = closed_readable closing (y ∷ ws) in
      let n : readable_of closing (y ∷ ws) ≡ suc (readable_of closing ws) = grind (arith, nat_tests, readable_drop closing (y ∷ ws)) in
      let same = took_first (y ∷ ws) x rest e in
      (rw n cc, rw n cc)

  -- a take that finds nothing: nothing is readable
  pub took_none : (ws : List T) → take_of closing ws ≡ none → (readable_items closing ws ≡ []) × (unreadable_items closing ws ≡ ws)
  took_none [] e = (refl, refl)
  took_none (y ∷ ws) e =
      let c = closed_readable closing (y ∷ ws) in
      (grind (arith, nat_tests), grind (arith, nat_tests))
