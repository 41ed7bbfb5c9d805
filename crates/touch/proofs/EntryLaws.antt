-- The entries of a record, eight bytes at a time.
use Rattle.std.proofs.Common.{◌≡◌, ℕ, suc, ◌/◌, Bool, ltb, ◌||◌, List, [], ◌∷◌, ◌++◌, length, get_or, map, refl, ap, arith, length-append}
use Rattle.std.proofs.lemmas.List.{take_at, drop_at}
use Rattle.std.specs.List.{list_any}
use Rattle.touch.specs.Entries.{entry_of, entries_of, some_above}

-- the slot of an entry is its first byte
pub above_chunks : (chunks : List (List ℕ)) → list_any (λ c. ltb 9 (get_or c 0 0)) chunks ≡ some_above (map entry_of chunks)
above_chunks [] = refl
above_chunks (c ∷ cs) = ap (λ (b : Bool). ltb 9 (get_or c 0 0) || b) (above_chunks cs)

-- the first eight bytes are the first entry, and the others come after it
pub entries_more : (bs xs ys : List ℕ) → bs ≡ xs ++ ys → length xs ≡ 8 → entries_of bs ≡ entry_of xs ∷ entries_of ys
entries_more bs xs ys e h =
    let long : length (xs ++ ys) / 8 ≡ suc (length ys / 8) = omega (arith, length-append xs ys) in
    rw (e, long, take_at xs ys 8 h, drop_at xs ys 8 h) refl
