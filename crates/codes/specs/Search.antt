-- A test of numbers, tried on the n numbers from c on.
use Rattle.std.specs.Prelude.{ℕ, zero, suc, ◌+◌, Bool, cond, List, [], ◌∷◌, Some, None, Option}

-- the smallest that passes the test p
unfoldable pub smallest : (ℕ → Bool) → ℕ → ℕ → Option ℕ
smallest p c zero = None
smallest p c (suc n) = cond (p c) (Some c) (smallest p (suc c) n)

-- how many pass
unfoldable pub counted : (ℕ → Bool) → ℕ → ℕ → ℕ
counted p c zero = 0
counted p c (suc n) = cond (p c) 1 0 + counted p (suc c) n

-- those that pass, ascending
unfoldable pub ascending : (ℕ → Bool) → ℕ → ℕ → List ℕ
ascending p c zero = []
ascending p c (suc n) = cond (p c) (c ∷ ascending p (suc c) n) (ascending p (suc c) n)
