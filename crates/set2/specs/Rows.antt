-- Rows of eight codes, one after another from code 0 on.
use Rattle.std.specs.Prelude.{ℕ, ◌-◌, List, ◌++◌, length, replicate}
use Rattle.std.specs.List.{flat_map}

-- A list by code, filled up with 0 to all 256 codes.
abbrev pub filled : List ℕ → List ℕ
filled keys = keys ++ replicate (256 - length keys) 0

-- The rows one after another, by code.
abbrev pub by_code : List (List ℕ) → List ℕ
by_code rows = filled (flat_map (λ row. row) rows)
