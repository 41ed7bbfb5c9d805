-- Scan code set 2: the key that each scan code stands for.
use Rattle.std.specs.Prelude.{◌≡◌, ℕ, ◌+◌, ◌-◌, ◌≤◌, Bool, true, cond, not, ◌&&◌, ◌||◌, List, [], ◌∷◌, ◌++◌, length, replicate, Some, None, Option, ◌==◌, nat_le, slice_index}
use Rattle.set2.specs.Rows.{filled}
use Rattle.set2.specs.declared.Table.{Table}
use Rattle.set2.specs.declared.Table.TheVariants.{Plain, Extended}

-- The keys of consecutive scan codes from the first on, 0 for none.
pub record Row : Type 0 where
  pub first : ℕ
  pub keys : List ℕ

-- A row: its first code and its keys.
abbrev pub row : ℕ → List ℕ → Row
row code keys = record { first = code; keys = keys }

-- The rows of the plain scan codes.
abbrev pub plain_rows : List Row
plain_rows =
    row 0x01 (67 ∷ 0 ∷ 63 ∷ 61 ∷ 59 ∷ 60 ∷ 88 ∷ 0 ∷ 68 ∷ 66 ∷ 64 ∷ 62 ∷ 15 ∷ 41 ∷ []) ∷
    row 0x11 (56 ∷ 42 ∷ 0 ∷ 29 ∷ 16 ∷ 2 ∷ 0 ∷ 0 ∷ 0 ∷ 44 ∷ 31 ∷ 30 ∷ 17 ∷ 3 ∷ []) ∷
    row 0x21 (46 ∷ 45 ∷ 32 ∷ 18 ∷ 5 ∷ 4 ∷ 0 ∷ 0 ∷ 57 ∷ 47 ∷ 33 ∷ 20 ∷ 19 ∷ 6 ∷ []) ∷
    row 0x31 (49 ∷ 48 ∷ 35 ∷ 34 ∷ 21 ∷ 7 ∷ 0 ∷ 0 ∷ 0 ∷ 50 ∷ 36 ∷ 22 ∷ 8 ∷ 9 ∷ []) ∷
    row 0x41 (51 ∷ 37 ∷ 23 ∷ 24 ∷ 11 ∷ 10 ∷ 0 ∷ 0 ∷ 52 ∷ 53 ∷ 38 ∷ 39 ∷ 25 ∷ 12 ∷ []) ∷
    row 0x52 (40 ∷ 0 ∷ 26 ∷ 13 ∷ 0 ∷ 0 ∷ 58 ∷ 54 ∷ 28 ∷ 27 ∷ 0 ∷ 43 ∷ []) ∷
    row 0x66 (14 ∷ []) ∷
    row 0x69 (79 ∷ 0 ∷ 75 ∷ 71 ∷ []) ∷
    row 0x70 (82 ∷ 83 ∷ 80 ∷ 76 ∷ 77 ∷ 72 ∷ 1 ∷ 69 ∷ 87 ∷ 78 ∷ 81 ∷ 74 ∷ 55 ∷ 73 ∷ 70 ∷ []) ∷
    row 0x83 (65 ∷ []) ∷
    []

-- The rows of the scan codes that follow the byte E0.
abbrev pub extended_rows : List Row
extended_rows =
    row 0x11 (100 ∷ []) ∷
    row 0x14 (97 ∷ []) ∷
    row 0x4A (98 ∷ []) ∷
    row 0x5A (96 ∷ []) ∷
    row 0x69 (107 ∷ []) ∷
    row 0x6B (105 ∷ []) ∷
    row 0x6C (102 ∷ []) ∷
    row 0x70 (110 ∷ []) ∷
    row 0x71 (111 ∷ []) ∷
    row 0x72 (108 ∷ []) ∷
    row 0x74 (106 ∷ []) ∷
    row 0x75 (103 ∷ []) ∷
    row 0x7A (109 ∷ []) ∷
    row 0x7C (99 ∷ []) ∷
    row 0x7D (104 ∷ []) ∷
    []

-- Rows laid out by code, from one code on.
abbrev pub laid : ℕ → List Row → List ℕ
laid code [] = []
laid code (r ∷ rs) = replicate (r.first - code) 0 ++ (r.keys ++ laid (r.first + length r.keys) rs)

-- The keys of a table by code, 0 for none.
abbrev pub keys_of : Table → List ℕ
keys_of Plain = filled (laid 0 plain_rows)
keys_of Extended = filled (laid 0 extended_rows)

-- The number that a table has for a code, 0 for none.
abbrev pub number_of : Table → ℕ → ℕ
number_of table code = slice_index (keys_of table) code

-- A number as a key, unless it is 0.
abbrev pub listed : ℕ → Option ℕ
listed number = cond (number == 0) None (Some number)

-- The key that a scan code stands for.
unfoldable pub key_of : Table → ℕ → Option ℕ
key_of table code = listed (number_of table code)

-- The keys of both tables, one after the other.
abbrev pub all_keys : List ℕ
all_keys = keys_of Plain ++ keys_of Extended

-- A key does not stand in a list.
abbrev pub absent : ℕ → List ℕ → Bool
absent key [] = true
absent key (k ∷ ks) = not (key == k) && absent key ks

-- No key of a list stands twice, and none is above 767; 0 is no key.
abbrev pub once : List ℕ → Bool
once [] = true
once (k ∷ ks) = (k == 0 || (nat_le k 767 && absent k ks)) && once ks

-- The test over both tables together.
abbrev pub listed_once : Bool
listed_once = once all_keys

-- Every key that a scan code stands for is 1 to 767.
abbrev pub KeyRange : Type 0
KeyRange = (table : Table) (code key : ℕ) → key_of table code ≡ Some key → (1 ≤ key) × (key ≤ 767)

-- Two scan codes that stand for the same key are the same scan code.
abbrev pub OneCode : Type 0
OneCode =
    (table other : Table) (code at key : ℕ) → key_of table code ≡ Some key → key_of other at ≡ Some key → (table ≡ other) × (code ≡ at)

-- Every listed scan code has one key, 1 to 767, and every listed key one scan code.
abbrev pub OneToOne : Type 0
OneToOne = KeyRange × OneCode
