-- A loop over the records of a recording.
use Rattle.std.specs.Prelude.{◌≡◌, ℕ, List, Some, None, Option}
use Rattle.std.specs.Iterator.{AlwaysYields}
use denote.Ref.{Bor}
use Rattle.recording.specs.declared.frames.Records.{Records}
use Rattle.recording.specs.Frames.{first_record, records_of}

-- the first record comes and what follows it is left; none where the recording ends or is broken there, and then that is left
abbrev pub gives : Records → Option (Bor (List ℕ)) → Records → Type 0
gives s None t = (first_record s.rest.now ≡ None) × (t.rest.now ≡ s.rest.now)
gives s (Some r) t = first_record s.rest.now ≡ Some (r.now, t.rest.now)

-- of a recording all the records come, in order, and then none
unfoldable pub GivesAll : Records → Type 0
GivesAll s = (rs : List (List ℕ)) → records_of s.rest.now ≡ Some rs → AlwaysYields gives (λ r. r.now) s rs
