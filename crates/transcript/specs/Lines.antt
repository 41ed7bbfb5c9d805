-- The summary of a transcript.
use Rattle.std.specs.Prelude.{ℕ, List, ◌++◌, length, codes, decimal}
use Rattle.keys.specs.declared.set.Keys.{Keys}
use Rattle.keys.specs.KeyWords.{key_words}
use Rattle.transcript.specs.Feeding.{Session}

-- the held keys, ascending, each with a space in front
abbrev pub held_text : Keys → List ℕ
held_text s = codes "keys held:" ++ (key_words s ++ codes "\n")

-- how many bytes were taken, how many events offered, and how many bytes wait
abbrev pub counts_text : ℕ → ℕ → ℕ → List ℕ
counts_text taken offered waiting =
    codes "bytes taken: " ++ (decimal taken ++ (codes "\nevents offered: " ++ (decimal offered ++ (codes "\nbytes waiting: " ++ (decimal waiting ++ codes "\n")))))

-- the counts, and the keys that are held
abbrev pub summary_text : Session → List ℕ
summary_text s = counts_text s.taken s.offered (length s.waiting) ++ held_text s.decoder.held
