-- A keyboard whose bytes are put into the ring one by one and taken as soon as they are readable.
use Rattle.std.specs.Prelude.{ℕ, ◌+◌, ◌-◌, ◌^◌, min, fold, List, [], ◌∷◌, ◌++◌}
use Rattle.ring.specs.Waiting.{after_put, readable_items, unreadable_items}
use Rattle.ring.specs.Bytes.{closes_code, lost_byte}
use Rattle.ring.specs.Rings.{waiting_in}
use Rattle.decoder.specs.declared.Decoder.{Decoder}
use Rattle.decoder.specs.Runs as run
use Rattle.transcript.specs.declared.Transcript.{Transcript}
use Rattle.transcript.specs.Events.{event_lines}

-- the bytes that wait, the decoder, how many bytes were taken and how many events offered
pub record Session : Type 0 where
  pub waiting : List ℕ
  pub decoder : Decoder
  pub taken : ℕ
  pub offered : ℕ

abbrev pub seen : Transcript → Session
seen t = record { waiting = waiting_in t.keyboard.bytes; decoder = t.keyboard.decoder; taken = t.taken; offered = t.offered }

-- one more; a count stops at the largest number of 64 bits
abbrev pub one_more : {T : Type 0} → ℕ → T → ℕ
one_more n x = min (n + 1) (2 ^ 64 - 1)

-- a count with one more for each of a list
abbrev pub tally : {T : Type 0} → ℕ → List T → ℕ
tally n xs = fold one_more n xs

-- a byte is put
abbrev pub arrived : Session → ℕ → Session
arrived s b = record { waiting = after_put lost_byte 16 s.waiting b; decoder = s.decoder; taken = s.taken; offered = s.offered }

-- the decoder takes these bytes, and others wait
abbrev pub decoded : Session → List ℕ → List ℕ → Session
decoded s bs waiting = record {
  waiting = waiting;
  decoder = run.after s.decoder bs;
  taken = tally s.taken bs;
  offered = tally s.offered (run.offered s.decoder bs);
}

-- all that is readable is taken
abbrev pub drained : Session → Session
drained s = decoded s (readable_items closes_code s.waiting) (unreadable_items closes_code s.waiting)

abbrev pub drained_text : Session → List ℕ
drained_text s = event_lines (run.offered s.decoder (readable_items closes_code s.waiting))

-- the bytes that the ring hands to the decoder while these arrive, and those that wait in the end
abbrev pub handed : List ℕ → List ℕ → List ℕ
handed ws [] = []
handed ws (b ∷ bs) =
    readable_items closes_code (after_put lost_byte 16 ws b) ++ handed (unreadable_items closes_code (after_put lost_byte 16 ws b)) bs

abbrev pub left_over : List ℕ → List ℕ → List ℕ
left_over ws [] = ws
left_over ws (b ∷ bs) = left_over (unreadable_items closes_code (after_put lost_byte 16 ws b)) bs

-- bytes arrive one by one: what the ring hands on is decoded
abbrev pub fed : Session → List ℕ → Session
fed s bs = decoded s (handed s.waiting bs) (left_over s.waiting bs)

-- a line for each event that they offer
abbrev pub fed_text : Session → List ℕ → List ℕ
fed_text s bs = event_lines (run.offered s.decoder (handed s.waiting bs))
