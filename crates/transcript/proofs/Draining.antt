-- Taking what is readable, byte by byte.
use Rattle.std.proofs.Common.{◌≡◌, ℕ, ◌+◌, ◌-◌, ◌^◌, min, List, [], ◌∷◌, ◌++◌, Some, None, sym, refl, ap, ◌∙◌, ap₂, append_assoc}
use Rattle.std.proofs.lemmas.Grind.{flat_map-append, fold-append}
use Rattle.ring.specs.Waiting.{Took, none, one, take_of, after_put, readable_items, unreadable_items}
use Rattle.ring.specs.Bytes.{closes_code, lost_byte}
use Rattle.ring.proofs.Reading.{took_one, took_none}
use Rattle.decoder.specs.declared.offers.Offer.{Offer}
use Rattle.decoder.specs.Offers.{events_of}
use Rattle.decoder.specs.Steps.{step}
use Rattle.decoder.specs.Runs as run
use Rattle.decoder.proofs.Appended.{after-++, offered-++}
use Rattle.keyboard.specs.Takes.{Seen, decoded as read_by, take_seen}
use Rattle.transcript.specs.Events.{event_line, event_lines}
use Rattle.transcript.specs.Feeding.{Session, one_more, tally, arrived, decoded, drained, drained_text, handed, left_over, fed, fed_text}

-- the keyboard of a session
abbrev keyboard_of : Session → Seen
keyboard_of s = record { waiting = s.waiting; decoder = s.decoder }

-- a session with another keyboard and other counts
abbrev with : Seen → ℕ → ℕ → Session
with k n m = record { waiting = k.waiting; decoder = k.decoder; taken = n; offered = m }

-- a byte was decoded, its lines written and its events counted
module _ (s : Session) (offer : Offer) (k : Seen) (n m : ℕ) (before later : List ℕ) where
  abbrev pub GoesOn : Type 0
  GoesOn = (later ++ drained_text (with k n m) ≡ before ++ drained_text s) × (drained (with k n m) ≡ drained s)

  one_decoded : (b : ℕ) (rest : List ℕ) → take_of closes_code s.waiting ≡ one b rest → offer ≡ (step s.decoder b).offer
      → k ≡ record { waiting = rest; decoder = (step s.decoder b).decoder }
      → n ≡ min (s.taken + 1) (2 ^ 64 - 1) → m ≡ tally s.offered (events_of offer) → later ≡ before ++ event_lines (events_of offer) → GoesOn
  one_decoded b rest e o ke ne me le =
      let d = (step s.decoder b).decoder in
      let es = events_of (step s.decoder b).offer in
      let next : Session = record { waiting = rest; decoder = d; taken = min (s.taken + 1) (2 ^ 64 - 1); offered = tally s.offered es } in
      let bs = readable_items closes_code rest in
      let r = took_one closes_code s.waiting b rest e in
      let here : with k n m ≡ next = λ i. record { waiting = (ke i).waiting; decoder = (ke i).decoder; taken = ne i; offered = (me ∙ ap (λ (x : Offer). tally s.offered (events_of x)) o) i } in
      let all : drained_text s ≡ event_lines es ++ drained_text next = ap (λ (xs : List ℕ). event_lines (run.offered s.decoder xs)) r.0 ∙ flat_map-append event_line es (run.offered d bs) in (
        ap₂ (λ (l : List ℕ) (x : Session). l ++ drained_text x) (le ∙ ap (λ (x : Offer). before ++ event_lines (events_of x)) o) here
            ∙ append_assoc before (event_lines es) (drained_text next)
            ∙ ap (λ (l : List ℕ). before ++ l) (sym all),
        ap drained here
            ∙ ap (λ (c : ℕ). record { waiting = unreadable_items closes_code rest; decoder = run.after d bs; taken = tally (min (s.taken + 1) (2 ^ 64 - 1)) bs; offered = c }) (sym (fold-append one_more s.offered es (run.offered d bs)))
            ∙ sym (ap₂ (λ (xs us : List ℕ). decoded s xs us) r.0 r.1),
      )

  pub drain_on : Some offer ≡ (take_seen (keyboard_of s)).offer → k ≡ (take_seen (keyboard_of s)).keyboard
      → n ≡ min (s.taken + 1) (2 ^ 64 - 1) → m ≡ tally s.offered (events_of offer) → later ≡ before ++ event_lines (events_of offer) → GoesOn
  drain_on h ke ne me le = go (take_of closes_code s.waiting) refl h ke
    where
      go : (t : Took ℕ) → take_of closes_code s.waiting ≡ t → Some offer ≡ (read_by (keyboard_of s) t).offer → k ≡ (read_by (keyboard_of s) t).keyboard → GoesOn
      go none e h ke = absurd cc
      go (one b rest) e h ke = let same : offer ≡ (step s.decoder b).offer = cc in one_decoded b rest e same ke ne me le

-- nothing was readable
pub drain_end : (s : Session) (k : Seen) → None ≡ (take_seen (keyboard_of s)).offer → k ≡ (take_seen (keyboard_of s)).keyboard
    → (drained_text s ≡ []) × (record { waiting = k.waiting; decoder = k.decoder; taken = s.taken; offered = s.offered } ≡ drained s)
drain_end s k h ke = go (take_of closes_code s.waiting) refl h ke
  where
    go : (t : Took ℕ) → take_of closes_code s.waiting ≡ t → None ≡ (read_by (keyboard_of s) t).offer → k ≡ (read_by (keyboard_of s) t).keyboard
        → (drained_text s ≡ []) × (record { waiting = k.waiting; decoder = k.decoder; taken = s.taken; offered = s.offered } ≡ drained s)
    go none e h ke =
        let r = took_none closes_code s.waiting e in (
          ap (λ (xs : List ℕ). event_lines (run.offered s.decoder xs)) r.0,
          ap (λ (x : Seen). record { waiting = x.waiting; decoder = x.decoder; taken = s.taken; offered = s.offered }) ke
              ∙ sym (ap₂ (λ (xs us : List ℕ). decoded s xs us) r.0 r.1),
        )
    go (one b rest) e h ke = absurd cc

-- one byte more arrives
pub feed_on : (s : Session) (b : ℕ) (bs : List ℕ)
    → (fed_text s (b ∷ bs) ≡ drained_text (arrived s b) ++ fed_text (drained (arrived s b)) bs) × (fed s (b ∷ bs) ≡ fed (drained (arrived s b)) bs)
feed_on s b bs =
    let q = after_put lost_byte 16 s.waiting b in
    let now_read = readable_items closes_code q in
    let rest = handed (unreadable_items closes_code q) bs in
    let d = run.after s.decoder now_read in
    let o = offered-++ now_read rest s.decoder in (
      ap event_lines o ∙ flat_map-append event_line (run.offered s.decoder now_read) (run.offered d rest),
      λ i. record {
        waiting = left_over (unreadable_items closes_code q) bs;
        decoder = after-++ now_read rest s.decoder i;
        taken = fold-append one_more s.taken now_read rest i;
        offered = (ap (tally s.offered) o ∙ fold-append one_more s.offered (run.offered s.decoder now_read) (run.offered d rest)) i;
      },
    )

-- a byte arrived, and what it made readable was taken
pub byte_fed : (s a e : Session) (b : ℕ) (bs before later : List ℕ) → a ≡ arrived s b → e ≡ drained a → later ≡ before ++ drained_text a
    → (later ++ fed_text e bs ≡ before ++ fed_text s (b ∷ bs)) × (fed e bs ≡ fed s (b ∷ bs))
byte_fed s a e b bs before later ae de le =
    let on = feed_on s b bs in
    let end : e ≡ drained (arrived s b) = de ∙ ap drained ae in (
      ap₂ (λ (l : List ℕ) (x : Session). l ++ fed_text x bs) (le ∙ ap (λ (x : Session). before ++ drained_text x) ae) end
          ∙ append_assoc before (drained_text (arrived s b)) (fed_text (drained (arrived s b)) bs)
          ∙ ap (λ (l : List ℕ). before ++ l) (sym on.0),
      ap (λ (x : Session). fed x bs) end ∙ sym on.1,
    )
