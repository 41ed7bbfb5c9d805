-- The keys that are down in the core are those that the driver holds.
use Rattle.std.proofs.Common.{◌≡◌, ℕ, ◌≤◌, Bool, true, false, cond, not, ◌||◌, eqb, List, [], ◌∷◌, map, pos, Some, None, Ok, Err, Option, Result, sym, refl, ap, ◌∙◌, arith}
use Rattle.std.proofs.lemmas.Bool.{cond-true, cond_both}
use Rattle.events.specs.declared.refusals.Refusal.{Refusal}
use Rattle.parts.specs.Walk.{after}
use Rattle.keys.specs.declared.set.Keys.{Keys}
use Rattle.keys.specs.Words.{is_code}
use Rattle.keys.specs.KeySet.{held, with_key, no_keys, held_codes, first_held}
use Rattle.keys.specs.KeysPart.{is_key, value_verdict, keys_verdict, keys_taken, keys_meaning}
use Rattle.keys.specs.KeySetLaws.{code_from, with_key_stays, first_some, codes_from_first, codes_first, none_from_codes}
use Rattle.keys.specs.KeysLaws.{keys_laws, change_taken}
use Rattle.ring.specs.Waiting.{Took, none, one, take_of}
use Rattle.ring.specs.Bytes.{closes_code}
use Rattle.set2.specs.declared.Table.TheVariants.{Plain, Extended}
use Rattle.set2.specs.Set2.{key_of}
use Rattle.set2.proofs.Tables.{key_range}
use Rattle.decoder.specs.declared.Prefix.{Prefix}
use Rattle.decoder.specs.declared.Prefix.TheVariants.{E0, E1, E1Code}
use Rattle.decoder.specs.declared.Decoder.{Decoder}
use Rattle.decoder.specs.Offers.{key_event, release, events_of}
use Rattle.decoder.specs.Steps.{Step, silent, releasing, found, value_of, by_prefix, step}
use Rattle.decoder.specs.Runs as run
use Rattle.decoder.proofs.Appended.{after-++}
use Rattle.decoder.proofs.DecoderLaws.{decoder_laws}
use Rattle.keyboard.specs.Takes.{Seen, decoded}
use Rattle.model.specs.Core.{Core}
use Rattle.input.specs.Cores.{readiness}
use Rattle.driver.proofs.Offered.{is_ready, driven_state}
use Rattle.ps2.specs.Takes.{if_ready, events_in, events_taken}
use Rattle.ps2.specs.Runs.{Act, put, take, Desk, new_desk, act, acts, byte_found, byte_if, bytes_decoded, DownIsHeld, DownIsLastOffered, TakesKeepIt, Laws}

-- ---- one key

-- what the driver offers for a key makes the key as the driver holds it
key_taken : (s : Keys) (k : ℕ) (released down : Bool) → is_code k ≡ true → held s k ≡ down → keys_taken s (key_event k (value_of released down)) ≡ with_key s k (not released)
key_taken s k released down code h = go released down h
  where
    judged : (n : ℕ) (b : Bool) → held s k ≡ b → keys_verdict s (key_event k n) ≡ value_verdict b (pos n)
    judged n b h = cond-true (is_key (key_event k n)) _ _ code ∙ ap (λ (x : Bool). value_verdict x (pos n)) h

    go : (released down : Bool) → held s k ≡ down → keys_taken s (key_event k (value_of released down)) ≡ with_key s k (not released)
    go true true h = change_taken s (key_event k 0) (judged 0 true h)
    go true false h = keys_laws.stays s (key_event k 0) (λ c. cc (c, judged 0 false h)) ∙ sym (with_key_stays s k false h)
    go false true h = keys_laws.stays s (key_event k 2) (λ c. cc (c, judged 2 true h)) ∙ sym (with_key_stays s k true h)
    go false false h = change_taken s (key_event k 1) (judged 1 false h)

-- the release of every key leaves none
all_released : (cs : List ℕ) (s : Keys) → held_codes s ≡ cs → after keys_meaning s (map release cs) ≡ no_keys
all_released [] s e = none_from_codes s e
all_released (c ∷ cs) s e = go (all_released cs) (first_held s) refl
  where
    go : ((t : Keys) → held_codes t ≡ cs → after keys_meaning t (map release cs) ≡ no_keys) → (o : Option ℕ) → first_held s ≡ o
        → after keys_meaning s (map release (c ∷ cs)) ≡ no_keys
    go rest None f = cc (e, codes_from_first s f)
    go rest (Some k) f =
        let p = first_some s k f in
        let both = sym (codes_first s k f) ∙ e in
        let same : k ≡ c = cc in
        let others : held_codes (with_key s k false) ≡ cs = cc in
        ap (λ (x : ℕ). after keys_meaning (keys_taken s (release x)) (map release cs)) (sym same)
        ∙ ap (λ (x : Keys). after keys_meaning x (map release cs)) (key_taken s k true true (code_from k p.0 p.1) p.2)
        ∙ rest (with_key s k false) others

-- ---- one byte

-- a set that was what the decoder holds is so again after the events of a step
Kept : Decoder → Step → Type 0
Kept d o = after keys_meaning d.held (events_of o.offer) ≡ o.decoder.held

either : (P : Step → Type 0) (b : Bool) (x y : Step) → P x → P y → P (cond b x y)
either P b x y p q = cond_both b x y P (λ _. p) (λ _. q)

found_kept : (d : Decoder) (o : Option ℕ) → ((c : ℕ) → o ≡ Some c → (1 ≤ c) × (c ≤ 767)) → Kept d (found d o)
unfolding Kept
found_kept d None h = refl
found_kept d (Some k) h = let r = h k refl in key_taken d.held k d.released (held d.held k) (code_from k r.0 (omega arith)) refl

code_kept : (d : Decoder) (code : ℕ) (p : Option Prefix) → Kept d (by_prefix d code p)
unfolding Kept
code_kept d code None = found_kept d (key_of Plain code) (key_range Plain code)
code_kept d code (Some E0) = found_kept d (key_of Extended code) (key_range Extended code)
code_kept d code (Some E1) = refl
code_kept d code (Some E1Code) = refl

silent_kept : (d : Decoder) (p : Option Prefix) (released deaf : Bool) → Kept d (silent (record { prefix = p; released = released; deaf = deaf; held = d.held }))
unfolding Kept
silent_kept d p released deaf = refl

releasing_kept : (d : Decoder) (p : Option Prefix) (released deaf : Bool) → Kept d (releasing (record { prefix = p; released = released; deaf = deaf; held = d.held }))
unfolding Kept
releasing_kept d p released deaf = all_released (held_codes d.held) d.held refl

step_kept : (d : Decoder) (b : ℕ) → Kept d (step d b)
step_kept d b =
    either (Kept d) (eqb b 0xaa) _ _ (releasing_kept d None false false)
    (either (Kept d) d.deaf _ _ (silent_kept d d.prefix d.released d.deaf)
    (either (Kept d) (eqb b 0x00 || eqb b 0xff) _ _ (releasing_kept d d.prefix d.released true)
    (either (Kept d) (eqb b 0xe0) _ _ (silent_kept d (Some E0) false d.deaf)
    (either (Kept d) (eqb b 0xe1) _ _ (silent_kept d (Some E1) false d.deaf)
    (either (Kept d) (eqb b 0xf0) _ _ (silent_kept d d.prefix true d.deaf) (code_kept d b d.prefix))))))

-- ---- one take

took_kept : (b : Seen) (w : Took ℕ) → after keys_meaning b.decoder.held (events_in (decoded b w).offer) ≡ (decoded b w).keyboard.decoder.held
unfolding Kept
took_kept b none = refl
took_kept b (one x rest) = step_kept b.decoder x

takes_keep_it : TakesKeepIt
takes_keep_it k b t h = go (readiness keys_meaning k) refl
  where
    go : (r : Result (Unit {0}) Refusal) → readiness keys_meaning k ≡ r → (if_ready keys_meaning k b t r).core.state ≡ (if_ready keys_meaning k b t r).keyboard.decoder.held
    go (Err e) q = h
    go (Ok u) q =
        driven_state keys_meaning keys_laws.stays refl k t (events_taken b) (is_ready keys_meaning k u q).1
        ∙ ap (λ (s : Keys). after keys_meaning s (events_taken b)) h
        ∙ took_kept b (take_of closes_code b.waiting)

-- ---- runs

acts_kept : (d : Desk) → d.core.state ≡ d.keyboard.decoder.held → (later : List Act) → (acts d later).core.state ≡ (acts d later).keyboard.decoder.held
acts_kept d h [] = h
acts_kept d h (put b ∷ later) = acts_kept (act d (put b)) h later
acts_kept d h (take t ∷ later) = acts_kept (act d (take t)) (takes_keep_it d.core d.keyboard t h) later

down_is_held : DownIsHeld
down_is_held device later = acts_kept (new_desk device) refl later

byte_through : (b : Seen) (w : Took ℕ) → (decoded b w).keyboard.decoder ≡ run.after b.decoder (byte_found w)
byte_through b none = refl
byte_through b (one x rest) = refl

take_through : (k : Core Keys) (b : Seen) (t : ℕ) (r : Result (Unit {0}) Refusal) → (if_ready keys_meaning k b t r).keyboard.decoder ≡ run.after b.decoder (byte_if r (take_of closes_code b.waiting))
take_through k b t (Err e) = refl
take_through k b t (Ok u) = byte_through b (take_of closes_code b.waiting)

acts_through : (d : Desk) (later : List Act) → (acts d later).keyboard.decoder ≡ run.after d.keyboard.decoder (bytes_decoded d later)
acts_through d [] = refl
acts_through d (put b ∷ later) = acts_through (act d (put b)) later
acts_through d (take t ∷ later) =
    let bs = byte_if (readiness keys_meaning d.core) (take_of closes_code d.keyboard.waiting) in
    acts_through (act d (take t)) later
    ∙ ap (λ (x : Decoder). run.after x (bytes_decoded (act d (take t)) later)) (take_through d.core d.keyboard t (readiness keys_meaning d.core))
    ∙ sym (after-++ bs (bytes_decoded (act d (take t)) later) d.keyboard.decoder)

down_is_last_offered : DownIsLastOffered
down_is_last_offered device later key =
    ap (λ (s : Keys). held s key) (down_is_held device later ∙ ap (λ (d : Decoder). d.held) (acts_through (new_desk device) later))
    ∙ decoder_laws.held_is_last_offered (bytes_decoded (new_desk device) later) key

pub keyboard_laws : Laws
keyboard_laws = record { down_is_held = down_is_held; down_is_last_offered = down_is_last_offered; takes_keep_it = takes_keep_it }
