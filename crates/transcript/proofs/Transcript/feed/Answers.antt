use Rattle.std.proofs.Common.{◌≡◌, ℕ, ◌+◌, ◌<◌, List, ◌∷◌, ◌++◌, length, get_or, drop, string_bytes, sym, ap, ◌∙◌, arith}
use Rattle.std.proofs.lemmas.List.{drop_more}
use Rattle.keyboard.specs.Takes.{Seen}
use Rattle.transcript.specs.Feeding.{seen, fed, fed_text}
use Rattle.transcript.proofs.Draining.{byte_fed}
use Rattle.transcript.proofs.Transcript.feed.Goals as goal

pub loop-byte-preserved : goal.loop-byte-preserved
loop-byte-preserved c =
    let s = seen c.loop-byte.next in
    let bytes = c.args.bytes.now in
    let i = c.loop-byte.byte-index in
    let l : i < length bytes = omega arith in
    let rest : drop i bytes ≡ get_or bytes i 0 ∷ drop (i + 1) bytes = drop_more bytes i 0 l in
    let text = string_bytes c.loop-byte.text in
    let on = byte_fed s (seen (record { keyboard = c.put.new.self; taken = s.taken; offered = s.offered })) (seen c.drain.new.self)
    (get_or bytes i 0) (drop (i + 1) bytes) text (string_bytes c.drain.new.text)
    (ap (λ (k : Seen). record { waiting = k.waiting; decoder = k.decoder; taken = s.taken; offered = s.offered }) c.put.ensures)
    c.in_ok-drain.ensures.after c.in_ok-drain.ensures.text in
    (on.0 ∙ ap (λ (bs : List ℕ). text ++ fed_text s bs) (sym rest) ∙ c.loop-byte.invariant.0, on.1 ∙ ap (fed s) (sym rest) ∙ c.loop-byte.invariant.1)
