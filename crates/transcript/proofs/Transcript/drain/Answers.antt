use Rattle.std.proofs.Common.{ℕ, List, ◌++◌, string_bytes, sym, refl, ap, ◌∙◌}
use Rattle.std.proofs.lemmas.List.{append-nil}
use Rattle.keyboard.specs.Takes.{seen as seen_keyboard}
use Rattle.decoder.specs.Offers.{events_of}
use Rattle.transcript.specs.Feeding.{seen, tally}
use Rattle.transcript.proofs.Draining.{drain_on, drain_end}
use Rattle.transcript.proofs.Transcript.drain.Goals as goal

pub loop-offer-preserved : goal.loop-offer-preserved
loop-offer-preserved c =
    let on = drain_on (seen c.loop-offer.self) c.in-Some.offer (seen_keyboard c.take.new.self) c.saturating_add-self.result (tally c.loop-offer.self.offered (events_of c.in-Some.offer))
    (string_bytes c.loop-offer.text) (string_bytes c.write_events.new.text)
    c.in-Some.ensures.value c.in-Some.ensures.after c.saturating_add-self.ensures
    refl c.in_ok-write_events.ensures.text in
    rw c.in_ok-write_events.ensures.count (on.0 ∙ c.loop-offer.invariant.0, on.1 ∙ c.loop-offer.invariant.1)

pub returns : goal.returns
returns c =
    let over = drain_end (seen c.loop-offer.self) (seen_keyboard c.take.new.self) c.in_default.ensures.value c.in_default.ensures.after in
    let text = string_bytes c.loop-offer.text in
    record {
      text = sym (append-nil text) ∙ ap (λ (l : List ℕ). text ++ l) (sym over.0) ∙ c.loop-offer.invariant.0;
      after = over.1 ∙ c.loop-offer.invariant.1;
    }
