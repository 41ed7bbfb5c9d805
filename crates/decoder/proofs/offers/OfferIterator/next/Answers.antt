use Rattle.std.proofs.Common.{◌≡◌, List, [], map, drop, sym, ap, ◌∙◌}
use Rattle.keys.specs.KeySet.{held_codes}
use Rattle.keys.specs.KeySetLaws.{codes_from_first}
use Rattle.events.specs.declared.items.Event.{Event}
use Rattle.decoder.specs.Offers.{release, events_of, first_of}
use Rattle.decoder.proofs.offers.OfferIterator.next.Goals as goal

pub returns-in_err-pop_first-in-Releases-clause-steps : goal.returns-in_err-pop_first-in-Releases-clause-steps
returns-in_err-pop_first-in-Releases-clause-steps c =
    let none = c.in_err-pop_first-in-Releases.ensures in
    let none_left : map release (held_codes c.in-Releases.keys) ≡ [] = ap (map release) (codes_from_first c.in-Releases.keys (sym none.value)) in
    let none_at_all : events_of c.args.self.now ≡ [] = ap events_of c.in-Releases.is ∙ none_left in (
      c.from_residual.ensures ∙ sym (ap first_of none_at_all),
      ap (map release) (sym none.codes) ∙ none_left ∙ sym (ap (λ (es : List Event). drop 1 es) none_at_all),
    )
