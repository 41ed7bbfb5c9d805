use Rattle.std.proofs.Common.{[], ◌∷◌, length, Some, refl, rules, length-append}
use borrow.Author.Tests.{tests}
use Rattle.std.proofs.lemmas.Iterator.{YieldsList-from_range}
use Rattle.std.proofs.lemmas.Iterator.Adapters.{YieldsList-from_once}
use Rattle.std.proofs.lemmas.Iterator.Consumers.{YieldsList-at, YieldsList-from_filter, YieldsList-from_chain, YieldsList-turn, YieldsList-end}
use Rattle.slots.specs.SlotsPart.{differs, selections_made}
use Rattle.slots.proofs.WayLaws.{one_more, all_made}
use Rattle.slots.proofs.Slots.count_selections.Goals as goal

pub loop-i-preserved : goal.loop-i-preserved
loop-i-preserved c =
    let s = c.args.self.now in
    let t = c.args.target.now in
    let turn = YieldsList-turn
    (YieldsList-from_chain
    (YieldsList-at (cc) (YieldsList-from_filter _ (differs s t) (YieldsList-at c.filter.ensures.source (YieldsList-from_range 0 10 10 refl refl)) c.filter.ensures.closure (λ x b q k. search (rules, tests))))
    (YieldsList-at (cc) (YieldsList-from_once (Some t.selected) c.once.ensures.item)) (cc) (cc))
    c.loop-i.yielded c.loop-i.i-iterator c.loop-i.yielded_by c.next.result c.next.new.self c.in-Some.i c.in-Some.is c.next.ensures.steps in
    record {
      can = search rules;
      finite = search rules;
      made = one_more s t (length c.loop-i.yielded) c.loop-i.at c.loop-i.count (selections_made s t) c.loop-i.invariant.made
          c.in-Some.i _ c.from-count.result turn.0 turn.1 (length-append c.loop-i.yielded (c.in-Some.i ∷ [])) c.from-count.ensures;
    }

pub returns-clause-count : goal.returns-clause-count
returns-clause-count c =
    let s = c.args.self.now in
    let t = c.args.target.now in
    let end = YieldsList-end
    (YieldsList-from_chain
    (YieldsList-at (cc) (YieldsList-from_filter _ (differs s t) (YieldsList-at c.filter.ensures.source (YieldsList-from_range 0 10 10 refl refl)) c.filter.ensures.closure (λ x b q k. search (rules, tests))))
    (YieldsList-at (cc) (YieldsList-from_once (Some t.selected) c.once.ensures.item)) (cc) (cc))
    c.loop-i.yielded c.loop-i.i-iterator c.loop-i.yielded_by c.next.result c.next.new.self c.in-None.is c.next.ensures.steps in
    all_made s t (length c.loop-i.yielded) c.loop-i.at c.loop-i.count (selections_made s t) c.loop-i.invariant.made end.1
