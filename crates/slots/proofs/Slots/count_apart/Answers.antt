use Rattle.std.proofs.Common.{◌∙◌, rules}
use borrow.Author.Tests.{tests}
use Rattle.std.proofs.lemmas.Iterator.{YieldsList-from_slice, YieldsList-from_zip}
use Rattle.std.proofs.lemmas.Iterator.Consumers.{YieldsList-at, YieldsList-from_filter, count_from_yields_List}
use Rattle.slots.specs.SlotsPart.{differs_in}
use Rattle.slots.proofs.WayLaws.{apart_counted}
use Rattle.slots.proofs.Slots.count_apart.Goals as goal

pub returns-clause-count : goal.returns-clause-count
returns-clause-count c =
    count_from_yields_List c.filter.result c.count.result c.count.ensures.ran
    (YieldsList-from_filter _ (λ p. differs_in c.args.field p.0 p.1)
    (YieldsList-at c.filter.ensures.source (YieldsList-from_zip (YieldsList-at c.zip.ensures.first (YieldsList-from_slice c.args.self.now.slots cc)) (YieldsList-from_slice c.args.target.now.slots cc)))
    c.filter.ensures.closure (λ x r q k. search (rules, tests)))
    ∙ apart_counted c.args.field c.args.self.now c.args.target.now
