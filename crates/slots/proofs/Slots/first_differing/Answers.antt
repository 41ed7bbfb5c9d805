use Rattle.std.proofs.Common.{◌∙◌, rules}
use borrow.Author.Tests.{tests}
use Rattle.std.proofs.lemmas.Iterator.{YieldsList-from_slice, YieldsList-from_zip}
use Rattle.std.proofs.lemmas.Iterator.Consumers.{YieldsList-at}
use Rattle.std.proofs.lemmas.Iterator.Search.{position_from_yields_List}
use Rattle.slots.specs.SlotLaws.{unequal_first}
use Rattle.slots.specs.SlotsPart.{unlike}
use Rattle.slots.proofs.WayLaws.{first_unlike}
use Rattle.slots.proofs.Slots.first_differing.Goals as goal

pub returns : goal.returns
returns c =
    position_from_yields_List (λ p. unlike p.0 p.1) c.position.new.self _ c.position.result c.position.ensures.ran
    (YieldsList-from_zip (YieldsList-at c.zip.ensures.first (YieldsList-from_slice c.args.self.now.slots cc)) (YieldsList-from_slice c.args.target.now.slots cc))
    (λ x b q k. search (rules, tests, unequal_first x.0.now x.1.now))
    ∙ first_unlike c.args.self.now c.args.target.now
