use Rattle.std.proofs.Common.{[], ◌∷◌, arith, rules}
use borrow.Author.Tests.{tests}
use Rattle.std.proofs.lemmas.Iterator.{YieldsList-from_slice, YieldsList-from_map}
use Rattle.std.proofs.lemmas.Iterator.Consumers.{YieldsList-at, sum_by_from_yields_List}
use Rattle.slots.specs.declared.Field.TheVariants.{Id, X, Y}
use Rattle.slots.specs.SlotsPart.{apart_in}
use Rattle.slots.proofs.WayLaws.{apart_le}
use Rattle.slots.proofs.Slots.count_fields.Goals as goal

pub returns : goal.returns
returns c =
    let s = c.args.self.now in
    let t = c.args.target.now in
    let all = sum_by_from_yields_List (λ f. apart_in f s t) (Id ∷ X ∷ Y ∷ []) c.map.result c.sum.result c.sum.ensures.ran
    (YieldsList-from_map _ (λ f. apart_in f s t) (YieldsList-at c.map.ensures.source (YieldsList-from_slice (Id ∷ X ∷ Y ∷ []) cc)) c.map.ensures.closure (λ x r q k. search (rules, tests))) in
    record { count = omega (arith, all); small = omega (arith, all, apart_le Id s t, apart_le X s t, apart_le Y s t) }
