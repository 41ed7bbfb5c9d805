use Rattle.std.proofs.Common.{bit_xor, ◌∙◌, rules}
use Rattle.std.specs.Int.Count.{ones}
use borrow.Author.Tests.{tests}
use Rattle.std.proofs.lemmas.Iterator.{YieldsList-from_slice, YieldsList-from_zip, YieldsList-from_map}
use Rattle.std.proofs.lemmas.Iterator.Consumers.{YieldsList-at, sum_by_from_yields_List, fits_by_from_yields_list}
use Rattle.keys.proofs.WordLaws.{word_pairs, twelve_taken, count_summed, count_small}
use Rattle.keys.proofs.set.Keys.count_differences.Goals as goal

pub sum-requires-clause-fits : goal.sum-requires-clause-fits
sum-requires-clause-fits c =
    -- what is gone over is all the words, whole or as the twelve from the first on
    let mine = twelve_taken c.args.self.now in
    let theirs = twelve_taken c.args.other.now in
    fits_by_from_yields_list (λ p. ones (bit_xor p.0 p.1)) (word_pairs c.args.self.now c.args.other.now) c.map.result _
    (YieldsList-from_map _ (λ p. ones (bit_xor p.0 p.1))
    (YieldsList-at c.map.ensures.source (YieldsList-from_zip (YieldsList-at c.zip.ensures.first (YieldsList-from_slice c.args.self.now.words cc)) (YieldsList-from_slice c.args.other.now.words cc)))
    c.map.ensures.closure (λ x r q k. search (rules, tests)))
    (count_small c.args.self.now c.args.other.now)

pub returns : goal.returns
returns c =
    let mine = twelve_taken c.args.self.now in
    let theirs = twelve_taken c.args.other.now in
    sum_by_from_yields_List (λ p. ones (bit_xor p.0 p.1)) (word_pairs c.args.self.now c.args.other.now) c.map.result c.sum.result c.sum.ensures.ran
    (YieldsList-from_map _ (λ p. ones (bit_xor p.0 p.1))
    (YieldsList-at c.map.ensures.source (YieldsList-from_zip (YieldsList-at c.zip.ensures.first (YieldsList-from_slice c.args.self.now.words cc)) (YieldsList-from_slice c.args.other.now.words cc)))
    c.map.ensures.closure (λ x r q k. search (rules, tests)))
    ∙ count_summed c.args.self.now c.args.other.now
