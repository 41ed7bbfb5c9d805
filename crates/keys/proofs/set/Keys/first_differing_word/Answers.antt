use Rattle.std.proofs.Common.{◌≡◌, ◌≢◌, bit_xor, rules}
use borrow.Author.Tests.{tests}
use Rattle.std.proofs.lemmas.Iterator.{YieldsList-from_slice, YieldsList-from_zip, YieldsList-from_map, first_from_find}
use Rattle.std.proofs.lemmas.Iterator.Consumers.{YieldsList-at, YieldsList-from_enumerate}
use Rattle.keys.proofs.WordLaws.{lowest_found}
use Rattle.keys.proofs.set.Keys.first_differing_word.Goals as goal

pub returns : goal.returns
returns c =
    lowest_found c.args.self.now c.args.other.now c.find.result
    (first_from_find c.find.new.self _ c.find.result (λ p. p.1 ≢ 0) (λ p. p.1 ≡ 0) c.find.ensures.ran
    (YieldsList-from_enumerate (YieldsList-at c.enumerate.ensures.source (YieldsList-from_map _ (λ p. bit_xor p.0 p.1)
    (YieldsList-at c.map.ensures.source (YieldsList-from_zip (YieldsList-at c.zip.ensures.first (YieldsList-from_slice c.args.self.now.words cc)) (YieldsList-from_slice c.args.other.now.words cc)))
    c.map.ensures.closure (λ x r q k. search (rules, tests)))) cc)
    (λ x q k. search (rules, tests)) (λ x q k. search (rules, tests)))
