use Rattle.std.proofs.Common.{ap, ◌∙◌}
use Rattle.keys.specs.KeySet.{first_apart}
use Rattle.keys.specs.KeySetLaws.{first_apart_none, codes_split}
use Rattle.keys.proofs.set.Keys.first.Goals as goal

pub returns : goal.returns
returns c =
    let found = c.first_difference.ensures ∙ ap (first_apart c.args.self.now) c.new.ensures ∙ first_apart_none c.args.self.now in
    record { value = found; codes = codes_split c.args.self.now c.first_difference.result found }
