use Rattle.std.proofs.Common.{sym, ◌∙◌, arith, rules}
use Rattle.std.proofs.lemmas.Grind.{common_steps}
use Rattle.input.specs.Cores.{shown}
use Rattle.input.specs.Clients.{held}
use Rattle.input.proofs.Grounds.{read_refused, read_admitted}
use Rattle.input.proofs.cores.Core.read.Goals as goal

pub returns-in_err-admits : goal.returns-in_err-admits
returns-in_err-admits g c =
    let q = read_refused g.P.Part.means (shown c.args.self.now) (held c.args.client.now) _ (sym c.admits.ensures ∙ c.in_err-admits.was) in
    search rules

pub returns : goal.returns
returns g c =
    let q = read_admitted g.P.Part.means (shown c.args.self.now) (held c.args.client.now) (sym c.admits.ensures ∙ c.in_ok-admits.was) in
    record {
      value = grind (arith, common_steps);
      after = grind (arith, common_steps);
      left = grind (arith, common_steps);
      refused = search rules;
    }
