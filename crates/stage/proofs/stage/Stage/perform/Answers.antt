use Rattle.std.proofs.Common.{◌<◌, length, ltb-true, arith, rules}
use Rattle.model.specs.Runs.{step}
use Rattle.stage.proofs.Slices.{slice_client, slice_put}
use Rattle.stage.proofs.stage.Stage.perform.Goals as goal

pub returns-in-Open-clause-world : goal.returns-in-Open-clause-world
unfolding step
returns-in-Open-clause-world g c =
    let lt : c.in-Open.client < length c.args.clients.now = omega (arith, ltb-true, rw c.in-Open.is at c.requires) in
    let at = slice_client g.P.Part.means c.args.clients.now c.in-Open.client c.index-clients-client.result lt in
    let put = slice_put g.P.Part.means c.args.clients.now c.in-Open.client c.index-clients-client.result lt c.open.new.client in
    rw c.in-Open.is (search rules)

pub returns-in-Close-clause-world : goal.returns-in-Close-clause-world
unfolding step
returns-in-Close-clause-world g c =
    let lt : c.in-Close.client < length c.args.clients.now = omega (arith, ltb-true, rw c.in-Close.is at c.requires) in
    let at = slice_client g.P.Part.means c.args.clients.now c.in-Close.client c.index-clients-client-in-Close.result lt in
    let put = slice_put g.P.Part.means c.args.clients.now c.in-Close.client c.index-clients-client-in-Close.result lt c.close.new.client in
    rw c.in-Close.is (search rules)

pub returns-in-Read-clause-world : goal.returns-in-Read-clause-world
unfolding step
returns-in-Read-clause-world g c =
    let lt : c.in-Read.client < length c.args.clients.now = omega (arith, ltb-true, rw c.in-Read.is at c.requires) in
    let at = slice_client g.P.Part.means c.args.clients.now c.in-Read.client c.index-clients-client-in-Read.result lt in
    let put = slice_put g.P.Part.means c.args.clients.now c.in-Read.client c.index-clients-client-in-Read.result lt c.read.new.client in
    rw c.in-Read.is (search rules)
