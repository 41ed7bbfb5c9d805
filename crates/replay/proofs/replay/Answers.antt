use Rattle.std.proofs.Common.{◌≡◌, take, ap, inl, inr, arith, rules}
use Rattle.std.proofs.lemmas.Bool.{cases_Bool}
use Rattle.std.proofs.lemmas.Grind.{common_steps}
use Rattle.std.proofs.lemmas.List.{take_all}
use Rattle.model.specs.Heard.{answers}
use Rattle.model.specs.Replays.{turns, world_after}
use Rattle.model.specs.Runs.{World}
use Rattle.model.proofs.Replay.{world_push, answers_push}
use Rattle.input.specs.Cores.{shown}
use Rattle.stage.specs.Worlds.{world, start}
use Rattle.stage.proofs.Slices.{start_fresh}
use Rattle.replay.proofs.Faithful.{throughout, recovering}
use Rattle.replay.proofs.Unsound.{stands_still}
use Rattle.replay.proofs.replay.Goals as goal

pub loop-call-preserved : goal.loop-call-preserved
loop-call-preserved g c =
    record {
      answered = grind (arith, common_steps, answers_push);
      as_many = grind (arith, common_steps);
      room = grind (arith, common_steps);
      world = grind (arith, common_steps, world_push);
    }

-- a stage over a sound pile ends, and one over an unsound pile was never grabbed
pub unwrap-requires-2 : goal.unwrap-requires-2
unwrap-requires-2 g c =
    let P = g.P.Part.means in
    elim (cases_Bool P.sound) [
      | inl so ↦ search (rules, c.end.ensures.sound so)
      | inr un ↦
          let still = stands_still P un (start P c.args.device c.args.clients.now) (take c.loop-call.call-index c.args.calls.now) in
          let v = ap (λ (u : World _). u.core) c.loop-call.invariant.world in
          search (rules, c.end.ensures.free)
    ]

pub returns : goal.returns
returns g c =
    let P = g.P.Part.means in
    let laws = g.met.P.Part.laws in
    let cs = c.args.calls.now in
    let before = c.args.clients.now in
    let w = start P c.args.device before in
    let all = take_all c.loop-call.call-index cs c.loop-call-test.false in
    let is : c.loop-call.answers.items ≡ answers (turns P w cs) = rw all at c.loop-call.invariant.answered in
    let after : world P (shown c.loop-call.stage.core) c.loop-call.clients ≡ world_after P w cs = rw all at c.loop-call.invariant.world in
    record {
      within = search rules;
      answered = is;
      clients = λ i. ap (λ (u : World _). u.clients i) after;
      faithful = λ s. throughout P laws w (start_fresh P c.args.device before s) cs _ is;
      recovers = λ s. recovering P laws w (start_fresh P c.args.device before s) cs _ is;
    }
