use Rattle.std.proofs.Common.{◌≡◌, ◌≤◌, length, take, vec_items, vec_len, vec_capacity}
use Rattle.model.specs.Heard.{answers}
use Rattle.model.specs.Replays.{turns, world_after}
use Rattle.input.specs.Cores.{shown}
use Rattle.stage.specs.Worlds.{world, start}
use Rattle.replay.proofs.replay.Given as goal

abbrev pub invariant-loop-call : goal.invariant-loop-call
invariant-loop-call g l =
    let P = g.P.Part.means in
    let w = start P l.device l.initial.clients in
    record {
      answered : vec_items l.answers ≡ answers (turns P w (take l.call-index l.calls));
      as_many : vec_len l.answers ≡ l.call-index;
      room : length l.calls ≤ vec_capacity l.answers;
      world : world P (shown l.stage.core) l.clients ≡ world_after P w (take l.call-index l.calls);
    }
