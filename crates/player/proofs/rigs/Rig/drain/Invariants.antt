use Rattle.std.proofs.Common.{◌≡◌, length}
use Rattle.keyboard.specs.Takes.{seen}
use Rattle.player.specs.Rigs.{rig_world}
use Rattle.player.proofs.Draining.{all_takes}
use Rattle.player.proofs.rigs.Rig.drain.Given as goal

-- the takes that are left come to the same as all of them
abbrev pub invariant-loop : goal.invariant-loop
invariant-loop g l = record {
  refusal : (all_takes g.P.Part.means l.time (rig_world g.P.Part.means l.self) (seen l.keyboard.keyboard)).made.refusal
      ≡ (all_takes g.P.Part.means l.time (rig_world g.P.Part.means l.initial.self) (seen l.initial.keyboard.keyboard)).made.refusal;
  world : (all_takes g.P.Part.means l.time (rig_world g.P.Part.means l.self) (seen l.keyboard.keyboard)).made.world
      ≡ (all_takes g.P.Part.means l.time (rig_world g.P.Part.means l.initial.self) (seen l.initial.keyboard.keyboard)).made.world;
  keyboard : (all_takes g.P.Part.means l.time (rig_world g.P.Part.means l.self) (seen l.keyboard.keyboard)).keyboard
      ≡ (all_takes g.P.Part.means l.time (rig_world g.P.Part.means l.initial.self) (seen l.initial.keyboard.keyboard)).keyboard;
}

abbrev pub decreases-loop : goal.decreases-loop
decreases-loop g l = length (seen l.keyboard.keyboard).waiting
