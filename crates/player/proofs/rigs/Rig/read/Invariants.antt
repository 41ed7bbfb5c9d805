use Rattle.std.proofs.Common.{◌≡◌, ◌-◌, ◌++◌, replicate, string_bytes}
use Rattle.model.specs.declared.Call.TheVariants.{Read as reading}
use Rattle.recording.specs.Commands.{device_number, seat_number}
use Rattle.desk.specs.Making.{made}
use Rattle.player.specs.Rigs.{rig_world, reads_text}
use Rattle.player.proofs.rigs.Rig.read.Given as goal

-- the reads that are left come to the same as all of them, and what was written and their lines are all the text
abbrev pub invariant-loop : goal.invariant-loop
invariant-loop g l = record {
  refusal : (made g.P.Part.means (rig_world g.P.Part.means l.self) (replicate (l.count - l.counter) (reading (seat_number l.place.seat)))).refusal
      ≡ (made g.P.Part.means (rig_world g.P.Part.means l.initial.self) (replicate l.count (reading (seat_number l.place.seat)))).refusal;
  world : (made g.P.Part.means (rig_world g.P.Part.means l.self) (replicate (l.count - l.counter) (reading (seat_number l.place.seat)))).world
      ≡ (made g.P.Part.means (rig_world g.P.Part.means l.initial.self) (replicate l.count (reading (seat_number l.place.seat)))).world;
  text : string_bytes l.text ++ reads_text g.P.Part.means g.P.Shown.words (device_number l.place.device) (rig_world g.P.Part.means l.self) (l.count - l.counter) (seat_number l.place.seat)
      ≡ string_bytes l.initial.text ++ reads_text g.P.Part.means g.P.Shown.words (device_number l.place.device) (rig_world g.P.Part.means l.initial.self) l.count (seat_number l.place.seat);
}
