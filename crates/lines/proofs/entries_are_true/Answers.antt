use Rattle.lines.proofs.TrueEntries.{entries_true}
use Rattle.lines.proofs.entries_are_true.Goals as goal

pub returns : goal.returns
returns g c = record {
  sound = c.sound.ensures;
  entries = entries_true g.P.Part.means g.Q.Part.means g.met.P.Part.laws g.met.Q.Part.laws;
}
