use Rattle.lines.proofs.TrueLines.{lines_true}
use Rattle.lines.proofs.Rising.{numbers_rise}
use Rattle.lines.proofs.lines_are_true.Goals as goal

pub returns : goal.returns
returns g c = record {
  sound = c.sound.ensures;
  lines = lines_true g.P.Part.means g.met.P.Part.laws;
  rise = numbers_rise g.P.Part.means g.met.P.Part.laws;
}
