use Rattle.model.proofs.Steps.{faithful}
use Rattle.model.proofs.promises.Goals as goal

pub returns : goal.returns
returns g c = record { sound = c.sound.ensures; faithful = faithful g.P.Part.means g.met.P.Part.laws }
