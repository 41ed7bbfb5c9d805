use Rattle.std.proofs.Common.{sym, subst}
use Rattle.input.specs.Cores.{shown}
use Rattle.keyboard.specs.Takes.{seen}
use Rattle.stage.specs.Kept.{Kept}
use Rattle.player.proofs.Driven.{kept_take}
use Rattle.player.proofs.rigs.Rig.take.Goals as goal

-- a driver leaves the grab that is out
pub invariant_of-self : goal.invariant_of-self
invariant_of-self g c =
    let s = c.args.self.now.stage in
    let same : Kept s.grab (shown c.take.new.core) =
    subst (Kept s.grab) (sym c.take.ensures.core) (kept_take g.P.Part.means s.grab c.args.time (shown s.core) (seen c.args.keyboard.now.keyboard) s.same) in
    ((same, tt), (c.args.self.now.two, tt))
