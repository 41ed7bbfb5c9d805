use Rattle.std.proofs.Common.{sym, subst}
use Rattle.input.specs.Cores.{shown}
use Rattle.stage.specs.Kept.{Kept}
use Rattle.player.proofs.Driven.{kept_record}
use Rattle.player.proofs.rigs.Rig.touch.Goals as goal

-- a driver leaves the grab that is out
pub invariant_of-self : goal.invariant_of-self
invariant_of-self g c =
    let s = c.args.self.now.stage in
    let same : Kept s.grab (shown c.record.new.core) =
    subst (Kept s.grab) (sym c.record.ensures.core) (kept_record g.P.Part.means s.grab c.args.time (shown s.core) c.args.driver.now.ids c.args.bytes.now s.same) in
    ((same, tt), (c.args.self.now.two, tt))
