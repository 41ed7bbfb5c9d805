use Rattle.std.proofs.Common.{refl}
use Rattle.ring.proofs.Rotation.{put_valid}
use Rattle.ring.proofs.changes.append.Goals as goal

pub returns-then-closes-clause-valid : goal.returns-then-closes-clause-valid
returns-then-closes-clause-valid g c =
    put_valid _ _ _ _ _ c.requires.valid c.args.item c.requires.room _ c.place-at.ensures.value _ (rw (← c.if-closes.ensures) refl)

pub returns-else-closes-clause-valid : goal.returns-else-closes-clause-valid
returns-else-closes-clause-valid g c =
    put_valid _ _ _ _ _ c.requires.valid c.args.item c.requires.room _ c.place-at.ensures.value _ (rw (← c.if-closes.ensures) refl)
