use Rattle.ring.proofs.Rotation.{taken}
use Rattle.ring.proofs.changes.take.Goals as goal

pub returns-clause-after : goal.returns-clause-after
returns-clause-after g c = rw (taken _ _ _ _ _ c.requires c.if-span-eq0.false c.index-slots-span.result _ c.place-span.ensures.value)
