use Rattle.std.proofs.Common.{sym, subst}
use Rattle.keys.specs.Words.{Keyset, flipped_ok}
use Rattle.keys.specs.KeySetLaws.{code_parts}
use Rattle.keys.proofs.WordLaws.{written}
use Rattle.keys.proofs.set.Keys.turn.Goals as goal

pub invariant_of-self : goal.invariant_of-self
invariant_of-self c =
    let r = code_parts c.args.code (sym c.if-is_code.ensures) in
    record { ok = subst Keyset (written c.args.self.now.words c.args.code) (flipped_ok c.args.self.now.words c.args.code r.0 r.1 c.args.self.now.ok) }
