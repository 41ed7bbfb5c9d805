-- Laws of a loop over the codes that are held.
use Rattle.std.proofs.Common.{◌≡◌, [], length, None, sym, ap}
use Rattle.std.proofs.lemmas.Iterator.{YieldsList}
use Rattle.std.proofs.lemmas.Iterator.Consumers.{YieldsList-from_shown}
use Rattle.keys.specs.declared.iter.Codes.{Codes}
use Rattle.keys.specs.KeySet.{held_codes}
use Rattle.keys.specs.Iteration.{gives}
use Rattle.keys.specs.KeySetLaws.{codes_from_first}

-- where no code comes, none is left
pub gives_none : (s t : Codes) → gives s None t → held_codes s.keys ≡ []
gives_none s t e = codes_from_first s.keys (sym e.0)

-- a loop gets the codes that are held, ascending
pub codes_road : (s : Codes) → YieldsList gives (λ x. x) s (held_codes s.keys)
codes_road = YieldsList-from_shown gives (λ x. x) (λ s. held_codes s.keys) (λ s t e. ap length (gives_none s t e)) (λ s x t e. e.1)
