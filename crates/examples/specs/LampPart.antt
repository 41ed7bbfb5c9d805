-- A lamp that is lit or not: type 17, code 0, values 0 and 1.
use Rattle.std.specs.Prelude.{ℕ, zero, suc, Bool, true, false, cond, not, ◌&&◌, ℤ, pos, negsuc, Some, None, Option, ◌==◌}
use Rattle.events.specs.declared.items.Event.{Event}
use Rattle.parts.specs.declared.Verdict.{Verdict}
use Rattle.parts.specs.declared.Verdict.TheVariants.{Stranger, BadValue, Same, Passing, Change}
use Rattle.parts.specs.Meaning.{Meaning}
use Rattle.examples.specs.declared.lamp.Lamp.{Lamp}

abbrev pub value_verdict : Bool → ℤ → Verdict
value_verdict lit (pos zero) = cond lit Change Same
value_verdict lit (pos (suc zero)) = cond lit Same Change
value_verdict lit (pos (suc (suc n))) = BadValue
value_verdict lit (negsuc n) = BadValue

abbrev pub lamp_verdict : Lamp → Event → Verdict
lamp_verdict s e = cond (e.kind == 17 && e.code == 0) (value_verdict s.lit e.value) Stranger

-- a change turns the lamp over
abbrev pub turned : Verdict → Lamp → Lamp
turned Stranger s = s
turned BadValue s = s
turned Same s = s
turned Passing s = s
turned Change s = record { lit = not s.lit }

abbrev pub gap : Bool → Bool → ℕ
gap true true = 0
gap true false = 1
gap false true = 1
gap false false = 0

-- the event that lights the lamp, or puts it out
abbrev pub lamp_event : Bool → Event
lamp_event lit = record { kind = 17; code = 0; value = pos (cond lit 1 0) }

abbrev pub lamp_next : Bool → Bool → Option Event
lamp_next true true = None
lamp_next true false = Some (lamp_event false)
lamp_next false true = Some (lamp_event true)
lamp_next false false = None

abbrev pub lamp : Meaning Lamp
lamp = record {
  first = 1114112;
  last = 1114112;
  sound = true;
  empty = record { lit = false };
  verdict = lamp_verdict;
  taken = λ s e. turned (lamp_verdict s e) s;
  distance = λ s t. gap s.lit t.lit;
  next = λ s t. lamp_next s.lit t.lit;
}
