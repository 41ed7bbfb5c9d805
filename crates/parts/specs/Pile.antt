-- Two parts as one.
use Rattle.std.specs.Prelude.{◌+◌, Bool, cond, ◌&&◌, nat_le, nat_lt}
use Rattle.std.specs.Option.{option_or}
use Rattle.events.specs.declared.items.Event.{Event}
use Rattle.events.specs.Items.{address}
use Rattle.parts.specs.declared.pair.Pair.{Pair}
use Rattle.parts.specs.Meaning.{Meaning}

-- whether an event goes to the upper half: all addresses up to that half's last do
abbrev pub goes_up : {A : Type 0} → Meaning A → Event → Bool
goes_up a e = nat_le (address e) a.last

-- A over B: sound where both are and A ends below B's begin
abbrev pub over : {A B : Type 0} → Meaning A → Meaning B → Meaning (Pair A B)
over a b = record {
  first = a.first;
  last = b.last;
  sound = a.sound && (b.sound && nat_lt a.last b.first);
  empty = record { upper = a.empty; lower = b.empty };
  verdict = λ s e. cond (goes_up a e) (a.verdict s.upper e) (b.verdict s.lower e);
  taken = λ s e. cond (goes_up a e)
      (record { upper = a.taken s.upper e; lower = s.lower })
      (record { upper = s.upper; lower = b.taken s.lower e });
  distance = λ s t. a.distance s.upper t.upper + b.distance s.lower t.lower;
  next = λ s t. option_or (a.next s.upper t.upper) (b.next s.lower t.lower);
}
