-- The laws of the part of the keys.
use Rattle.std.specs.Prelude.{◌≡◌, ℕ, ◌<◌, ◌≤◌, Bool, true, false, cond, ℤ, pos, ◌≢◌, refl}
use Rattle.std.proofs.Common.{sym, ap, ◌∙◌, arith, lit≤}
use Rattle.std.proofs.lemmas.Bool.{cond-true}
use Rattle.std.proofs.lemmas.Bool.Decides.{nat_tests}
use Rattle.events.specs.declared.items.Event.{Event}
use Rattle.events.specs.Items.{same_value}
use Rattle.codes.specs.Bit.{unlike}
use Rattle.codes.proofs.BitLaws.{alike, unlike_self}
use Rattle.parts.specs.declared.Verdict.TheVariants.{Change}
use Rattle.parts.specs.Meaning.{Laws}
use Rattle.parts.proofs.ByCode.{Codes, apart, together, done, none, changes, nearer}
use Rattle.keys.specs.declared.set.Keys.{Keys}
use Rattle.keys.specs.KeySet.{held, with_key, differs}
use Rattle.keys.specs.KeysPart.{is_key, value_verdict, keys_verdict, keys_taken, towards, keys_meaning}
use Rattle.keys.specs.KeySetLaws.{same_held, code_from, held_own, held_other, with_key_moves, differs_self}

-- ---- a change

-- it is a key's
change_key : (s : Keys) (e : Event) → keys_verdict s e ≡ Change → (1 ≤ e.code) × (e.code < 768) × (value_verdict (held s e.code) e.value ≡ Change)
change_key s e v = grind (arith, nat_tests)

-- it asks for what the key is not
change_asks : (b : Bool) (v : ℤ) → value_verdict b v ≡ Change → b ≢ same_value v (pos 1)
change_asks b v e q = grind (arith, nat_tests)

pub change_taken : (s : Keys) (e : Event) → keys_verdict s e ≡ Change → keys_taken s e ≡ with_key s e.code (same_value e.value (pos 1))
change_taken s e v = grind arith

change_moves : (s : Keys) (e : Event) → keys_verdict s e ≡ Change → keys_taken s e ≢ s
change_moves s e v same =
    let k = change_key s e v in with_key_moves s e.code _ k.0 k.1 (change_asks _ e.value k.2) (sym (change_taken s e v) ∙ same)

-- ---- the next event

module _ (s t : Keys) (c : ℕ) (l : 1 ≤ c) (u : c < 768) where
  towards_change : differs s t c ≡ true → keys_verdict s (towards t c) ≡ Change
  towards_change d = cond-true (is_key (towards t c)) _ _ (code_from c l u) ∙ asked (held s c) (held t c) d
    where
      asked : (a b : Bool) → unlike a b ≡ true → value_verdict a (pos (cond b 1 0)) ≡ Change
      asked a b h = grind arith

  towards_taken : differs s t c ≡ true → keys_taken s (towards t c) ≡ with_key s c (held t c)
  towards_taken d = change_taken s (towards t c) (towards_change d) ∙ ap (with_key s c) (value_is (held t c))
    where
      value_is : (b : Bool) → same_value (pos (cond b 1 0)) (pos 1) ≡ b
      value_is true = refl
      value_is false = refl

  -- after it the key is as in the target, and the others are as they were
  towards_met : differs s t c ≡ true → differs (keys_taken s (towards t c)) t c ≡ false
  towards_met d = ap (λ (x : Keys). differs x t c) (towards_taken d) ∙ ap (λ (b : Bool). unlike b (held t c)) (held_own s c (held t c) l u) ∙ unlike_self (held t c)

  towards_others : differs s t c ≡ true → (j : ℕ) → (j ≢ c) → differs s t j ≡ differs (keys_taken s (towards t c)) t j
  towards_others d j n = ap (λ (b : Bool). unlike b (held t j)) (sym (held_other s c (held t c) j (λ q. n (sym q)))) ∙ ap (λ (x : Keys). differs x t j) (sym (towards_taken d))

by_code : Codes Keys 1 767 differs towards keys_verdict keys_taken
by_code = record {
  equal = λ s t f. same_held s t (λ c l u. alike _ _ (f c l (omega arith)));
  self = differs_self;
  change = λ s t c l u. towards_change s t c l (omega arith);
  met = λ s t c l u. towards_met s t c l (omega arith);
  others = λ s t c l u. towards_others s t c l (omega arith);
}

pub keys_laws : Laws keys_meaning
keys_laws = record {
  low = lit≤ tt;
  ordered = lit≤ tt;
  below = λ s e h. grind (arith, nat_tests);
  above = λ s e h. grind (arith, nat_tests);
  moves = change_moves;
  stays = λ s e n. grind arith;
  apart = apart by_code;
  together = together by_code;
  done = done by_code;
  none = none by_code;
  changes = changes by_code;
  nearer = nearer by_code;
}
