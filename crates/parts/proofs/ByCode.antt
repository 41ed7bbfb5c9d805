-- A part whose states differ code by code, and whose next event concerns the smallest code that differs: laws 3 and 4 from what one event does.
use Rattle.std.proofs.Common.{◌≡◌, ℕ, suc, ◌+◌, ◌<◌, ◌≤◌, Bool, true, false, Some, None, Option, refl, ap, ◌∙◌}
use Rattle.std.specs.Option.{option_map}
use Rattle.events.specs.declared.items.Event.{Event}
use Rattle.codes.specs.Search.{smallest, counted}
use Rattle.codes.proofs.SearchLaws.{smallest_some, smallest_none, counted_none, counted_zero, false_from_zero, counted_less}
use Rattle.parts.specs.declared.Verdict.{Verdict}
use Rattle.parts.specs.declared.Verdict.TheVariants.{Change}

pub mapped_some : {A B : Type 0} (f : A → B) (o : Option A) (y : B) → option_map f o ≡ Some y → (x : A) × (o ≡ Some x) × (y ≡ f x)
mapped_some f None y e = absurd cc
mapped_some f (Some x) y e = (x, refl, cc)

pub mapped_none : {A B : Type 0} (f : A → B) (o : Option A) → option_map f o ≡ None → o ≡ None
mapped_none f None e = refl
mapped_none f (Some x) e = absurd cc

-- what one event towards a target does, of the n codes from `from` on
pub record Codes (S : Type 0) (from n : ℕ) (differs : S → S → ℕ → Bool) (towards : S → ℕ → Event) (verdict : S → Event → Verdict) (taken : S → Event → S) : Type 0 where
  -- states that differ at no code are equal, and no state differs from itself
  pub equal : (s t : S) → ((c : ℕ) → from ≤ c → c < from + n → differs s t c ≡ false) → s ≡ t
  pub self : (s : S) (c : ℕ) → differs s s c ≡ false
  -- where they differ, the event for that code is a change, after which they differ there no more and elsewhere as before
  pub change : (s t : S) (c : ℕ) → from ≤ c → c < from + n → differs s t c ≡ true → verdict s (towards t c) ≡ Change
  pub met : (s t : S) (c : ℕ) → from ≤ c → c < from + n → differs s t c ≡ true → differs (taken s (towards t c)) t c ≡ false
  pub others : (s t : S) (c : ℕ) → from ≤ c → c < from + n → differs s t c ≡ true → (j : ℕ) → (j ≡ c → ⊥) → differs s t j ≡ differs (taken s (towards t c)) t j

module _ {S : Type 0} {from n : ℕ} {differs : S → S → ℕ → Bool} {towards : S → ℕ → Event} {verdict : S → Event → Verdict} {taken : S → Event → S} (k : Codes S from n differs towards verdict taken) where
  pub apart : (s t : S) → counted (differs s t) from n ≡ 0 → s ≡ t
  apart s t z = k.equal s t (false_from_zero (differs s t) from n z)

  pub together : (s : S) → counted (differs s s) from n ≡ 0
  together s = counted_zero (differs s s) from n (λ j l u. k.self s j)

  pub done : (s t : S) → option_map (towards t) (smallest (differs s t) from n) ≡ None → counted (differs s t) from n ≡ 0
  done s t e = counted_none (differs s t) from n (mapped_none (towards t) _ e)

  pub none : (s t : S) → counted (differs s t) from n ≡ 0 → option_map (towards t) (smallest (differs s t) from n) ≡ None
  none s t z = ap (option_map (towards t)) (smallest_none (differs s t) from n (false_from_zero (differs s t) from n z))

  pub changes : (s t : S) (e : Event) → option_map (towards t) (smallest (differs s t) from n) ≡ Some e → verdict s e ≡ Change
  changes s t e h =
      let m = mapped_some (towards t) (smallest (differs s t) from n) e h in
      let r = smallest_some (differs s t) from n m.0 m.1 in
      ap (verdict s) m.2 ∙ k.change s t m.0 r.0 r.1 r.2

  pub nearer : (s t : S) (e : Event) → option_map (towards t) (smallest (differs s t) from n) ≡ Some e → suc (counted (differs (taken s e) t) from n) ≡ counted (differs s t) from n
  nearer s t e h =
      let m = mapped_some (towards t) (smallest (differs s t) from n) e h in
      let c = m.0 in
      let r = smallest_some (differs s t) from n c m.1 in
      ap (λ (x : Event). suc (counted (differs (taken s x) t) from n)) m.2
      ∙ counted_less (differs s t) (differs (taken s (towards t c)) t) from n c r.0 r.1 r.2 (k.met s t c r.0 r.1 r.2) (k.others s t c r.0 r.1 r.2)
