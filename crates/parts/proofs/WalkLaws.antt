-- The walk leads from any state of a sound part to any other.
use Rattle.std.proofs.Common.{◌≡◌, ℕ, zero, suc, List, [], ◌∷◌, ◌++◌, length, Some, None, Option, sym, refl, ap, ◌∙◌, subst, ap₂, append_assoc, append-nil, arith}
use Rattle.events.specs.declared.items.Event.{Event}
use Rattle.parts.specs.Meaning.{Meaning, Laws}
use Rattle.parts.specs.Walk.{stepped, steps, walk, after, Stepwise, Led, WalkLeads}

-- the first of the next events, and those after it
steps_some : {S : Type 0} (m : Meaning S) (n : ℕ) (s t : S) (e : Event) → m.next s t ≡ Some e → steps m (suc n) s t ≡ e ∷ steps m n (m.taken s e) t
unfolding steps
steps_some m n s t e h = rw (h, steps)

steps_none : {S : Type 0} (m : Meaning S) (n : ℕ) (s t : S) → m.next s t ≡ None → steps m n s t ≡ []
unfolding steps
steps_none m zero s t h = refl
steps_none m (suc n) s t h = rw (h, steps)

module _ {S : Type 0} {m : Meaning S} (laws : Laws m) where
  pub walk_none : (s t : S) → m.next s t ≡ None → walk m s t ≡ []
  walk_none s t h = steps_none m (m.distance s t) s t h

  pub walk_some : (s t : S) (e : Event) → m.next s t ≡ Some e → walk m s t ≡ e ∷ walk m (m.taken s e) t
  walk_some s t e h = ap (λ (n : ℕ). steps m n s t) (sym (laws.nearer s t e h)) ∙ steps_some m (m.distance (m.taken s e) t) s t e h

  -- the walk that is left after one more event was put down
  pub walk_more : (s t next : S) (e : Event) (es more : List Event) → Some e ≡ m.next s t → next ≡ stepped m s t → more ≡ es ++ e ∷ [] → more ++ walk m next t ≡ es ++ walk m s t
  walk_more s t next e es more h n p =
      let there : next ≡ m.taken s e = n ∙ (rw (← h, stepped)) in
      ap₂ (λ (x : List Event) (y : S). x ++ walk m y t) p there ∙ append_assoc es (e ∷ []) (walk m (m.taken s e) t) ∙ ap (λ (x : List Event). es ++ x) (sym (walk_some s t e (sym h)))

  -- where there is no next event, all are put down
  pub walk_all : (s t : S) (es all : List Event) → None ≡ m.next s t → es ++ walk m s t ≡ all → es ≡ all
  walk_all s t es all h e = sym (append-nil es) ∙ sym (ap (λ (x : List Event). es ++ x) (walk_none s t (sym h))) ∙ e

  ends : (s t : S) → m.distance s t ≡ 0 → Led m s t
  ends s t z =
      let none = laws.none s t z in
      let here = laws.apart s t z in
      let empty : walk m s t ≡ [] = walk_none s t none in
      record {
        count = ap length empty ∙ sym z;
        arrives = ap (after m s) empty ∙ here;
        stepwise = subst (Stepwise m s t) (sym empty) (here, none);
      }

  goes : (n : ℕ) (s t : S) (e : Event) → m.distance s t ≡ suc n → m.next s t ≡ Some e → Led m (m.taken s e) t → Led m s t
  goes n s t e d h rest =
      let first : walk m s t ≡ e ∷ walk m (m.taken s e) t = walk_some s t e h in
      let apart : s ≡ t → ⊥ = λ same. let z : m.distance s t ≡ 0 = ap (m.distance s) (sym same) ∙ laws.together s in omega arith in
      record {
        count = ap length first ∙ ap suc rest.count ∙ laws.nearer s t e h;
        arrives = ap (after m s) first ∙ rest.arrives;
        stepwise = subst (Stepwise m s t) (sym first) (h, laws.changes s t e h, apart, rest.stepwise);
      }

  leads : (n : ℕ) (s t : S) → m.distance s t ≡ n → Led m s t
  leads zero s t d = ends s t d
  leads (suc n) s t d = by (m.next s t) refl (λ e h. leads n (m.taken s e) t (let a = laws.nearer s t e h in omega arith))
    where
      by : (o : Option Event) → m.next s t ≡ o → ((e : Event) → m.next s t ≡ Some e → Led m (m.taken s e) t) → Led m s t
      by None h rest = ends s t (laws.done s t h)
      by (Some e) h rest = goes n s t e d h (rest e h)

  pub walk_leads : WalkLeads m
  walk_leads s t = leads (m.distance s t) s t refl
