-- What the release of every held key leaves: each of them was last offered at 0.
use Rattle.std.proofs.Common.{◌≡◌, ℕ, zero, suc, ◌+◌, ◌<◌, ◌≤◌, Bool, true, false, cond, eqb, List, [], ◌∷◌, ◌++◌, map, ℤ, pos, refl, ap, ◌∙◌, ⊎_elim, arith}
use Rattle.std.proofs.lemmas.Bool.{cases_Bool, cases_eq, cond-true, cond-false, cond_both, eq-eqb, ne_eqb}
use Rattle.events.specs.declared.items.Event.{Event}
use Rattle.codes.specs.Search.{ascending}
use Rattle.decoder.specs.Offers.{release}
use Rattle.decoder.specs.Runs.{last_value}

pub last_value-++ : (k : ℕ) (v : ℤ) (es fs : List Event) → last_value k v (es ++ fs) ≡ last_value k (last_value k v es) fs
last_value-++ k v [] fs = refl
last_value-++ k v (e ∷ es) fs = last_value-++ k (cond (eqb e.code k) e.value v) es fs

module _ (p : ℕ → Bool) (k : ℕ) where
  -- the value of k after the releases of those of n numbers from c on that pass
  abbrev after_releases : ℕ → ℕ → ℤ → ℤ
  after_releases c n v = last_value k v (map release (ascending p c n))

  one_released : (c n : ℕ) (v : ℤ) → p c ≡ true → after_releases c (suc n) v ≡ after_releases (suc c) n (cond (eqb c k) (pos 0) v)
  unfolding ascending
  one_released c n v y = ap (λ (cs : List ℕ). last_value k v (map release cs)) (cond-true (p c) _ _ y)

  none_released : (c n : ℕ) (v : ℤ) → p c ≡ false → after_releases c (suc n) v ≡ after_releases (suc c) n v
  unfolding ascending
  none_released c n v o = ap (λ (cs : List ℕ). last_value k v (map release cs)) (cond-false (p c) _ _ o)

  -- k is not among those that are released
  pub others_released : (c n : ℕ) (v : ℤ) → ((j : ℕ) → c ≤ j → j < c + n → p j ≡ true → j ≡ k → ⊥) → after_releases c n v ≡ v
  unfolding ascending
  others_released c zero v f = refl
  others_released c (suc n) v f =
      let rest = others_released (suc c) n v (λ j l u. f j (omega arith) (omega arith)) in
      ⊎_elim
      (λ y. one_released c n v y ∙ ap (after_releases (suc c) n) (cond-false (eqb c k) (pos 0) v (ne_eqb c k (f c (omega arith) (omega arith) y))) ∙ rest)
      (λ o. none_released c n v o ∙ rest)
      (cases_Bool (p c))

  -- at 0 already
  zero_stays : (c n : ℕ) → after_releases c n (pos 0) ≡ pos 0
  unfolding ascending
  zero_stays c zero = refl
  zero_stays c (suc n) = ⊎_elim
      (λ y. one_released c n (pos 0) y ∙ ap (after_releases (suc c) n) (cond_both (eqb c k) (pos 0) (pos 0) (λ z. z ≡ pos 0) (λ _. refl) (λ _. refl)) ∙ zero_stays (suc c) n)
      (λ o. none_released c n (pos 0) o ∙ zero_stays (suc c) n)
      (cases_Bool (p c))

  -- k is among those that are released
  pub key_released : (c n : ℕ) (v : ℤ) → c ≤ k → k < c + n → p k ≡ true → after_releases c n v ≡ pos 0
  key_released c zero v l u h = absurd (omega arith)
  key_released c (suc n) v l u h = ⊎_elim
      (λ e. one_released c n v (ap p e ∙ h) ∙ ap (after_releases (suc c) n) (cond-true (eqb c k) (pos 0) v (eq-eqb c k e)) ∙ zero_stays (suc c) n)
      (λ ne. ⊎_elim
      (λ y. one_released c n v y ∙ key_released (suc c) n (cond (eqb c k) (pos 0) v) (omega arith) (omega arith) h)
      (λ o. none_released c n v o ∙ key_released (suc c) n v (omega arith) (omega arith) h)
      (cases_Bool (p c)))
      (cases_eq c k)
