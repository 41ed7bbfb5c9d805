-- Lists of items and of answers.
use Rattle.std.proofs.Common.{◌≡◌, ℕ, suc, ◌+◌, true, false, ◌⊎◌, List, [], ◌∷◌, ◌++◌, sym, refl, ap, ◌∙◌, subst, inl, inr, append_assoc, arith}
use mathlib.Core.Path.{subst⁻¹}
use Rattle.std.specs.List.{AllByRecursion as Each}
use Rattle.std.proofs.lemmas.List.{same_from_push}
use Rattle.std.proofs.ByRecursion.{All-push}
use Rattle.std.proofs.lemmas.Grind.{common_steps}
use Rattle.events.specs.declared.items.Item.{Item}
use Rattle.parts.specs.Meaning.{Meaning}
use Rattle.events.specs.Items.{is_report_end}
use Rattle.model.specs.Answers.{Answered}
use Rattle.model.specs.Log.{ends, last_number, after}
use Rattle.model.specs.Heard.{told, lives, Loss, CaughtEnd}

-- `since` are the answers after a caught-up report end numbered n, with no loss mark among them
abbrev pub Since : List Answered → ℕ → List Answered → Type 0
Since h n since = (past : List Answered) × (a : Answered) × (h ≡ past ++ a ∷ since) × CaughtEnd n a × Each (λ b. Loss b → ⊥) since

pub nil_not : {A : Type 0} (a : List A) (x : A) (b : List A) → [] ≡ a ++ x ∷ b → ⊥
nil_not [] x b e = cc
nil_not (y ∷ a) x b e = cc

pub unsnoc : {A : Type 0} (x : A) (xs : List A) → (ys : List A) × (y : A) × (x ∷ xs ≡ ys ++ y ∷ [])
unsnoc x [] = ([], x, refl)
unsnoc {A} x (y ∷ xs) = let r = unsnoc y xs in (x ∷ r.0, r.1, ap (λ (t : List A). x ∷ t) r.2)

-- one more at the end: the split has it as its last, or as its middle
pub split_last : {A : Type 0} (h past since : List A) (a b : A) → h ++ b ∷ [] ≡ past ++ a ∷ since
    → ((since ≡ []) × (h ≡ past) × (b ≡ a)) ⊎ ((since' : List A) × (since ≡ since' ++ b ∷ []) × (h ≡ past ++ a ∷ since'))
split_last h past [] a b e = let r = same_from_push h past b a e in inl (refl, r.0, r.1)
split_last {A} h past (s ∷ since) a b e =
    let u = unsnoc s since in
    let e' : h ++ b ∷ [] ≡ (past ++ a ∷ u.0) ++ u.1 ∷ [] = e ∙ ap (λ (t : List A). past ++ a ∷ t) u.2 ∙ sym (append_assoc past (a ∷ u.0) (u.1 ∷ [])) in
    let r = same_from_push h (past ++ a ∷ u.0) b u.1 e' in
    inr (u.0, u.2 ∙ ap (λ (t : A). u.0 ++ t ∷ []) (sym r.1), r.0)

pub after_append : {S : Type 0} (P : Meaning S) (s : S) (a b : List Item) → after P s (a ++ b) ≡ after P (after P s a) b
after_append P s [] b = refl
after_append P s (x ∷ a) b = after_append P (P.taken s x.event) a b

pub ends_append : (a b : List Item) → ends (a ++ b) ≡ ends a + ends b
ends_append [] b = omega arith
ends_append (x ∷ a) b = let ih = ends_append a b in grind arith

pub ends_push_end : (l : List Item) (x : Item) → is_report_end x ≡ true → ends (l ++ x ∷ []) ≡ suc (ends l)
ends_push_end l x h = grind (arith, ends_append)

pub ends_push_event : (l : List Item) (x : Item) → is_report_end x ≡ false → ends (l ++ x ∷ []) ≡ ends l
ends_push_event l x h = grind (arith, ends_append)

pub last_push : (l : List Item) (x : Item) → last_number (l ++ x ∷ []) ≡ x.number
last_push [] x = refl
last_push (y ∷ []) x = refl
last_push (y ∷ z ∷ l) x = last_push (z ∷ l) x

pub told_append : (a b : List Answered) → told (a ++ b) ≡ told a ++ told b
told_append [] b = refl
told_append (x ∷ a) b = let ih = told_append a b in grind (arith, common_steps)

pub lives_append : (a b : List Answered) → lives (a ++ b) ≡ lives a ++ lives b
lives_append [] b = refl
lives_append (x ∷ a) b = let ih = lives_append a b in grind (arith, common_steps)

all_before : {A : Type 0} (P : A → Type 0) (a b : List A) → Each P (a ++ b) → Each P a × Each P b
all_before P [] b h = (tt, h)
all_before P (x ∷ a) b h = let r = all_before P a b h.1 in ((h.0, r.0), r.1)

-- one more answer since the caught-up report end
pub since_push : (h : List Answered) (n : ℕ) (since : List Answered) (a : Answered) → Since h n since → (Loss a → ⊥) → Since (h ++ a ∷ []) n (since ++ a ∷ [])
since_push h n since a s nl =
    (s.0, s.1, ap (λ (t : List Answered). t ++ a ∷ []) s.2 ∙ append_assoc s.0 (s.1 ∷ since) (a ∷ []), s.3, All-push (λ b. Loss b → ⊥) since a s.4 nl)

pub since_pull : (h : List Answered) (n : ℕ) (since : List Answered) (a : Answered) → Since (h ++ a ∷ []) n since
    → ((since ≡ []) × CaughtEnd n a) ⊎ ((since' : List Answered) × (since ≡ since' ++ a ∷ []) × Since h n since' × (Loss a → ⊥))
since_pull h n since a s =
    elim (split_last h s.0 since s.1 a s.2) [
      | inl r ↦ inl (r.0, subst⁻¹ (λ (b : Answered). CaughtEnd n b) r.2 s.3)
      | inr r ↦
          let q = all_before (λ b. Loss b → ⊥) r.0 (a ∷ []) (subst (λ (t : List Answered). Each (λ b. Loss b → ⊥) t) r.1 s.4) in
          inr (r.0, r.1, (s.0, s.1, r.2, s.3, q.0), q.1.0)
    ]
