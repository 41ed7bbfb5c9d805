-- What holds of a decoder over every list of bytes.
use Rattle.std.proofs.Common.{◌≡◌, ℕ, ◌≤◌, Bool, true, false, cond, not, ◌&&◌, ◌||◌, eqb, ◌⊎◌, List, [], ◌∷◌, ◌++◌, map, ℤ, pos, Some, None, Option, sym, refl, ap, ◌∙◌, subst, inl, inr, ⊎_elim, arith}
use Rattle.std.specs.List.{AllByRecursion as Each}
use Rattle.std.proofs.ByRecursion.{All-append}
use Rattle.std.proofs.lemmas.Bool.{cases_Bool, cond-true, cond-false, cond_both, ne_eqb, both_ways}
use Rattle.events.specs.declared.items.Event.{Event}
use Rattle.keys.specs.declared.set.Keys.{Keys}
use Rattle.keys.specs.Words.{is_code}
use Rattle.keys.specs.KeySet.{held, with_key, no_keys, held_codes}
use Rattle.keys.specs.KeySetLaws.{none_held, held_code, code_from, held_with_key, held_own}
use Rattle.set2.specs.declared.Table.{Table}
use Rattle.set2.specs.declared.Table.TheVariants.{Plain, Extended}
use Rattle.set2.specs.Set2.{key_of}
use Rattle.set2.proofs.Tables.{key_range}
use Rattle.decoder.specs.declared.Prefix.{Prefix}
use Rattle.decoder.specs.declared.Prefix.TheVariants.{E0, E1, E1Code}
use Rattle.decoder.specs.declared.Decoder.{Decoder}
use Rattle.decoder.specs.Offers.{key_event, release, events_of}
use Rattle.decoder.specs.Steps.{Step, fresh, silent, found, look_up, value_of, by_prefix, code_step, step}
use Rattle.decoder.specs.Runs.{after, offered, last_value, not_zero, HeldIsLastOffered, DeafPressesNothing, make, break, AtRest, MakeAndBreak, IsCode, TwoPassedOver, Laws}
use Rattle.decoder.proofs.Releases.{last_value-++, others_released, key_released}

-- ---- the keys held are those last offered not at 0

-- what the value last offered for k says of the keys held
Told : ℕ → ℤ → Keys → Type 0
Told k v s = held s k ≡ not_zero v

-- the same after a step
ToldBy : ℕ → ℤ → Step → Type 0
ToldBy k v o = Told k (last_value k v (events_of o.offer)) o.decoder.held

released_all : (s : Keys) (k : ℕ) (v : ℤ) → Told k v s → Told k (last_value k v (map release (held_codes s))) no_keys
unfolding Told
released_all s k v t = none_held k ∙ sym (⊎_elim
    (λ h. let r = held_code s k h in ap not_zero (key_released (held s) k 1 767 v r.0 (omega arith) h))
    (λ h. ap not_zero (others_released (held s) k 1 767 v (λ j l u y e. both_ways _ h (ap (held s) (sym e) ∙ y))) ∙ sym t ∙ h)
    (cases_Bool (held s k)))

-- a key's value says whether it is held from then on
value_told : (released down : Bool) → not released ≡ not_zero (pos (value_of released down))
value_told true down = refl
value_told false true = refl
value_told false false = refl

found_told : (d : Decoder) (k : ℕ) (v : ℤ) → Told k v d.held → (o : Option ℕ) → ((c : ℕ) → o ≡ Some c → (1 ≤ c) × (c ≤ 767)) → ToldBy k v (found d o)
unfolding Told ToldBy
found_told d k v t None h = t
found_told d k v t (Some c) h =
    let r = h c refl in
    let is : is_code c ≡ true = code_from c r.0 (omega arith) in
    held_with_key d.held c (not d.released) k ∙ ap (λ (b : Bool). cond (b && eqb c k) (not d.released) (held d.held k)) is ∙ by (eqb c k)
  where
    by : (b : Bool) → cond (true && b) (not d.released) (held d.held k) ≡ not_zero (cond b (pos (value_of d.released (held d.held c))) v)
    by true = value_told d.released (held d.held c)
    by false = t

either : (P : Step → Type 0) (b : Bool) (x y : Step) → P x → P y → P (cond b x y)
either P b x y p q = cond_both b x y P (λ _. p) (λ _. q)

code_told : (d : Decoder) (code k : ℕ) (v : ℤ) → Told k v d.held → (p : Option Prefix) → ToldBy k v (by_prefix d code p)
unfolding Told ToldBy
code_told d code k v t None = found_told d k v t (key_of Plain code) (key_range Plain code)
code_told d code k v t (Some E0) = found_told d k v t (key_of Extended code) (key_range Extended code)
code_told d code k v t (Some E1) = t
code_told d code k v t (Some E1Code) = t

step_told : (d : Decoder) (b k : ℕ) (v : ℤ) → Told k v d.held → ToldBy k v (step d b)
unfolding Told ToldBy
step_told d b k v t =
    let P : Step → Type 0 = ToldBy k v in
    either P (eqb b 0xaa) _ _ (released_all d.held k v t)
    (either P d.deaf _ _ t
    (either P (eqb b 0x00 || eqb b 0xff) _ _ (released_all d.held k v t)
    (either P (eqb b 0xe0) _ _ t
    (either P (eqb b 0xe1) _ _ t
    (either P (eqb b 0xf0) _ _ t (code_told d b k v t d.prefix))))))

told : (bs : List ℕ) (d : Decoder) (k : ℕ) (v : ℤ) → Told k v d.held → Told k (last_value k v (offered d bs)) (after d bs).held
unfolding Told ToldBy
told [] d k v t = t
told (b ∷ bs) d k v t =
    told bs (step d b).decoder k (last_value k v (events_of (step d b).offer)) (step_told d b k v t)
    ∙ ap not_zero (sym (last_value-++ k v (events_of (step d b).offer) (offered (step d b).decoder bs)))

held_is_last_offered : HeldIsLastOffered
unfolding Told
held_is_last_offered bs k = told bs fresh k (pos 0) (none_held k)

-- ---- deafness

ReleasesOnly : List Event → Type 0
ReleasesOnly es = Each (λ e. e.value ≡ pos 0) es

all_releases : (cs : List ℕ) → ReleasesOnly (map release cs)
unfolding ReleasesOnly
all_releases [] = tt
all_releases (c ∷ cs) = (refl, all_releases cs)

-- a deaf decoder drops all but AA
deaf_step : (d : Decoder) (b : ℕ) → d.deaf ≡ true → (b ≡ 0xaa → ⊥) → step d b ≡ silent d
deaf_step d b deaf ne = cond-false (eqb b 0xaa) _ _ (ne_eqb b 0xaa ne) ∙ cond-true d.deaf _ _ deaf

deaf_offers : (bs : List ℕ) (d : Decoder) → d.deaf ≡ true → Each (λ x. x ≡ 0xaa → ⊥) bs → offered d bs ≡ []
deaf_offers [] d deaf ne = refl
deaf_offers (b ∷ bs) d deaf ne =
    ap (λ (o : Step). events_of o.offer ++ offered o.decoder bs) (deaf_step d b deaf ne.0) ∙ deaf_offers bs d deaf ne.1

-- after 00 or FF the decoder is deaf, and what they offer are releases
Deafens : Step → Type 0
Deafens o = (o.decoder.deaf ≡ true) × ReleasesOnly (events_of o.offer)

loss_byte : (b : ℕ) → (b ≡ 0x00) ⊎ (b ≡ 0xff) → (b ≡ 0xaa → ⊥) × ((eqb b 0x00 || eqb b 0xff) ≡ true)
loss_byte b (inl e) = (λ h. omega arith, ap (λ (x : ℕ). eqb x 0x00 || eqb x 0xff) e)
loss_byte b (inr e) = (λ h. omega arith, ap (λ (x : ℕ). eqb x 0x00 || eqb x 0xff) e)

deafens : (d : Decoder) (b : ℕ) → (b ≡ 0x00) ⊎ (b ≡ 0xff) → Deafens (step d b)
unfolding Deafens ReleasesOnly
deafens d b h =
    let l = loss_byte b h in
    ⊎_elim
    (λ deaf. subst Deafens (sym (deaf_step d b deaf l.0)) (deaf, tt))
    (λ awake. subst Deafens
    (sym (cond-false (eqb b 0xaa) _ _ (ne_eqb b 0xaa l.0) ∙ cond-false d.deaf _ _ awake ∙ cond-true (eqb b 0x00 || eqb b 0xff) _ _ l.1))
    (refl, all_releases (held_codes d.held)))
    (cases_Bool d.deaf)

deaf_presses_nothing : DeafPressesNothing
unfolding Deafens ReleasesOnly
deaf_presses_nothing before bs b h ne =
    let d = after fresh before in
    let q = deafens d b h in
    All-append (λ e. e.value ≡ pos 0) (events_of (step d b).offer) (offered (step d b).decoder bs) q.1
    (subst (Each (λ e. e.value ≡ pos 0)) (sym (deaf_offers bs (step d b).decoder q.0 ne)) tt)

-- ---- codes

-- a byte that is none of the others is a code
is_step : (d : Decoder) (b : ℕ) → d.deaf ≡ false → IsCode b → step d b ≡ code_step d b
is_step d b awake (n0, (n1, (n2, (n3, (n4, (n5, _)))))) =
    cond-false (eqb b 0xaa) _ _ (ne_eqb b 0xaa n0)
    ∙ cond-false d.deaf _ _ awake
    ∙ cond-false (eqb b 0x00 || eqb b 0xff) _ _ (ap (λ (x : Bool). x || eqb b 0xff) (ne_eqb b 0x00 n1) ∙ ne_eqb b 0xff n2)
    ∙ cond-false (eqb b 0xe0) _ _ (ne_eqb b 0xe0 n3)
    ∙ cond-false (eqb b 0xe1) _ _ (ne_eqb b 0xe1 n4)
    ∙ cond-false (eqb b 0xf0) _ _ (ne_eqb b 0xf0 n5)

-- what no key stands for is none of the listed codes
unlisted : (table : Table) (code x k : ℕ) → key_of table x ≡ None → key_of table code ≡ Some k → code ≡ x → ⊥
unlisted table code x k n e same = let z : ◌≡◌ {A = ℕ} 0 1 = cc (ap (key_of table) same) in omega arith

listed_code : (table : Table) (code k : ℕ) → key_of table code ≡ Some k → IsCode code
unfolding key_of
listed_code Plain code k e = (
  unlisted Plain code 0xaa k refl e,
  (
    unlisted Plain code 0x00 k refl e,
    (
      unlisted Plain code 0xff k refl e,
      (unlisted Plain code 0xe0 k refl e, (unlisted Plain code 0xe1 k refl e, (unlisted Plain code 0xf0 k refl e, tt))),
    ),
  ),
)
listed_code Extended code k e = (
  unlisted Extended code 0xaa k refl e,
  (
    unlisted Extended code 0x00 k refl e,
    (
      unlisted Extended code 0xff k refl e,
      (unlisted Extended code 0xe0 k refl e, (unlisted Extended code 0xe1 k refl e, (unlisted Extended code 0xf0 k refl e, tt))),
    ),
  ),
)

-- ---- make and break

-- a decoder that is not deaf, by its prefix
waits : Option Prefix → Bool → Keys → Decoder
waits p released s = record { prefix = p; released = released; deaf = false; held = s }

resting : (d : Decoder) → AtRest d → d ≡ waits None false d.held
unfolding waits
resting d (p, r, f) = λ i. record { prefix = p i; released = r i; deaf = f i; held = d.held }

-- a listed code after its prefixes
Found : Decoder → ℕ → ℕ → Bool → Type 0
Found d code k released =
    (events_of (step d code).offer ≡ key_event k (value_of released (held d.held k)) ∷ [])
    × ((step d code).decoder ≡ record { prefix = None; released = false; deaf = false; held = with_key d.held k (not released) })

listed_step : (p : Option Prefix) (released : Bool) (s : Keys) (table : Table) (code k : ℕ) → by_prefix (waits p released s) code p ≡ look_up (waits p released s) table code
    → key_of table code ≡ Some k → Found (waits p released s) code k released
unfolding waits Found
listed_step p released s table code k same e =
    let d = waits p released s in
    let all : step d code ≡ found d (Some k) = is_step d code refl (listed_code table code k e) ∙ same ∙ ap (found d) e in
    (ap (λ (o : Step). events_of o.offer) all, ap (λ (o : Step). o.decoder) all)

-- the outcome of the bytes for one key: one event, at rest again, the key held or not
Once : Decoder → List ℕ → ℕ → Bool → Type 0
Once d bs k released =
    (offered d bs ≡ key_event k (value_of released (held d.held k)) ∷ [])
    × (after d bs ≡ record { prefix = None; released = false; deaf = false; held = with_key d.held k (not released) })

once_code : (d : Decoder) (code k : ℕ) (released : Bool) → Found d code k released → Once d (code ∷ []) k released
unfolding Found Once
once_code d code k released f = (ap (λ (es : List Event). es ++ []) f.0, f.1)

makes : (s : Keys) (table : Table) (code k : ℕ) → key_of table code ≡ Some k → Once (waits None false s) (make table code) k false
unfolding waits Found Once
makes s Plain code k e = once_code (waits None false s) code k false (listed_step None false s Plain code k refl e)
makes s Extended code k e = once_code (waits (Some E0) false s) code k false (listed_step (Some E0) false s Extended code k refl e)

breaks : (s : Keys) (table : Table) (code k : ℕ) → key_of table code ≡ Some k → Once (waits None false s) (break table code) k true
unfolding waits Found Once
breaks s Plain code k e = once_code (waits None true s) code k true (listed_step None true s Plain code k refl e)
breaks s Extended code k e = once_code (waits (Some E0) true s) code k true (listed_step (Some E0) true s Extended code k refl e)

rests : (d : Decoder) (s : Keys) → d ≡ record { prefix = None; released = false; deaf = false; held = s } → AtRest d
rests d s e = (ap (λ (x : Decoder). x.prefix) e, ap (λ (x : Decoder). x.released) e, ap (λ (x : Decoder). x.deaf) e)

value_made : (down : Bool) → value_of false down ≡ cond down 2 1
value_made down = refl

make_and_break_at : (s : Keys) (table : Table) (code k : ℕ) → key_of table code ≡ Some k
    → (offered (waits None false s) (make table code) ≡ key_event k (cond (held s k) 2 1) ∷ [])
    × (offered (waits None false s) (break table code) ≡ key_event k 0 ∷ [])
    × AtRest (after (waits None false s) (make table code))
    × AtRest (after (waits None false s) (break table code))
    × (held (after (waits None false s) (make table code)).held k ≡ true)
    × (held (after (waits None false s) (break table code)).held k ≡ false)
unfolding waits Once
make_and_break_at s table code k e =
    let r = key_range table code k e in
    let m = makes s table code k e in
    let b = breaks s table code k e in (
      m.0,
      b.0,
      rests _ _ m.1,
      rests _ _ b.1,
      ap (λ (x : Decoder). held x.held k) m.1 ∙ held_own s k true r.0 (omega arith),
      ap (λ (x : Decoder). held x.held k) b.1 ∙ held_own s k false r.0 (omega arith),
    )

make_and_break : MakeAndBreak
unfolding waits
make_and_break d rest table code k e =
    subst (λ (x : Decoder). (offered x (make table code) ≡ key_event k (cond (held x.held k) 2 1) ∷ [])
    × (offered x (break table code) ≡ key_event k 0 ∷ [])
    × AtRest (after x (make table code))
    × AtRest (after x (break table code))
    × (held (after x (make table code)).held k ≡ true)
    × (held (after x (break table code)).held k ≡ false))
    (sym (resting d rest)) (make_and_break_at d.held table code k e)

-- ---- the codes after E1

first_passed : (released : Bool) (s : Keys) (b : ℕ) → IsCode b → step (waits (Some E1) released s) b ≡ silent (waits (Some E1Code) released s)
unfolding waits
first_passed released s b is = is_step (waits (Some E1) released s) b refl is

second_passed : (released : Bool) (s : Keys) (b : ℕ) → IsCode b → step (waits (Some E1Code) released s) b ≡ silent (waits None false s)
unfolding waits
second_passed released s b is = is_step (waits (Some E1Code) released s) b refl is

-- a run of silent steps
Silent : Decoder → List ℕ → Keys → Type 0
Silent d bs s = (offered d bs ≡ []) × (after d bs ≡ record { prefix = None; released = false; deaf = false; held = s })

silent_on : (d e : Decoder) (b : ℕ) (bs : List ℕ) (s : Keys) → step d b ≡ silent e → Silent e bs s → Silent d (b ∷ bs) s
unfolding Silent
silent_on d e b bs s h (o, a) =
    (ap (λ (x : Step). events_of x.offer ++ offered x.decoder bs) h ∙ o, ap (λ (x : Step). after x.decoder bs) h ∙ a)

pause_plain : (s : Keys) (b c : ℕ) → IsCode b → IsCode c → Silent (waits (Some E1) false s) (b ∷ c ∷ []) s
unfolding waits Silent
pause_plain s b c p q =
    silent_on (waits (Some E1) false s) (waits (Some E1Code) false s) b (c ∷ []) s (first_passed false s b p)
    (silent_on (waits (Some E1Code) false s) (waits None false s) c [] s (second_passed false s c q) (refl, refl))

pause_released : (s : Keys) (b c : ℕ) → IsCode b → IsCode c → Silent (waits (Some E1) false s) (0xf0 ∷ b ∷ 0xf0 ∷ c ∷ []) s
unfolding waits Silent
pause_released s b c p q =
    silent_on (waits (Some E1) false s) (waits (Some E1) true s) 0xf0 (b ∷ 0xf0 ∷ c ∷ []) s refl
    (silent_on (waits (Some E1) true s) (waits (Some E1Code) true s) b (0xf0 ∷ c ∷ []) s (first_passed true s b p)
    (silent_on (waits (Some E1Code) true s) (waits (Some E1Code) true s) 0xf0 (c ∷ []) s refl
    (silent_on (waits (Some E1Code) true s) (waits None false s) c [] s (second_passed true s c q) (refl, refl))))

pause_starts : (d : Decoder) → d.deaf ≡ false → step d 0xe1 ≡ silent (waits (Some E1) false d.held)
unfolding waits
pause_starts d awake =
    cond-false d.deaf _ _ awake ∙ ap (λ (f : Bool). silent (record { prefix = Some E1; released = false; deaf = f; held = d.held })) awake

two_passed_over : TwoPassedOver
unfolding Silent
two_passed_over d awake b c p q =
    let m = silent_on d (waits (Some E1) false d.held) 0xe1 (b ∷ c ∷ []) d.held (pause_starts d awake) (pause_plain d.held b c p q) in
    let n = silent_on d (waits (Some E1) false d.held) 0xe1 (0xf0 ∷ b ∷ 0xf0 ∷ c ∷ []) d.held (pause_starts d awake) (pause_released d.held b c p q) in
    (m.0, n.0, rests _ _ m.1, rests _ _ n.1, ap (λ (x : Decoder). x.held) m.1, ap (λ (x : Decoder). x.held) n.1)

pub decoder_laws : Laws
decoder_laws =
    record {
      held_is_last_offered = held_is_last_offered;
      deaf_presses_nothing = deaf_presses_nothing;
      make_and_break = make_and_break;
      two_passed_over = two_passed_over;
    }
