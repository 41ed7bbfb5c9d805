-- What the core knows of the fingers is what the driver last offered.
use Rattle.std.proofs.Common.{◌≡◌, ℕ, zero, suc, ◌<◌, ◌≤◌, Bool, true, false, cond, eqb, ltb, leb, List, [], ◌∷◌, ◌++◌, length, get_or, map, take, drop, set, ℤ, pos, Some, None, Ok, Err, Option, Result, sym, refl, ap, ◌∙◌, subst, ⊎_elim, arith, lit<, lit≤, length-set, get_or-set_other, get_or-set_same}
use Rattle.std.specs.List.{AllByRecursion as Each}
use Rattle.std.proofs.ByRecursion.{All-get_or, All-take, All-drop}
use Rattle.std.proofs.lemmas.List.{get_or_past, get_or-replicate}
use Rattle.std.proofs.lemmas.Bool.{cases_eq, cases_lt, cond-true, cond_both, le-leb, eqb-false, ltb-false, and_from, or_parts}
use Rattle.std.specs.Option.{option_map}
use Rattle.std.specs.Simd.{first_chunks}
use Rattle.events.specs.declared.items.Event.{Event}
use Rattle.events.specs.declared.refusals.Refusal.{Refusal}
use Rattle.events.specs.Items.{same_value}
use Rattle.parts.specs.declared.Verdict.TheVariants.{Same, Change}
use Rattle.parts.specs.declared.pair.Pair.{Pair}
use Rattle.parts.specs.Meaning.{Meaning}
use Rattle.parts.specs.Pile.{goes_up, over}
use Rattle.parts.specs.Walk.{after}
use Rattle.keys.specs.declared.set.Keys.{Keys}
use Rattle.keys.specs.KeySet.{held, with_key}
use Rattle.keys.specs.KeysPart.{keys_verdict, keys_taken, value_verdict, keys_meaning}
use Rattle.keys.specs.KeySetLaws.{none_held, held_own}
use Rattle.keys.specs.KeysLaws.{keys_laws, change_taken}
use Rattle.slots.specs.declared.Field.{Field}
use Rattle.slots.specs.declared.Field.TheVariants.{Id, X, Y}
use Rattle.slots.specs.declared.Slot.{Slot}
use Rattle.slots.specs.declared.Slots.{Slots}
use Rattle.slots.specs.Ranges.{legal, is_slot}
use Rattle.slots.specs.SlotsPart.{unused, put, slot, select, fill, slots}
use Rattle.slots.specs.SlotLaws.{get_put}
use Rattle.slots.specs.SlotsLaws.{within_ten, slots_laws}
use Rattle.model.specs.Core.{Core}
use Rattle.input.specs.Cores.{readiness}
use Rattle.driver.specs.Offering.{offered}
use Rattle.driver.proofs.Offered.{Stays, is_ready, report_state, offered_state}
use Rattle.touch.specs.declared.entries.Entry.{Entry}
use Rattle.touch.specs.declared.entries.Finger.{Finger}
use Rattle.touch.specs.Entries.{word, id_in, entry_of, entries_of, id_value, some_above, slot_event, finger_events, entry_events, entries_events, ids_after, some_down, touch_key, record_events}
use Rattle.touch.specs.Records.{legible, handled, unless}
use Rattle.touch.specs.Runs.{panel_meaning, Arrival, Panel, new_ids, new_panel, arrived, arrivals, OfBytes, Agree, CoreAgrees, Laws}

-- ---- one part over another

over_stays : {A B : Type 0} (a : Meaning A) (b : Meaning B) → Stays a → Stays b → Stays (over a b)
over_stays {A} {B} a b p q s e h = go (goes_up a e) h
  where
    go : (up : Bool) → (cond up (a.verdict s.upper e) (b.verdict s.lower e) ≡ Change → ⊥)
        → cond up (record { upper = a.taken s.upper e; lower = s.lower }) (record { upper = s.upper; lower = b.taken s.lower e }) ≡ s
    go true h = ap (λ (x : A). record { upper = x; lower = s.lower }) (p s.upper e h)
    go false h = ap (λ (x : B). record { upper = s.upper; lower = x }) (q s.lower e h)

after-++ : {S : Type 0} (P : Meaning S) (s : S) (es fs : List Event) → after P s (es ++ fs) ≡ after P (after P s es) fs
after-++ P s [] fs = refl
after-++ P s (e ∷ es) fs = after-++ P (P.taken s e) es fs

-- ---- slots

-- the id of each slot
HasIds : Slots → List (Option ℕ) → Type 0
HasIds s ids = (length ids ≡ 10) × ((i : ℕ) → i < 10 → (slot s i).id ≡ id_value (get_or ids i None))

fill_own : (s : Slots) (f : Field) (v : ℤ) → slot (fill s f v) s.selected ≡ put (slot s s.selected) f v
fill_own s f v = get_or-set_same s.slots s.selected _ unused (within_ten s s.selected s.ok.1)

fill_other : (s : Slots) (f : Field) (v : ℤ) (i : ℕ) → (i ≡ s.selected → ⊥) → slot (fill s f v) i ≡ slot s i
fill_other s f v i n = get_or-set_other s.slots s.selected i _ unused n

-- a write to x or y leaves the ids
place_keeps : (s : Slots) (f : Field) (v : ℤ) (ids : List (Option ℕ)) → ((a : Slot) → (put a f v).id ≡ a.id) → HasIds s ids → HasIds (fill s f v) ids
unfolding HasIds
place_keeps s f v ids same (ten, h) = (
  ten,
  λ i l. ⊎_elim
      (λ e. ap (λ (j : ℕ). (slot (fill s f v) j).id) e ∙ ap (λ (a : Slot). a.id) (fill_own s f v) ∙ same (slot s s.selected) ∙ ap (λ (j : ℕ). (slot s j).id) (sym e) ∙ h i l)
      (λ n. ap (λ (a : Slot). a.id) (fill_other s f v i n) ∙ h i l)
      (cases_eq i s.selected),
)

-- a write to the id of the selected slot
id_written : (s : Slots) (id : Option ℕ) (ids : List (Option ℕ)) → legal Id (id_value id) ≡ true → HasIds s ids → HasIds (fill s Id (id_value id)) (set ids s.selected id)
unfolding HasIds
id_written s id ids ok (ten, h) = (
  length-set ids s.selected id ∙ ten,
  λ i l. let v = id_value id in ⊎_elim
      (λ e. ap (λ (j : ℕ). (slot (fill s Id v) j).id) e
      ∙ ap (λ (a : Slot). a.id) (fill_own s Id v)
      ∙ get_put (slot s s.selected) Id v ok
      ∙ ap id_value (sym (get_or-set_same ids s.selected id None (subst (λ (n : ℕ). s.selected < n) (sym ten) s.ok.1)))
      ∙ ap (λ (j : ℕ). id_value (get_or (set ids s.selected id) j None)) (sym e))
      (λ n. ap (λ (a : Slot). a.id) (fill_other s Id v i n) ∙ h i l ∙ ap id_value (sym (get_or-set_other ids s.selected i id None n)))
      (cases_eq i s.selected),
)

-- a slot that is named is selected
selected_is : (s : Slots) (n : ℕ) → n < 10 → (select s (pos n)).selected ≡ n
selected_is s n l = cond-true (is_slot (pos n)) n s.selected (and_from (leb 0 n) (leb n 9) (le-leb 0 n (omega arith)) (le-leb n 9 (omega arith)))

-- the slot, and then its id
slot_written : (s : Slots) (n : ℕ) (id : Option ℕ) (ids : List (Option ℕ)) → n < 10 → legal Id (id_value id) ≡ true → HasIds s ids → HasIds (fill (select s (pos n)) Id (id_value id)) (set ids n id)
unfolding HasIds
slot_written s n id ids l ok h =
    subst (λ (m : ℕ). HasIds (fill (select s (pos n)) Id (id_value id)) (set ids m id)) (selected_is s n l) (id_written (select s (pos n)) id ids ok h)

-- ---- entries

-- an entry of a record that was not refused
LegalEntry : Entry → Type 0
LegalEntry e = (e.slot < 10) × (legal Id (id_value (id_in e)) ≡ true)

entry_kept : (p : Pair Keys Slots) (ids : List (Option ℕ)) (e : Entry) → LegalEntry e → HasIds p.lower ids → HasIds (after panel_meaning p (entry_events e)).lower (set ids e.slot (id_in e))
unfolding LegalEntry
entry_kept p ids e (l, ok) h = by_finger e.finger ok
  where
    by_finger : (o : Option Finger) → let id = option_map (λ f. f.id) o in legal Id (id_value id) ≡ true → HasIds (after panel_meaning p (slot_event 47 (pos e.slot) ∷ finger_events o)).lower (set ids e.slot id)
    by_finger None ok = slot_written p.lower e.slot None ids l ok h
    by_finger (Some f) ok =
        let s = fill (select p.lower (pos e.slot)) Id (pos f.id) in
        let ids' = set ids e.slot (Some f.id) in
        place_keeps (fill s X (pos f.x)) Y (pos f.y) ids' (λ a. refl) (place_keeps s X (pos f.x) ids' (λ a. refl) (slot_written p.lower e.slot (Some f.id) ids l ok h))

entries_kept : (es : List Entry) (p : Pair Keys Slots) (ids : List (Option ℕ)) → Each LegalEntry es → HasIds p.lower ids
    → HasIds (after panel_meaning p (entries_events es)).lower (ids_after ids es)
entries_kept [] p ids ok h = h
entries_kept (e ∷ es) p ids ok h =
    subst (λ (q : Pair Keys Slots). HasIds q.lower (ids_after ids (e ∷ es))) (sym (after-++ panel_meaning p (entry_events e) (entries_events es)))
    (entries_kept es (after panel_meaning p (entry_events e)) (set ids e.slot (id_in e)) ok.1 (entry_kept p ids e ok.0 h))

-- the bytes of a record make legal ids
byte_at : (bs : List ℕ) (i : ℕ) → Each (λ b. b < 256) bs → get_or bs i 0 < 256
byte_at bs i h = ⊎_elim (λ l. All-get_or (λ b. b < 256) bs i 0 l h) (λ p. let z : get_or bs i 0 ≡ 0 = get_or_past bs i 0 p in omega arith) (cases_lt i (length bs))

id_legal : (bs : List ℕ) → word bs 2 < 65536 → legal Id (id_value (id_in (entry_of bs))) ≡ true
id_legal bs l =
    cond_both (eqb (word bs 2) 65535) None (Some _) (λ (o : Option Finger). legal Id (id_value (option_map (λ f. f.id) o)) ≡ true) (λ _. refl)
    (λ f. let ne : word bs 2 ≡ 65535 → ⊥ = eqb-false (word bs 2) 65535 f in le-leb (word bs 2) 65534 (omega arith))

legal_entries : (n : ℕ) (bs : List ℕ) → Each (λ b. b < 256) bs → some_above (map entry_of (first_chunks 8 n bs)) ≡ false → Each LegalEntry (map entry_of (first_chunks 8 n bs))
unfolding LegalEntry
legal_entries zero bs h f = tt
legal_entries (suc n) bs h f =
    let p = or_parts (ltb 9 (get_or (take 8 bs) 0 0)) (some_above (map entry_of (first_chunks 8 n (drop 8 bs)))) f in
    let l : get_or (take 8 bs) 0 0 ≤ 9 = ltb-false 9 (get_or (take 8 bs) 0 0) p.0 in
    let low = byte_at (take 8 bs) 2 (All-take (λ b. b < 256) 8 bs h) in
    let high = byte_at (take 8 bs) 3 (All-take (λ b. b < 256) 8 bs h) in
    ((omega arith, id_legal (take 8 bs) (omega arith)), legal_entries n (drop 8 bs) (All-drop (λ b. b < 256) 8 bs h) p.1)

-- ---- key 330

abbrev key_330 : Bool → Event
key_330 down = record { kind = 1; code = 330; value = pos (cond down 1 0) }

module _ (s : Keys) (down : Bool) where
  key_stays : keys_verdict s (key_330 down) ≡ Same → held s 330 ≡ down → held (keys_taken s (key_330 down)) 330 ≡ down
  key_stays v h = ap (λ (t : Keys). held t 330) (keys_laws.stays s (key_330 down) (λ c. cc)) ∙ h

  key_moves : keys_verdict s (key_330 down) ≡ Change → same_value (pos (cond down 1 0)) (pos 1) ≡ down → held (keys_taken s (key_330 down)) 330 ≡ down
  key_moves v h = ap (λ (t : Keys). held t 330) (change_taken s (key_330 down) v ∙ ap (with_key s 330) h) ∙ held_own s 330 down (lit≤ tt) (lit< tt)

key_set : (s : Keys) (down was : Bool) → held s 330 ≡ was → held (keys_taken s (key_330 down)) 330 ≡ down
key_set s true true h = key_stays s true (ap (λ (x : Bool). value_verdict x (pos 1)) h) h
key_set s true false h = key_moves s true (ap (λ (x : Bool). value_verdict x (pos 1)) h) refl
key_set s false true h = key_moves s false (ap (λ (x : Bool). value_verdict x (pos 0)) h) refl
key_set s false false h = key_stays s false (ap (λ (x : Bool). value_verdict x (pos 0)) h) h

-- ---- records

-- the ids and the key, and that there are ten ids
Kept : Pair Keys Slots → List (Option ℕ) → Type 0
Kept p ids = HasIds p.lower ids × (held p.upper 330 ≡ some_down ids)

record_kept : (p : Pair Keys Slots) (ids : List (Option ℕ)) (es : List Entry) → Each LegalEntry es → HasIds p.lower ids → Kept (after panel_meaning p (record_events ids es)) (ids_after ids es)
unfolding Kept
record_kept p ids es ok h =
    let last = touch_key (ids_after ids es) in
    let q = after panel_meaning p (entries_events es) in
    subst (λ (x : Pair Keys Slots). Kept x (ids_after ids es)) (sym (after-++ panel_meaning p (entries_events es) (last ∷ [])))
    (entries_kept es p ids ok h, key_set q.upper (some_down (ids_after ids es)) (held q.upper 330) refl)

ids_of : (p : Pair Keys Slots) (ids : List (Option ℕ)) → Kept p ids → HasIds p.lower ids
unfolding Kept
ids_of p ids h = h.0

not_above : (b : Bool) (r : Refusal) (f : Bool) (u : Unit {0}) (e : Refusal) → cond b (cond f (Err r) (Ok tt)) (Err e) ≡ Ok u → f ≡ false
not_above true r true u e h = cc
not_above true r false u e h = refl
not_above false r f u e h = cc

panel_stays : Stays panel_meaning
panel_stays = over_stays keys_meaning slots keys_laws.stays slots_laws.stays

call_kept : (k : Core (Pair Keys Slots)) (ids : List (Option ℕ)) (t : ℕ) (bs : List ℕ) → Each (λ b. b < 256) bs → Kept k.state ids
    → (r q : Result (Unit {0}) Refusal) → legible bs ≡ r → readiness panel_meaning k ≡ q
    → let o = unless panel_meaning k ids r (unless panel_meaning k ids q (handled panel_meaning k ids t bs)) in Kept o.core.state o.ids
call_kept k ids t bs bytes h (Err e) q x y = h
call_kept k ids t bs bytes h (Ok u) (Err e) x y = h
call_kept k ids t bs bytes h (Ok u) (Ok v) x y =
    let es = entries_of bs in
    let ready = is_ready panel_meaning k v y in
    let low = not_above _ _ (some_above es) u _ x in
    subst (λ (s : Pair Keys Slots). Kept s (ids_after ids es))
    (sym (report_state panel_meaning (offered panel_meaning k t (record_events ids es)) t refl ∙ offered_state panel_meaning panel_stays refl k t (record_events ids es) ready.1))
    (record_kept k.state ids es (legal_entries _ bs bytes low) (ids_of k.state ids h))

arrivals_kept : (p : Panel) (run : List Arrival) → Each OfBytes run → Kept p.core.state p.ids → Kept (arrivals p run).core.state (arrivals p run).ids
arrivals_kept p [] bytes h = h
arrivals_kept p (a ∷ later) bytes h =
    arrivals_kept (arrived p a) later bytes.1
    (call_kept p.core p.ids a.time a.bytes bytes.0 h (legible a.bytes) (readiness panel_meaning p.core) refl refl)

none_down : (i : ℕ) → i < 10 → (slot slots.empty i).id ≡ id_value (get_or new_ids i None)
none_down i l = ap (λ (a : Slot). a.id) (get_or-replicate 10 i unused unused l) ∙ ap id_value (sym (get_or-replicate 10 i None None l))

new_kept : (device : ℕ) → Kept (new_panel device).core.state new_ids
unfolding Kept HasIds
new_kept device = ((refl, none_down), none_held 330)

agree_from : (p : Panel) → Kept p.core.state p.ids → Agree p
unfolding Kept HasIds
agree_from p ((ten, ids), key) = record { ids = ids; key = key }

core_agrees : CoreAgrees
core_agrees device run bytes = agree_from (arrivals (new_panel device) run) (arrivals_kept (new_panel device) run bytes (new_kept device))

pub touch_laws : Laws
touch_laws = record { core_agrees = core_agrees }
