-- A record is decoded to the command that it asks for.
use Rattle.std.proofs.Common.{◌≡◌, ℕ, ◌-◌, Bool, true, false, cond, eqb, List, [], ◌∷◌, length, get_or, take, drop, Some, None, Ok, Err, Option, Result, sym, refl, ap, ◌∙◌, subst, ap₂, ⊎_elim, arith}
use Rattle.std.proofs.lemmas.List.{take_rest}
use Rattle.std.proofs.lemmas.Bool.{cases_Bool, cond-true, cond-false, eqb-true, ne_eqb}
use Rattle.std.proofs.lemmas.Option.{cond_some}
use Rattle.events.specs.declared.refusals.Refusal.{Refusal}
use Rattle.events.specs.declared.refusals.Refusal.TheVariants.{BrokenRecord}
use Rattle.recording.specs.declared.commands.Device.{Device}
use Rattle.recording.specs.declared.commands.Device.TheVariants.{Keyboard, Panel}
use Rattle.recording.specs.declared.commands.Seat.{Seat}
use Rattle.recording.specs.declared.commands.Seat.TheVariants.{First, Second}
use Rattle.recording.specs.declared.commands.Place.{Place}
use Rattle.recording.specs.declared.commands.Command.{Command}
use Rattle.recording.specs.declared.commands.Command.TheVariants.{Keys, Touch, Open, Close, Grab, Release, Read}
use Rattle.recording.specs.Commands.{device_number, device_of, seat_number, seat_of, Asks, broken, placed, placed_call, call_at, call_of, command_of, DecodesRight}

-- what holds on either way of a test
by_test : {A : Type 0} {P : Type 0} (b : Bool) (x y z : A) → (b ≡ true → x ≡ z → P) → (b ≡ false → y ≡ z → P) → cond b x y ≡ z → P
by_test b x y z p q e = ⊎_elim (λ t. p t (sym (cond-true b x y t) ∙ e)) (λ f. q f (sym (cond-false b x y f) ∙ e)) (cases_Bool b)

-- a record with none of the drivers' letters, taken apart
pub other_letter : (r : List ℕ) (l : ℕ) → l ≡ get_or r 0 0 → (l ≡ 75 → ⊥) → (l ≡ 84 → ⊥) → call_of l (take (length r - 1) (drop 1 r)) ≡ command_of r
other_letter [] l e p q = refl
other_letter (b ∷ rest) l e p q =
    ap (call_of l) (take_rest (b ∷ rest) 1) ∙ ap (λ (x : ℕ). call_of x rest) e
    ∙ sym (cond-false (eqb b 75) _ _ (ne_eqb b 75 (λ z. p (e ∙ z))) ∙ cond-false (eqb b 84) _ _ (ne_eqb b 84 (λ z. q (e ∙ z))))

-- ---- names

-- the number of a device names it
pub device_named : (d : Device) → device_of (device_number d) ≡ Some d
device_named Keyboard = refl
device_named Panel = refl

pub seat_named : (s : Seat) → seat_of (seat_number s) ≡ Some s
seat_named First = refl
seat_named Second = refl

-- and no other number does
device_known : (n : ℕ) (d : Device) → device_of n ≡ Some d → n ≡ device_number d
device_known n d e = by_test (eqb n 1) (Some Keyboard) _ (Some d)
    (λ t h. let is : Keyboard ≡ d = cc in eqb-true n 1 t ∙ ap device_number is)
    (λ f h. let w = cond_some (eqb n 2) Panel d h in eqb-true n 2 w.0 ∙ ap device_number w.1) e

seat_known : (n : ℕ) (s : Seat) → seat_of n ≡ Some s → n ≡ seat_number s
seat_known n s e = by_test (eqb n 0) (Some First) _ (Some s)
    (λ t h. let is : First ≡ s = cc in eqb-true n 0 t ∙ ap seat_number is)
    (λ f h. let w = cond_some (eqb n 1) Second s h in eqb-true n 1 w.0 ∙ ap seat_number w.1) e

-- ---- from the command to what was asked

no_command : {P : Type 0} (c : Command) → broken ≡ Ok c → P
no_command c e = absurd (let z : ◌≡◌ {A = ℕ} 0 1 = cc in omega arith)

-- one letter's command, and else another's
by_letter : (l n : ℕ) (body : List ℕ) (d c : Command) (other : Result Command Refusal)
    → (l ≡ n → Asks (l ∷ body) d) → (other ≡ Ok c → Asks (l ∷ body) c) → cond (eqb l n) (Ok d) other ≡ Ok c → Asks (l ∷ body) c
by_letter l n body d c other p q e = by_test (eqb l n) (Ok d) other (Ok c) (λ t h. let is : d ≡ c = cc in subst (Asks (l ∷ body)) is (p (eqb-true l n t))) (λ f h. q h) e

placed_asks : (l : ℕ) (p : Place) (more : List ℕ) (c : Command) → placed_call l p more ≡ Ok c → Asks (l ∷ placed p more) c
placed_asks l p [] c e =
    let body = placed p [] in
    by_letter l 67 body (Close p) c _ (λ h. (h, refl)) (by_letter l 71 body (Grab p) c _ (λ h. (h, refl)) (by_letter l 85 body (Release p) c _ (λ h. (h, refl)) (no_command c))) e
placed_asks l p (n ∷ []) c e =
    let body = placed p (n ∷ []) in
    by_letter l 79 body (Open p n) c _ (λ h. (h, refl)) (by_letter l 82 body (Read p n) c _ (λ h. (h, refl)) (no_command c)) e
placed_asks l p (n ∷ m ∷ more) c e = no_command c e

call_asks : (l : ℕ) (rest : List ℕ) (c : Command) → call_of l rest ≡ Ok c → Asks (l ∷ rest) c
call_asks l [] c e = no_command c e
call_asks l (d ∷ []) c e = no_command c e
call_asks l (d ∷ s ∷ more) c e = by (device_of d) (seat_of s) refl refl e
  where
    by : (o : Option Device) (p : Option Seat) → device_of d ≡ o → seat_of s ≡ p → call_at l o p more ≡ Ok c → Asks (l ∷ d ∷ s ∷ more) c
    by None p x y h = no_command c h
    by (Some v) None x y h = no_command c h
    by (Some v) (Some w) x y h =
        subst (λ (b : List ℕ). Asks (l ∷ b) c) (ap₂ (λ (i j : ℕ). i ∷ j ∷ more) (sym (device_known d v x)) (sym (seat_known s w y))) (placed_asks l (record { device = v; seat = w }) more c h)

asks : (r : List ℕ) (c : Command) → command_of r ≡ Ok c → Asks r c
asks [] c e = no_command c e
asks (l ∷ rest) c e = by_letter l 75 rest Keys c _ (λ h. (h, tt)) (by_letter l 84 rest Touch c _ (λ h. (h, tt)) (call_asks l rest c)) e

-- ---- from what is asked to the command

-- a record is decoded by what it begins with and goes on with
as_written : (l m : ℕ) (rest body : List ℕ) → l ≡ m → rest ≡ body → command_of (l ∷ rest) ≡ command_of (m ∷ body)
as_written l m rest body p q = ap₂ (λ (x : ℕ) (y : List ℕ). command_of (x ∷ y)) p q

-- a place is found by its numbers
found : (l : ℕ) (p : Place) (more : List ℕ) → call_of l (placed p more) ≡ placed_call l p more
found l p more = ap₂ (λ (o : Option Device) (q : Option Seat). call_at l o q more) (device_named p.device) (seat_named p.seat)

decoded : (r : List ℕ) (c : Command) → Asks r c → command_of r ≡ Ok c
decoded [] c a = absurd a
decoded (l ∷ rest) Keys a = as_written l 75 rest rest a.0 refl
decoded (l ∷ rest) Touch a = as_written l 84 rest rest a.0 refl
decoded (l ∷ rest) (Open p n) a = as_written l 79 rest _ a.0 a.1 ∙ found 79 p (n ∷ [])
decoded (l ∷ rest) (Close p) a = as_written l 67 rest _ a.0 a.1 ∙ found 67 p []
decoded (l ∷ rest) (Grab p) a = as_written l 71 rest _ a.0 a.1 ∙ found 71 p []
decoded (l ∷ rest) (Release p) a = as_written l 85 rest _ a.0 a.1 ∙ found 85 p []
decoded (l ∷ rest) (Read p n) a = as_written l 82 rest _ a.0 a.1 ∙ found 82 p (n ∷ [])

-- ---- refusals

by_nine : (e : Refusal) → broken ≡ Err e → e ≡ BrokenRecord
by_nine e h = cc

-- one letter's command is no refusal, and else another's
or_refused : (b : Bool) (d : Command) (other : Result Command Refusal) (e : Refusal) → (other ≡ Err e → e ≡ BrokenRecord) → cond b (Ok d) other ≡ Err e → e ≡ BrokenRecord
or_refused b d other e p h = by_test b (Ok d) other (Err e) (λ t k. absurd (let z : ◌≡◌ {A = ℕ} 0 1 = cc in omega arith)) (λ f k. p k) h

placed_refused : (l : ℕ) (p : Place) (more : List ℕ) (e : Refusal) → placed_call l p more ≡ Err e → e ≡ BrokenRecord
placed_refused l p [] e h = or_refused (eqb l 67) (Close p) _ e (or_refused (eqb l 71) (Grab p) _ e (or_refused (eqb l 85) (Release p) _ e (by_nine e))) h
placed_refused l p (n ∷ []) e h = or_refused (eqb l 79) (Open p n) _ e (or_refused (eqb l 82) (Read p n) _ e (by_nine e)) h
placed_refused l p (n ∷ m ∷ more) e h = by_nine e h

call_refused : (l : ℕ) (rest : List ℕ) (e : Refusal) → call_of l rest ≡ Err e → e ≡ BrokenRecord
call_refused l [] e h = by_nine e h
call_refused l (d ∷ []) e h = by_nine e h
call_refused l (d ∷ s ∷ more) e h = by (device_of d) (seat_of s) h
  where
    by : (o : Option Device) (p : Option Seat) → call_at l o p more ≡ Err e → e ≡ BrokenRecord
    by None p k = by_nine e k
    by (Some v) None k = by_nine e k
    by (Some v) (Some w) k = placed_refused l (record { device = v; seat = w }) more e k

refused : (r : List ℕ) (e : Refusal) → command_of r ≡ Err e → e ≡ BrokenRecord
refused [] e h = by_nine e h
refused (l ∷ rest) e h = or_refused (eqb l 75) Keys _ e (or_refused (eqb l 84) Touch _ e (call_refused l rest e)) h

pub decodes_right : DecodesRight
unfolding DecodesRight
decodes_right r = (λ c. (asks r c, decoded r c), refused r)
