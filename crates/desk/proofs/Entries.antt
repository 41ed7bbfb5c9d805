-- The entries of a listing, act by act, and their text.
use Rattle.std.proofs.Common.{◌≡◌, ℕ, List, [], ◌∷◌, ◌++◌, map, Some, None, Option, sym, refl, ap, ◌∙◌, append_assoc}
use Rattle.std.proofs.lemmas.List.{map-append}
use Rattle.events.specs.declared.items.Event.{Event}
use Rattle.parts.specs.declared.pair.Pair.{Pair}
use Rattle.keys.specs.declared.set.Keys.{Keys}
use Rattle.slots.specs.declared.Slots.{Slots}
use Rattle.keys.specs.KeyWords.{key_words}
use Rattle.parts.specs.Meaning.{Meaning}
use Rattle.model.specs.declared.Call.{Call}
use Rattle.model.specs.declared.Call.TheVariants.{Event as event, Report as report}
use Rattle.model.specs.Runs.{World, step}
use Rattle.model.specs.Replays.{world_after}
use Rattle.lines.specs.Lines.{Line, call_lines, lines}
use Rattle.lines.specs.Acts.{Act, Entry, first_calls, second_calls, entries}
use Rattle.lines.specs.Acts.Act.{on_first, on_second, refusal}
use Rattle.lines.specs.Acts.Entry.{first_line, second_line, refused_record}
use Rattle.desk.specs.Making.{driver_calls}
use Rattle.desk.specs.Texts.{line_text, lines_text, panel_words, entry_text, entries_text}
use Rattle.desk.specs.Desks.{mark}

-- ---- the calls among acts

pub first_both : (a b : List Act) → first_calls (a ++ b) ≡ first_calls a ++ first_calls b
first_both [] b = refl
first_both (on_first c ∷ a) b = ap (λ (l : List Call). c ∷ l) (first_both a b)
first_both (on_second c ∷ a) b = first_both a b
first_both (refusal p n ∷ a) b = first_both a b

pub second_both : (a b : List Act) → second_calls (a ++ b) ≡ second_calls a ++ second_calls b
second_both [] b = refl
second_both (on_first c ∷ a) b = second_both a b
second_both (on_second c ∷ a) b = ap (λ (l : List Call). c ∷ l) (second_both a b)
second_both (refusal p n ∷ a) b = second_both a b

pub first_of_first : (cs : List Call) → first_calls (map on_first cs) ≡ cs
first_of_first [] = refl
first_of_first (c ∷ cs) = ap (λ (l : List Call). c ∷ l) (first_of_first cs)

pub second_of_first : (cs : List Call) → second_calls (map on_first cs) ≡ []
second_of_first [] = refl
second_of_first (c ∷ cs) = second_of_first cs

pub first_of_second : (cs : List Call) → first_calls (map on_second cs) ≡ []
first_of_second [] = refl
first_of_second (c ∷ cs) = first_of_second cs

pub second_of_second : (cs : List Call) → second_calls (map on_second cs) ≡ cs
second_of_second [] = refl
second_of_second (c ∷ cs) = ap (λ (l : List Call). c ∷ l) (second_of_second cs)

pub first_of_mark : (p : ℕ) (o : Option ℕ) → first_calls (mark p o) ≡ []
first_of_mark p None = refl
first_of_mark p (Some n) = refl

pub second_of_mark : (p : ℕ) (o : Option ℕ) → second_calls (mark p o) ≡ []
second_of_mark p None = refl
second_of_mark p (Some n) = refl

-- ---- entries

module _ {S T : Type 0} (P : Meaning S) (Q : Meaning T) where
  pub entries_both : (w : World S) (v : World T) (a b : List Act)
      → entries P Q w v (a ++ b) ≡ entries P Q w v a ++ entries P Q (world_after P w (first_calls a)) (world_after Q v (second_calls a)) b
  entries_both w v [] b = refl
  entries_both w v (on_first c ∷ a) b =
      let u = (step P w c).world in
      let now' = map first_line (call_lines u c (step P w c).answer) in
      ap (λ (l : List (Entry S T)). now' ++ l) (entries_both u v a b) ∙ sym (append_assoc now' (entries P Q u v a) _)
  entries_both w v (on_second c ∷ a) b =
      let u = (step Q v c).world in
      let now' = map second_line (call_lines u c (step Q v c).answer) in
      ap (λ (l : List (Entry S T)). now' ++ l) (entries_both w u a b) ∙ sym (append_assoc now' (entries P Q w u a) _)
  entries_both w v (refusal p n ∷ a) b = ap (λ (l : List (Entry S T)). refused_record p n ∷ l) (entries_both w v a b)

  pub entries_first : (w : World S) (v : World T) (cs : List Call) → entries P Q w v (map on_first cs) ≡ map first_line (lines P w cs)
  entries_first w v [] = refl
  entries_first w v (c ∷ cs) =
      let u = (step P w c).world in
      ap (λ (l : List (Entry S T)). map first_line (call_lines u c (step P w c).answer) ++ l) (entries_first u v cs)
      ∙ sym (map-append first_line (call_lines u c (step P w c).answer) (lines P u cs))

  pub entries_second : (w : World S) (v : World T) (cs : List Call) → entries P Q w v (map on_second cs) ≡ map second_line (lines Q v cs)
  entries_second w v [] = refl
  entries_second w v (c ∷ cs) =
      let u = (step Q v c).world in
      ap (λ (l : List (Entry S T)). map second_line (call_lines u c (step Q v c).answer) ++ l) (entries_second w u cs)
      ∙ sym (map-append second_line (call_lines u c (step Q v c).answer) (lines Q u cs))

-- a driver makes no lines
module _ {S : Type 0} (P : Meaning S) where
  pub lines_both : (w : World S) (cs ds : List Call) → lines P w (cs ++ ds) ≡ lines P w cs ++ lines P (world_after P w cs) ds
  lines_both w [] ds = refl
  lines_both w (c ∷ cs) ds =
      let u = (step P w c).world in
      ap (λ (l : List (Line S)). call_lines u c (step P w c).answer ++ l) (lines_both u cs ds)
      ∙ sym (append_assoc (call_lines u c (step P w c).answer) (lines P u cs) (lines P (world_after P u cs) ds))

  events_silent : (w : World S) (t : ℕ) (es : List Event) (cs : List Call) → lines P w (map (event t) es ++ report t ∷ []) ≡ []
  events_silent w t [] cs = refl
  events_silent w t (e ∷ es) cs = events_silent (step P w (event t e)).world t es cs

  pub driver_silent : (w : World S) (t : ℕ) (es : List Event) → lines P w (driver_calls t es) ≡ []
  driver_silent w t [] = refl
  driver_silent w t (e ∷ es) = events_silent w t (e ∷ es) []

-- ---- text

pub text_both : (a b : List (Entry Keys (Pair Keys Slots))) → entries_text (a ++ b) ≡ entries_text a ++ entries_text b
text_both [] b = refl
text_both (e ∷ a) b = ap (λ (l : List ℕ). entry_text e ++ l) (text_both a b) ∙ sym (append_assoc (entry_text e) (entries_text a) (entries_text b))

pub text_first : (xs : List (Line Keys)) → entries_text (map first_line xs) ≡ lines_text key_words 1 xs
text_first [] = refl
text_first (x ∷ xs) = ap (λ (l : List ℕ). line_text key_words 1 x ++ l) (text_first xs)

pub text_second : (xs : List (Line (Pair Keys Slots))) → entries_text (map second_line xs) ≡ lines_text panel_words 2 xs
text_second [] = refl
text_second (x ∷ xs) = ap (λ (l : List ℕ). line_text panel_words 2 x ++ l) (text_second xs)

pub lines_text_both : {S : Type 0} (words : S → List ℕ) (d : ℕ) (xs ys : List (Line S)) → lines_text words d (xs ++ ys) ≡ lines_text words d xs ++ lines_text words d ys
lines_text_both words d [] ys = refl
lines_text_both words d (x ∷ xs) ys = ap (λ (l : List ℕ). line_text words d x ++ l) (lines_text_both words d xs ys) ∙ sym (append_assoc (line_text words d x) (lines_text words d xs) (lines_text words d ys))
