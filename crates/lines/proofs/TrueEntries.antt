-- Every entry of a listing over two devices is true.
use Rattle.std.proofs.Common.{◌≡◌, ℕ, true, List, [], ◌∷◌, map}
use mathlib.Core.Path.{subst⁻¹}
use Rattle.std.specs.List.{AllByRecursion as Each}
use Rattle.std.proofs.ByRecursion.{All-append, All-weaker, All-map}
use Rattle.events.specs.declared.items.Item.{Item}
use Rattle.parts.specs.Meaning.{Meaning, Laws}
use Rattle.model.specs.Answers.{Answered}
use Rattle.model.specs.Runs.{World, step}
use Rattle.model.specs.Log.{grown, grown_by, DeviceAfter}
use Rattle.model.specs.Heard.{hear}
use Rattle.lines.specs.Lines.{Line, call_lines}
use Rattle.lines.specs.Acts.{Act, first_calls, second_calls, entries, TrueEntry, EntriesTrue}
use Rattle.lines.specs.Acts.Act.{on_first, on_second, refusal}
use Rattle.lines.specs.Acts.Entry.{first_line, second_line}
use Rattle.lines.proofs.TrueLines.{later, all_more, call_true}
use Rattle.model.proofs.Steps.{Good, good_step, good_start}

module _ {S T : Type 0} (P : Meaning S) (Q : Meaning T) (laws : P.sound ≡ true → Laws P) (rules : Q.sound ≡ true → Laws Q) where
  true_acts : (acts : List Act) (w : World S) (v : World T) (l m : List Item) (hs ks : ℕ → List Answered)
      → ((i : ℕ) → Good P i w l (hs i)) → ((i : ℕ) → Good Q i v m (ks i))
      → Each (TrueEntry P Q (grown_by P l (first_calls acts)) (grown_by Q m (second_calls acts))) (entries P Q w v acts)
  true_acts [] w v l m hs ks g j = tt
  true_acts (refusal p n ∷ acts) w v l m hs ks g j = (tt, true_acts acts w v l m hs ks g j)
  true_acts (on_first c ∷ acts) w v l m hs ks g j =
      let more = all_more P (grown P l c) (first_calls acts) in
      let now' = step P w c in
      let K = TrueEntry P Q (grown_by P (grown P l c) (first_calls acts)) (grown_by Q m (second_calls acts)) in
      All-append K (map first_line (call_lines now'.world c now'.answer)) (entries P Q now'.world v acts)
      (All-map K first_line (call_lines now'.world c now'.answer)
      (All-weaker (λ (y : Line S). DeviceAfter P (grown P l c) y.number y.state) (λ (y : Line S). DeviceAfter P (grown_by P (grown P l c) (first_calls acts)) y.number y.state)
      (λ y d. subst⁻¹ (λ (x : List Item). DeviceAfter P x y.number y.state) more.1 (later P (grown P l c) more.0 y.number y.state d))
      (call_lines now'.world c now'.answer) (call_true P laws w l c hs g)))
      (true_acts acts now'.world v (grown P l c) m (λ i. hear i (hs i) c now'.answer) ks (λ i. good_step P laws i w l (hs i) c (g i)) j)
  true_acts (on_second c ∷ acts) w v l m hs ks g j =
      let more = all_more Q (grown Q m c) (second_calls acts) in
      let now' = step Q v c in
      let K = TrueEntry P Q (grown_by P l (first_calls acts)) (grown_by Q (grown Q m c) (second_calls acts)) in
      All-append K (map second_line (call_lines now'.world c now'.answer)) (entries P Q w now'.world acts)
      (All-map K second_line (call_lines now'.world c now'.answer)
      (All-weaker (λ (y : Line T). DeviceAfter Q (grown Q m c) y.number y.state) (λ (y : Line T). DeviceAfter Q (grown_by Q (grown Q m c) (second_calls acts)) y.number y.state)
      (λ y d. subst⁻¹ (λ (x : List Item). DeviceAfter Q x y.number y.state) more.1 (later Q (grown Q m c) more.0 y.number y.state d))
      (call_lines now'.world c now'.answer) (call_true Q rules v m c ks j)))
      (true_acts acts w now'.world l (grown Q m c) hs (λ i. hear i (ks i) c now'.answer) g (λ i. good_step Q rules i v m (ks i) c (j i)))

  pub entries_true : EntriesTrue P Q
  entries_true w v acts f e = true_acts acts w v [] [] (λ i. []) (λ i. []) (λ i. good_start P i w f) (λ i. good_start Q i v e)
