use Rattle.std.proofs.Common.{◌≡◌, ℕ, suc, ◌+◌, ◌-◌, List, ◌++◌, replicate, string_bytes, Some, None, sym, ap, ap₂, subst, ◌∙◌, append_assoc, append-nil, arith}
use Rattle.events.specs.Refusals.{number_of}
use Rattle.model.specs.Answers.{Answered}
use Rattle.model.specs.declared.Call.TheVariants.{Read as reading}
use Rattle.model.specs.Runs.{World, step}
use Rattle.recording.specs.Commands.{device_number, seat_number}
use Rattle.lines.specs.Lines.{answer_lines}
use Rattle.desk.specs.Making.{Made, made, refusal_in}
use Rattle.desk.specs.Texts.{lines_text}
use Rattle.player.specs.Rigs.{rig_world, reads_text, IfRead}
use Rattle.player.proofs.Reading.{told, made_on, text_on, made_refused, text_refused, by_refusal}
use Rattle.player.proofs.rigs.Rig.read.Goals as goal

pub returns-in_err-answer-clause-value : goal.returns-in_err-answer-clause-value
returns-in_err-answer-clause-value g c =
    let P = g.P.Part.means in
    let d = device_number c.args.place.device in
    let i = seat_number c.args.place.seat in
    let w = rig_world P c.loop.self in
    let r = c.in_err-answer.field-0.0 in
    let n = c.args.count - (c.loop.counter + 1) in
    let more : c.args.count - c.loop.counter ≡ suc n = omega arith in
    let refused : refusal_in (step P w (reading i)).answer ≡ Some (number_of r) = ap refusal_in (sym c.in_err-answer.ensures.value) in
    subst (λ x. IfRead x (λ refusal. refusal ≡ (made P (rig_world P c.args.self.now) (replicate c.args.count (reading i))).refusal)) (sym (by_refusal r c.from_residual.result c.from_residual.ensures.1))
    (sym (ap (λ (m : Made g.row.P.Denot). m.refusal) (made_refused P g.P.Shown.words d i w n (number_of r) refused))
    ∙ sym (ap (λ (k : ℕ). (made P w (replicate k (reading i))).refusal) more)
    ∙ c.loop.invariant.refusal)

pub returns-in_err-answer-clause-after : goal.returns-in_err-answer-clause-after
returns-in_err-answer-clause-after g c =
    let P = g.P.Part.means in
    let d = device_number c.args.place.device in
    let i = seat_number c.args.place.seat in
    let w = rig_world P c.loop.self in
    let r = c.in_err-answer.field-0.0 in
    let n = c.args.count - (c.loop.counter + 1) in
    let more : c.args.count - c.loop.counter ≡ suc n = omega arith in
    let refused : refusal_in (step P w (reading i)).answer ≡ Some (number_of r) = ap refusal_in (sym c.in_err-answer.ensures.value) in
    subst (λ x. IfRead x (λ refusal. rig_world P c.read_once.new.self ≡ (made P (rig_world P c.args.self.now) (replicate c.args.count (reading i))).world)) (sym (by_refusal r c.from_residual.result c.from_residual.ensures.1))
    (c.read_once.ensures.after
    ∙ sym (ap (λ (m : Made g.row.P.Denot). m.world) (made_refused P g.P.Shown.words d i w n (number_of r) refused))
    ∙ sym (ap (λ (k : ℕ). (made P w (replicate k (reading i))).world) more)
    ∙ c.loop.invariant.world)

pub returns-in_err-answer-clause-text : goal.returns-in_err-answer-clause-text
returns-in_err-answer-clause-text g c =
    let P = g.P.Part.means in
    let d = device_number c.args.place.device in
    let i = seat_number c.args.place.seat in
    let words = g.P.Shown.words in
    let w = rig_world P c.loop.self in
    let r = c.in_err-answer.field-0.0 in
    let n = c.args.count - (c.loop.counter + 1) in
    let more : c.args.count - c.loop.counter ≡ suc n = omega arith in
    let refused : refusal_in (step P w (reading i)).answer ≡ Some (number_of r) = ap refusal_in (sym c.in_err-answer.ensures.value) in
    subst (λ x. IfRead x (λ refusal. string_bytes c.loop.text ≡ string_bytes c.args.text.now ++ reads_text P words d (rig_world P c.args.self.now) c.args.count i)) (sym (by_refusal r c.from_residual.result c.from_residual.ensures.1))
    (sym (append-nil (string_bytes c.loop.text))
    ∙ ap (λ (a : Answered). string_bytes c.loop.text ++ lines_text words d (answer_lines i ((step P w (reading i)).world.clients i).state a)) c.in_err-answer.ensures.value
    ∙ sym (ap (λ (l : List ℕ). string_bytes c.loop.text ++ l) (text_refused P words d i w n (number_of r) refused))
    ∙ sym (ap (λ (k : ℕ). string_bytes c.loop.text ++ reads_text P words d w k i) more)
    ∙ c.loop.invariant.text)

pub loop-init : goal.loop-init
loop-init g c =
    let P = g.P.Part.means in
    let w = rig_world P c.args.self.now in
    let d = device_number c.args.place.device in
    let i = seat_number c.args.place.seat in
    let all : c.args.count - 0 ≡ c.args.count = omega arith in
    record {
      refusal = ap (λ (k : ℕ). (made P w (replicate k (reading i))).refusal) all;
      world = ap (λ (k : ℕ). (made P w (replicate k (reading i))).world) all;
      text = ap (λ (k : ℕ). string_bytes c.args.text.now ++ reads_text P g.P.Shown.words d w k i) all;
    }

pub loop-preserved : goal.loop-preserved
loop-preserved g c =
    let P = g.P.Part.means in
    let d = device_number c.args.place.device in
    let i = seat_number c.args.place.seat in
    let words = g.P.Shown.words in
    let w = rig_world P c.loop.self in
    let n = c.args.count - (c.loop.counter + 1) in
    let more : c.args.count - c.loop.counter ≡ suc n = omega arith in
    let none : refusal_in (step P w (reading i)).answer ≡ None = ap refusal_in (sym c.in_ok-answer.ensures.value) in
    let on = made_on P words d i w n none in
    record {
      refusal = ap (λ (v : World g.row.P.Denot). (made P v (replicate n (reading i))).refusal) c.read_once.ensures.after
          ∙ sym (ap (λ (m : Made g.row.P.Denot). m.refusal) on)
          ∙ sym (ap (λ (k : ℕ). (made P w (replicate k (reading i))).refusal) more)
          ∙ c.loop.invariant.refusal;
      world = ap (λ (v : World g.row.P.Denot). (made P v (replicate n (reading i))).world) c.read_once.ensures.after
          ∙ sym (ap (λ (m : Made g.row.P.Denot). m.world) on)
          ∙ sym (ap (λ (k : ℕ). (made P w (replicate k (reading i))).world) more)
          ∙ c.loop.invariant.world;
      text = ap₂ (λ (b : List ℕ) (v : World g.row.P.Denot). b ++ reads_text P words d v n i)
          (c.in_ok-write_answer.ensures
          ∙ ap₂ (λ (s : g.row.P.Denot) (a : Answered). string_bytes c.loop.text ++ lines_text words d (answer_lines i s a))
          (c.state.ensures ∙ ap (λ (v : World g.row.P.Denot). (v.clients i).state) c.read_once.ensures.after) c.in_ok-answer.ensures.value)
          c.read_once.ensures.after
          ∙ append_assoc (string_bytes c.loop.text) (told P words d i w) (reads_text P words d (step P w (reading i)).world n i)
          ∙ sym (ap (λ (l : List ℕ). string_bytes c.loop.text ++ l) (text_on P words d i w n none))
          ∙ sym (ap (λ (k : ℕ). string_bytes c.loop.text ++ reads_text P words d w k i) more)
          ∙ c.loop.invariant.text;
    }

pub returns-clause-text : goal.returns-clause-text
returns-clause-text g c =
    let P = g.P.Part.means in
    let d = device_number c.args.place.device in
    let i = seat_number c.args.place.seat in
    let words = g.P.Shown.words in
    let w = rig_world P c.loop.self in
    let over : c.args.count - c.loop.counter ≡ 0 = omega arith in
    sym (append-nil (string_bytes c.loop.text))
    ∙ sym (ap (λ (k : ℕ). string_bytes c.loop.text ++ reads_text P words d w k i) over)
    ∙ c.loop.invariant.text
