use Rattle.std.proofs.Common.{◌≡◌, ℕ, length, ap, ap₂, sym, ◌∙◌, arith}
use Rattle.model.specs.Runs.{World}
use Rattle.model.specs.Answers.{number, nothing}
use Rattle.input.specs.Cores.{shown}
use Rattle.keyboard.specs.Takes.{Seen, seen}
use Rattle.ps2.specs.Takes.{take_call}
use Rattle.desk.specs.Making.{Typed}
use Rattle.player.specs.Rigs.{rig_world}
use Rattle.player.proofs.Draining.{all_takes, none_answered, some_answered, take_on, take_nothing, took_byte}
use Rattle.player.proofs.rigs.Rig.drain.Given.{Over}
use Rattle.player.proofs.rigs.Rig.drain.Goals as goal
use Rattle.player.proofs.rigs.Rig.drain.Goals.{Then-is_some}

-- the take was answered a number, so it took a byte
went_on : (g : Over) (c : Then-is_some g) → (n : ℕ) × ((take_call g.P.Part.means (shown c.loop.self.stage.core) (seen c.loop.keyboard.keyboard) c.args.time).answer ≡ number n)
went_on g c =
    let s = some_answered c.take.result c.in_ok-take.field-0 c.in_ok-take.was (sym c.is_some.ensures ∙ c.if-is_some.true) in
    (s.0, sym c.take.ensures.value ∙ s.1)

pub loop-smaller : goal.loop-smaller
loop-smaller g c =
    let on = went_on g c in
    let fewer = took_byte g.P.Part.means c.args.time (shown c.loop.self.stage.core) (seen c.loop.keyboard.keyboard) on.0 on.1 in
    let same = ap (λ (b : Seen). length b.waiting) c.take.ensures.driver in
    omega arith

pub loop-preserved : goal.loop-preserved
loop-preserved g c =
    let P = g.P.Part.means in
    let on = went_on g c in
    let e = take_on P c.args.time (rig_world P c.loop.self) (seen c.loop.keyboard.keyboard) on.0 on.1 in
    record {
      refusal = ap₂ (λ (w : World g.row.P.Denot) (b : Seen). (all_takes P c.args.time w b).made.refusal) c.take.ensures.after c.take.ensures.driver
          ∙ sym (ap (λ (x : Typed g.row.P.Denot). x.made.refusal) e) ∙ c.loop.invariant.refusal;
      world = ap₂ (λ (w : World g.row.P.Denot) (b : Seen). (all_takes P c.args.time w b).made.world) c.take.ensures.after c.take.ensures.driver
          ∙ sym (ap (λ (x : Typed g.row.P.Denot). x.made.world) e) ∙ c.loop.invariant.world;
      keyboard = ap₂ (λ (w : World g.row.P.Denot) (b : Seen). (all_takes P c.args.time w b).keyboard) c.take.ensures.after c.take.ensures.driver
          ∙ sym (ap (λ (x : Typed g.row.P.Denot). x.keyboard) e) ∙ c.loop.invariant.keyboard;
    }

-- a take that found nothing leaves the end
pub returns : goal.returns
returns g c =
    let P = g.P.Part.means in
    let ended : (take_call P (shown c.loop.self.stage.core) (seen c.loop.keyboard.keyboard) c.args.time).answer ≡ nothing =
    sym c.take.ensures.value ∙ none_answered c.take.result c.in_ok-take.field-0 c.in_ok-take.was (sym c.is_some.ensures ∙ c.if-is_some.false) in
    let e = take_nothing P c.args.time (rig_world P c.loop.self) (seen c.loop.keyboard.keyboard) ended in
    record {
      value = sym (ap (λ (x : Typed g.row.P.Denot). x.made.refusal) e) ∙ c.loop.invariant.refusal;
      after = c.take.ensures.after ∙ sym (ap (λ (x : Typed g.row.P.Denot). x.made.world) e) ∙ c.loop.invariant.world;
      driver = c.take.ensures.driver ∙ sym (ap (λ (x : Typed g.row.P.Denot). x.keyboard) e) ∙ c.loop.invariant.keyboard;
    }
