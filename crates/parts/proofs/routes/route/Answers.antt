use Rattle.std.proofs.Common.{◌≡◌, Bool, true, false, cond, Ok, Err, refl, sym, length, vec_items, ap, ◌∙◌}
use Rattle.events.specs.declared.refusals.Refusal.TheVariants.{UnsoundPile}
use Rattle.parts.specs.Walk.{walk}
use Rattle.parts.proofs.WalkLaws.{walk_all, walk_more, walk_leads}
use Rattle.parts.proofs.routes.route.Goals as goal

-- a part that passed the test is sound
sound_from : (sound : Bool) (u : Unit {0}) → cond sound (Ok tt) (Err UnsoundPile) ≡ Ok u → sound ≡ true
sound_from true u h = refl
sound_from false u h = cc

pub loop-event-preserved : goal.loop-event-preserved
loop-event-preserved g c =
    let sound = sound_from g.P.Part.means.sound _ (sym c.check_sound.ensures ∙ c.in_ok-check_sound.was) in
    walk_more (g.met.P.Part.laws sound) c.loop-event.state c.args.to.now c.step.new.state c.in-Some.event (vec_items c.loop-event.events) (vec_items c.push.new.self) c.in-Some.ensures.event c.step.ensures.after c.in_ok-push.ensures.items
    ∙ c.loop-event.invariant

pub returns-in_err-push-clause-leads : goal.returns-in_err-push-clause-leads
returns-in_err-push-clause-leads g c s = walk_leads (g.met.P.Part.laws s)

pub returns : goal.returns
returns g c =
    let sound = sound_from g.P.Part.means.sound _ (sym c.check_sound.ensures ∙ c.in_ok-check_sound.was) in
    let laws = g.met.P.Part.laws sound in
    let all = walk_all laws c.loop-event.state c.args.to.now (vec_items c.loop-event.events) (walk g.P.Part.means c.args.from.now c.args.to.now) c.in_default.ensures.event c.loop-event.invariant in
    record {
      refuses = sound;
      events = all;
      count = c.loop-event.events.ok.0 ∙ ap length all ∙ (walk_leads laws c.args.from.now c.args.to.now).count;
      leads = λ s. walk_leads laws;
    }
