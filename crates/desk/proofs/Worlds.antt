-- What a record's calls do to the worlds is what the model's steps do.
use Rattle.std.proofs.Common.{◌≡◌, ℕ, zero, suc, List, [], ◌∷◌, ◌++◌, map, Some, None, Ok, Err, Option, Result, sym, refl, ap, ◌∙◌}
use Rattle.events.specs.declared.items.Event.{Event}
use Rattle.events.specs.declared.refusals.Refusal.{Refusal}
use Rattle.parts.specs.Meaning.{Meaning}
use Rattle.model.specs.Core.{Core, Left}
use Rattle.model.specs.Calls.{event_call, report_call}
use Rattle.model.specs.declared.Call.{Call}
use Rattle.model.specs.declared.Call.TheVariants.{Event as event, Report as report}
use Rattle.model.specs.Answers.{Answered}
use Rattle.model.specs.declared.Answer.TheVariants.{Read}
use Rattle.model.specs.declared.Read.TheVariants.{Nothing}
use Rattle.model.specs.Runs.{World, step}
use Rattle.model.specs.Replays.{world_after}
use Rattle.input.specs.Cores.{readiness}
use Rattle.driver.specs.Offering.{offered, driven}
use Rattle.keyboard.specs.Takes.{Seen}
use Rattle.ps2.specs.Takes.{take_call, if_ready, events_taken}
use Rattle.touch.specs.Entries.{entries_of, entries_events, touch_key, ids_after, record_events}
use Rattle.touch.specs.Records.{legible, unless, handled}
use Rattle.desk.specs.Follows.{Follows}
use Rattle.desk.specs.Making.{Made, made, unless_refused, with_core, refusal_in, driver_calls, Typed, takes, take_calls, unless_done, record_touched, touch_calls}

module _ {S : Type 0} (P : Meaning S) where
  pub world_both : (w : World S) (cs ds : List Call) → world_after P w (cs ++ ds) ≡ world_after P (world_after P w cs) ds
  world_both w [] ds = refl
  world_both w (c ∷ cs) ds = world_both (step P w c).world cs ds

  made_one : (w : World S) (c : Call) (more : Made S) (o : Option ℕ) → more.world ≡ world_after P (step P w c).world more.calls
      → (unless_refused (step P w c).world o more).world ≡ world_after P (step P w c).world (unless_refused (step P w c).world o more).calls
  made_one w c more None h = h
  made_one w c more (Some n) h = refl

  -- calls up to the first that is refused
  pub made_world : (w : World S) (cs : List Call) → (made P w cs).world ≡ world_after P w (made P w cs).calls
  made_world w [] = refl
  made_world w (c ∷ cs) = made_one w c (made P (step P w c).world cs) (refusal_in (step P w c).answer) (made_world (step P w c).world cs)

  -- the events of a driver
  events_world : (w : World S) (t : ℕ) (es : List Event) → world_after P w (map (event t) es) ≡ with_core w (offered P w.core t es)
  unfolding step
  events_world w t [] = refl
  events_world w t (e ∷ es) = events_world (with_core w (event_call P w.core t e).core) t es

  -- and its report
  pub driver_world : (w : World S) (t : ℕ) (es : List Event) → world_after P w (driver_calls t es) ≡ with_core w (driven P w.core t es).core
  unfolding step
  driver_world w t [] = refl
  driver_world w t (e ∷ es) =
      world_both w (map (event t) (e ∷ es)) (report t ∷ [])
      ∙ ap (λ (v : World S). (step P v (report t)).world) (events_world w t (e ∷ es))

  -- one take
  take_world : (w : World S) (t : ℕ) (b : Seen) → world_after P w (take_calls P (readiness P w.core) t b) ≡ with_core w (take_call P w.core b t).core
  take_world w t b = go (readiness P w.core)
    where
      go : (r : Result (Unit {0}) Refusal) → world_after P w (take_calls P r t b) ≡ with_core w (if_ready P w.core b t r).core
      go (Err r) = refl
      go (Ok u) = driver_world w t (events_taken b)

  -- what came of later takes, whatever this one was answered
  done_world : (b : Seen) (v : World S) (a : Answered) (more : Typed S) → more.made.world ≡ world_after P v more.made.calls
      → (unless_done b v a more).made.world ≡ world_after P v (unless_done b v a more).made.calls
  done_world b v (Err r) more h = refl
  done_world b v (Ok (Read Nothing)) more h = refl
  done_world b v _ more h = h

  -- takes until nothing is readable
  pub takes_world : (n t : ℕ) (w : World S) (b : Seen) → (takes P n t w b).made.world ≡ world_after P w (takes P n t w b).made.calls
  takes_world zero t w b = refl
  takes_world (suc n) t w b =
      let x = take_call P w.core b t in
      let v = with_core w x.core in
      let rest = unless_done x.keyboard v x.answer (takes P n t v x.keyboard) in
      done_world x.keyboard v x.answer (takes P n t v x.keyboard) (takes_world n t v x.keyboard)
      ∙ ap (λ (u : World S). world_after P u rest.made.calls) (sym (take_world w t b))
      ∙ sym (world_both w (take_calls P (readiness P w.core) t b) rest.made.calls)

  -- one touch record
  reported : (k : Core S) (t : ℕ) (es : List Event) (e : Event) → driven P k t (es ++ e ∷ []) ≡ report_call P (offered P k t (es ++ e ∷ [])) t
  reported k t [] e = refl
  reported k t (d ∷ es) e = refl

  pub touch_world : (w : World S) (t : ℕ) (ids : List (Option ℕ)) (bs : List ℕ) → (record_touched P t w ids bs).made.world ≡ world_after P w (record_touched P t w ids bs).made.calls
  touch_world w t ids bs = go (legible bs) (readiness P w.core)
    where
      go : (l r : Result (Unit {0}) Refusal)
          → with_core w (unless P w.core ids l (unless P w.core ids r (handled P w.core ids t bs))).core ≡ world_after P w (touch_calls P l r t ids bs)
      go (Err e) r = refl
      go (Ok u) (Err e) = refl
      go (Ok u) (Ok v) =
          sym (driver_world w t (record_events ids (entries_of bs)) ∙ ap (λ (l : Left S). with_core w l.core) (reported w.core t (entries_events (entries_of bs)) (touch_key (ids_after ids (entries_of bs)))))

  pub follows : Follows P
  follows = record { made = made_world; taken = takes_world; touched = touch_world }
