use Rattle.std.proofs.Common.{[], ◌∷◌, map, rules}
use Rattle.input.specs.Cores.{shown}
use Rattle.driver.proofs.Offered.{offered-++}
use Rattle.touch.specs.Entries.{entry_of, entries_events, touch_key, ids_after}
use Rattle.touch.proofs.panel.TouchDriver.offer_record.Goals as goal

pub returns-clause-core : goal.returns-clause-core
returns-clause-core g c =
    let es = map entry_of c.args.entries.chunks.now in
    let last = touch_key (ids_after c.args.self.now.ids es) in
    search (rules, offered-++ g.P.Part.means (shown c.args.core.now) c.args.time (entries_events es) (last ∷ []))
