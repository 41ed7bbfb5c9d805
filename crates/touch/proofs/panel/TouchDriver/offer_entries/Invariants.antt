use Rattle.std.proofs.Common.{◌≡◌, false, map, drop}
use Rattle.input.specs.Cores.{shown}
use Rattle.driver.specs.Offering.{offered}
use Rattle.touch.specs.Entries.{entry_of, some_above, ids_after, entries_events}
use Rattle.touch.proofs.panel.TouchDriver.offer_entries.Given as goal

-- what the entries still to come lead to is what all of them lead to
abbrev pub invariant-loop-bytes : goal.invariant-loop-bytes
invariant-loop-bytes g l =
    let later = map entry_of (drop l.bytes-index l.entries.chunks.now) in
    (some_above later ≡ false)
    × (ids_after l.self.ids later ≡ ids_after l.initial.self.ids (map entry_of l.entries.chunks.now))
    × (offered g.P.Part.means (shown l.core) l.time (entries_events later) ≡ offered g.P.Part.means (shown l.initial.core) l.time (entries_events (map entry_of l.entries.chunks.now)))
