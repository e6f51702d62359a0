-- The first entries of a history.
use Rattle.std.specs.Prelude.{List, take}
use Rattle.hep_machine.specs.declared.event.Entry.{Entry}
use Rattle.hep_replay.specs.declared.history_prefix.HistoryPrefix.{HistoryPrefix}

-- the first `count` entries, or all where there are fewer
abbrev pub first_of : HistoryPrefix → List Entry
first_of first = take first.count first.history.now.items
