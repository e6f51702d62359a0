use Rattle.std.proofs.Common.{◌≡◌, ◌++◌, drop}
use Rattle.std.specs.List.{flat_map}
use Rattle.hep_explore.specs.Keys.{counted, item_words}
use Rattle.hep_explore.proofs.key_parts.append_records.Given as goal

abbrev pub invariant-loop-record : goal.invariant-loop-record
invariant-loop-record l =
    l.words.items ++ flat_map (counted item_words) (drop l.record-index l.records)
    ≡ l.initial.words.items ++ flat_map (counted item_words) l.records
