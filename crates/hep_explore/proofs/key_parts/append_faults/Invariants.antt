use Rattle.std.proofs.Common.{◌≡◌, ◌++◌, drop}
use Rattle.std.specs.List.{flat_map}
use Rattle.hep_explore.specs.Keys.{fault_words}
use Rattle.hep_explore.proofs.key_parts.append_faults.Given as goal

abbrev pub invariant-loop-fault : goal.invariant-loop-fault
invariant-loop-fault l =
    l.words.items ++ flat_map fault_words (drop l.fault-index l.faults) ≡ l.initial.words.items ++ flat_map fault_words l.faults
