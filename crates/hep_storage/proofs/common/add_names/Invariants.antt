use Rattle.std.proofs.Common.{◌≡◌, ◌++◌, map, drop}
use Rattle.hep_storage.specs.Lengths.{entry_of}
use Rattle.hep_storage.proofs.common.add_names.Given as goal

abbrev pub invariant-loop-declarator : goal.invariant-loop-declarator
invariant-loop-declarator l =
    l.entries.items ++ map (entry_of l.block) (drop l.declarator-index l.declarators) ≡ l.initial.entries.items ++ map (entry_of l.block) l.declarators
