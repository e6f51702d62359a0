use Rattle.std.proofs.Common.{◌≡◌, ◌++◌, drop}
use Rattle.hep_machine.specs.Words.{entries_of_blocks}
use Rattle.hep_names.specs.Statements.{rest_after}
use Rattle.hep_names.specs.Tables.{arrays_among}
use Rattle.hep_names.proofs.specification.add_entries.Given as goal

abbrev pub invariant-loop-block : goal.invariant-loop-block
invariant-loop-block l = rest_after l.found.items ++ arrays_among (entries_of_blocks (drop l.block-index l.blocks)) ≡ rest_after l.initial.found.items ++ arrays_among (entries_of_blocks l.blocks)
