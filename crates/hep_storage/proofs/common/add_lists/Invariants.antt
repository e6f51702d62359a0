use Rattle.std.proofs.Common.{◌≡◌, ◌++◌, drop}
use Rattle.hep_storage.specs.Lengths.{entries_in_lists}
use Rattle.hep_storage.proofs.common.add_lists.Given as goal

abbrev pub invariant-loop-list : goal.invariant-loop-list
invariant-loop-list l = l.entries.items ++ entries_in_lists (drop l.list-index l.lists) ≡ l.initial.entries.items ++ entries_in_lists l.lists
