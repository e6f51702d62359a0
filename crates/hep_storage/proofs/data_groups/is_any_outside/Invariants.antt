use Rattle.std.proofs.Common.{◌≡◌, drop}
use Rattle.std.specs.List.{list_any}
use Rattle.hep_storage.specs.DataNames.{is_outside_named}
use Rattle.hep_storage.proofs.data_groups.is_any_outside.Given as goal

abbrev pub invariant-loop-one : goal.invariant-loop-one
invariant-loop-one l = list_any is_outside_named (drop l.one-index l.named) ≡ list_any is_outside_named l.named
