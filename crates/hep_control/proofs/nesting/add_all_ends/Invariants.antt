use Rattle.std.proofs.Common.{◌≡◌, ◌++◌, drop}
use Rattle.std.specs.List.{flat_map}
use Rattle.hep_control.specs.Nesting.{values_in}
use Rattle.hep_control.proofs.nesting.add_all_ends.Given as goal

abbrev pub invariant-loop-block : goal.invariant-loop-block
invariant-loop-block l = l.events.items ++ flat_map values_in (drop l.block-index l.blocks) ≡ l.initial.events.items ++ flat_map values_in l.blocks
