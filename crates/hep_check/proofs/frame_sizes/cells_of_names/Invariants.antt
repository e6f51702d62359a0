use Rattle.std.proofs.Common.{◌≡◌, ◌+◌, ◌*◌, ◌≤◌, ◌^◌, drop}
use Rattle.hep_machine.specs.Words.{cells_of_all}
use Rattle.hep_check.proofs.frame_sizes.cells_of_names.Given as goal

abbrev pub invariant-loop-name : goal.invariant-loop-name
invariant-loop-name l =
    record {
      counted : l.cells + cells_of_all l.symbols (drop l.name-index l.names) ≡ cells_of_all l.symbols l.names;
      bounded : l.cells ≤ 2 ^ 32 * l.name-index;
    }
