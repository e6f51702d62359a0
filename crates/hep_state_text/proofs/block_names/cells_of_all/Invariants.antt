use Rattle.std.proofs.Common.{◌≡◌, ◌+◌, ◌*◌, ◌≤◌, drop}
use Rattle.hep_machine.specs.Words.{cells_of_all}
use Rattle.hep_state_text.proofs.block_names.cells_of_all.Given as goal

abbrev pub invariant-loop-name : goal.invariant-loop-name
invariant-loop-name l =
    record {
      so_far : l.sum + cells_of_all l.symbols (drop l.name-index l.list) ≡ cells_of_all l.symbols l.list;
      few : l.sum ≤ 4294967296 * l.name-index;
    }
