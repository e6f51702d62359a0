use Rattle.std.proofs.Common.{◌≡◌, ◌≤◌, drop}
use Rattle.hep_machine.specs.Words.{block_cells}
use Rattle.hep_state_text.specs.States.{first_with}
use Rattle.hep_state_text.proofs.block_names.longest.Given as goal

abbrev pub invariant-loop-number : goal.invariant-loop-number
invariant-loop-number l =
    record {
      left : block_cells (drop l.number l.program) l.block ≡ l.cells;
      some : 1 ≤ l.number → 1 ≤ l.cells;
      same : first_with l.cells l.block (drop l.number l.program) ≡ first_with l.cells l.block l.program;
    }
