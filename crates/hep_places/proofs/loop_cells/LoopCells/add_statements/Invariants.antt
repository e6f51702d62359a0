use Rattle.std.proofs.Common.{◌≡◌, ◌++◌, drop}
use Rattle.hep_places.specs.StorageStarts.{behind_loops, loops_from}
use Rattle.hep_places.proofs.loop_cells.LoopCells.add_statements.Given as goal

abbrev pub invariant-loop-statement : goal.invariant-loop-statement
invariant-loop-statement l =
    record {
      cells : l.self.cells.items ++ loops_from l.self.next (drop l.statement-index l.statements) ≡ l.initial.self.cells.items ++ loops_from l.initial.self.next l.statements;
      next : behind_loops l.self.next (drop l.statement-index l.statements) ≡ behind_loops l.initial.self.next l.statements;
    }
