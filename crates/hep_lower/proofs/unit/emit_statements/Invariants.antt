use Rattle.std.proofs.Common.{◌≡◌, ◌++◌, drop, length}
use Rattle.hep_code.specs.Words.{statements_code}
use Rattle.hep_lower.specs.Starts.{starts_from, end_from}
use Rattle.hep_lower.specs.Tables.{table_in}
use Rattle.hep_lower.proofs.unit.emit_statements.Given as goal

abbrev pub invariant-loop-index : goal.invariant-loop-index
invariant-loop-index l =
    record {
      code : l.code.items ++ statements_code (table_in l.tables) l.index (drop l.index l.tables.control.now) ≡ statements_code (table_in l.tables) 0 l.tables.control.now;
      starts : l.statements.items ++ starts_from (table_in l.tables) (length l.code.items) l.index (drop l.index l.tables.control.now) ≡ starts_from (table_in l.tables) 0 0 l.tables.control.now;
      end : end_from (table_in l.tables) (length l.code.items) l.index (drop l.index l.tables.control.now) ≡ end_from (table_in l.tables) 0 0 l.tables.control.now;
    }
