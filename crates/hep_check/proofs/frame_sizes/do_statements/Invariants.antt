use Rattle.std.proofs.Common.{◌≡◌, ◌+◌, ◌≤◌, drop}
use Rattle.hep_machine.specs.Variables as variables
use Rattle.hep_check.proofs.frame_sizes.do_statements.Given as goal

abbrev pub invariant-loop-statement : goal.invariant-loop-statement
invariant-loop-statement l =
    record {
      counted : l.count + variables.do_statements (drop l.statement-index l.statements) ≡ variables.do_statements l.statements;
      bounded : l.count ≤ l.statement-index;
    }
