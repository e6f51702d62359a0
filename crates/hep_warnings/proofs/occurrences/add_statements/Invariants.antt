use Rattle.std.proofs.Common.{◌≡◌, drop}
use Rattle.indexmap.specs.IndexMap.{get}
use Rattle.hep_machine.specs.Words.{Name, name_eq}
use Rattle.hep_warnings.specs.SingleOccurrences.{after_statements}
use Rattle.hep_warnings.proofs.occurrences.add_statements.Given as goal

abbrev pub invariant-loop-statement : goal.invariant-loop-statement
invariant-loop-statement l =
    (x : Name) → after_statements l.symbols x (get name_eq l.map x) (drop l.statement-index l.statements)
    ≡ after_statements l.symbols x (get name_eq l.initial.map x) l.statements
