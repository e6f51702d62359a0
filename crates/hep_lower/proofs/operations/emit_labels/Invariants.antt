use Rattle.std.proofs.Common.{◌≡◌, ◌++◌, drop, map}
use Rattle.hep_code.specs.declared.instruction.Instruction.TheVariants.{To}
use Rattle.hep_lower.specs.Tables.{table_in}
use Rattle.hep_lower.proofs.operations.emit_labels.Given as goal

abbrev pub invariant-loop-label : goal.invariant-loop-label
invariant-loop-label l = l.code.items ++ map (λ n. To ((table_in l.tables).labels n)) (drop l.label-index l.labels) ≡ l.initial.code.items ++ map (λ n. To ((table_in l.tables).labels n)) l.labels
