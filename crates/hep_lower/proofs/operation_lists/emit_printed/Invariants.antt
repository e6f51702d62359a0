use Rattle.std.proofs.Common.{◌≡◌, ◌++◌, drop, map}
use Rattle.hep_code.specs.declared.instruction.Instruction.TheVariants.{Show}
use Rattle.hep_code.specs.Words.{printed_of}
use Rattle.hep_lower.proofs.operation_lists.emit_printed.Given as goal

abbrev pub invariant-loop-item : goal.invariant-loop-item
invariant-loop-item l = l.code.items ++ map (λ i. Show (printed_of i)) (drop l.item-index l.items) ≡ l.initial.code.items ++ map (λ i. Show (printed_of i)) l.items
