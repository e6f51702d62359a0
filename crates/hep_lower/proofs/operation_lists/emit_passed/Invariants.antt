use Rattle.std.proofs.Common.{◌≡◌, ◌≤◌, ◌++◌, drop, map}
use Rattle.hep_code.specs.declared.instruction.Instruction.TheVariants.{Pass}
use Rattle.hep_lower.specs.Names.{names_in}
use Rattle.hep_lower.specs.ArgumentLimits.{subscripts_of_all}
use Rattle.hep_lower.proofs.operation_lists.emit_passed.Given as goal

abbrev pub invariant-loop-item : goal.invariant-loop-item
invariant-loop-item g l =
    let argument = g.T.PassedItem.argument_of (names_in l.names) in
    record {
      code : l.code.items ++ map (λ t. Pass (argument t)) (drop l.item-index l.items) ≡ l.initial.code.items ++ map (λ t. Pass (argument t)) l.items;
      fewer : subscripts_of_all argument (drop l.item-index l.items) ≤ subscripts_of_all argument l.items;
    }
