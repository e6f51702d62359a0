use Rattle.std.proofs.Common.{◌≡◌, ◌++◌, drop}
use Rattle.std.specs.List.{flat_map}
use Rattle.hep_lower.specs.Names.{names_in}
use Rattle.hep_lower.proofs.operands.emit_each.Given as goal

abbrev pub invariant-loop-item : goal.invariant-loop-item
invariant-loop-item g l = l.code.items ++ flat_map (g.T.HasOperands.code_of (names_in l.names) l.line) (drop l.item-index l.items) ≡ l.initial.code.items ++ flat_map (g.T.HasOperands.code_of (names_in l.names) l.line) l.items
