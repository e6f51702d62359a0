use Rattle.std.proofs.Common.{◌≡◌, drop}
use Rattle.std.specs.List.{list_all}
use Rattle.hep_machine.specs.Words.{Integer}
use Rattle.hep_conditions.specs.Words.{is_constant_of}
use Rattle.hep_types.proofs.violation.are_constant.Given as goal

abbrev pub invariant-loop-subscript : goal.invariant-loop-subscript
invariant-loop-subscript l = list_all (is_constant_of l.scope.symbols.now l.scope.parameters.now Integer) (drop l.subscript-index l.subscripts) ≡ list_all (is_constant_of l.scope.symbols.now l.scope.parameters.now Integer) l.subscripts
