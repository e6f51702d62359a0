use Rattle.std.proofs.Common.{◌≡◌, drop}
use Rattle.std.specs.List.{list_all}
use Rattle.hep_machine.specs.Words.{names_declared}
use Rattle.hep_conditions.specs.Words.{is_type_of}
use Rattle.hep_names.specs.Functions.{functions_of}
use Rattle.hep_types.proofs.forms.are_types_of.Given as goal

abbrev pub invariant-loop-declarator : goal.invariant-loop-declarator
invariant-loop-declarator l = list_all (is_type_of (functions_of l.functions) l.symbols l.value_type) (names_declared (drop l.declarator-index l.declarators)) ≡ list_all (is_type_of (functions_of l.functions) l.symbols l.value_type) (names_declared l.declarators)
