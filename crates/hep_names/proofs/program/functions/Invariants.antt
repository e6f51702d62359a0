use Rattle.std.proofs.Common.{◌≡◌, drop}
use Rattle.std.specs.Option.{option_or}
use Rattle.indexmap.specs.IndexMap.{get}
use Rattle.hep_machine.specs.Words.{Name, function_name, name_eq}
use Rattle.hep_names.specs.Tables.{called_from}
use Rattle.hep_names.proofs.program.functions.Given as goal

abbrev pub invariant-loop-number : goal.invariant-loop-number
invariant-loop-number l = (x : Name) → option_or (get name_eq l.numbers.map x) (called_from function_name l.number x (drop l.number l.program)) ≡ called_from function_name 0 x l.program
