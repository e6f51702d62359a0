use Rattle.std.proofs.Common.{◌≡◌, ◌++◌, map, drop}
use Rattle.hep_machine.specs.Words.{spelling}
use Rattle.hep_lower.proofs.program_names.add_spellings.Given as goal

abbrev pub invariant-loop-name : goal.invariant-loop-name
invariant-loop-name l = l.names.items ++ map spelling (drop l.name-index l.list) ≡ l.initial.names.items ++ map spelling l.list
