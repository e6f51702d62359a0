use Rattle.std.proofs.Common.{◌≡◌, ◌++◌, drop, map}
use Rattle.std.specs.List.{flat_map}
use Rattle.hep_names.specs.Parts.{part, parts_in_declared}
use Rattle.hep_names.proofs.parts.add_declared.Given as goal

abbrev pub invariant-loop-declarator : goal.invariant-loop-declarator
invariant-loop-declarator l = map part l.found.items ++ flat_map parts_in_declared (drop l.declarator-index l.declarators) ≡ map part l.initial.found.items ++ flat_map parts_in_declared l.declarators
