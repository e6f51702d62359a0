use Rattle.std.proofs.Common.{◌≡◌, drop}
use Rattle.std.specs.List.{flat_map}
use Rattle.hep_conditions.specs.Words.{first_of, first_of_two}
use Rattle.hep_names.specs.Parts as passes
use Rattle.hep_names.proofs.unknown_names.first_unknown_target.Given as goal

abbrev pub invariant-loop-target : goal.invariant-loop-target
invariant-loop-target l = first_of_two l.first (first_of (flat_map (passes.unknown_target l.symbols l.line) ((drop l.target-index l.targets)))) ≡ first_of (flat_map (passes.unknown_target l.symbols l.line) (l.targets))
