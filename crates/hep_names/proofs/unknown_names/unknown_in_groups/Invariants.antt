use Rattle.std.proofs.Common.{◌≡◌, drop}
use Rattle.std.specs.List.{flat_map}
use Rattle.hep_conditions.specs.Words.{first_of, first_of_two}
use Rattle.hep_names.specs.Parts as passes
use Rattle.hep_names.proofs.unknown_names.unknown_in_groups.Given as goal

abbrev pub invariant-loop-group : goal.invariant-loop-group
invariant-loop-group l = first_of_two l.first (first_of (flat_map (passes.unknown_in_group l.symbols l.line) ((drop l.group-index l.groups)))) ≡ first_of (flat_map (passes.unknown_in_group l.symbols l.line) (l.groups))
