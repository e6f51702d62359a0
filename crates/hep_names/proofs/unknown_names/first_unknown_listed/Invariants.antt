use Rattle.std.proofs.Common.{◌≡◌, drop, map}
use Rattle.std.specs.List.{flat_map}
use Rattle.hep_conditions.specs.Words.{first_of, first_of_two}
use Rattle.hep_names.specs.Lists.{listed}
use Rattle.hep_names.specs.Parts as passes
use Rattle.hep_names.proofs.unknown_names.first_unknown_listed.Given as goal

abbrev pub invariant-loop-name : goal.invariant-loop-name
invariant-loop-name l = first_of_two l.first (first_of (flat_map (passes.unknown_listed l.program l.symbols l.line) (map listed (drop l.name-index l.names)))) ≡ first_of (flat_map (passes.unknown_listed l.program l.symbols l.line) (map listed l.names))
