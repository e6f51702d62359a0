use Rattle.std.proofs.Common.{◌≡◌, ◌++◌, drop, map}
use Rattle.std.specs.List.{flat_map}
use Rattle.hep_names.specs.Lists.{listed}
use Rattle.hep_names.specs.Parts as passes
use Rattle.hep_check.proofs.unknown_names.add_unknown_listed.Given as goal

abbrev pub invariant-loop-name : goal.invariant-loop-name
invariant-loop-name l =
    l.found.items ++ flat_map (passes.unknown_listed l.program l.symbols l.line) (map listed (drop l.name-index l.names))
    ≡ l.initial.found.items ++ flat_map (passes.unknown_listed l.program l.symbols l.line) (map listed l.names)
