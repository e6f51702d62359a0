use Rattle.std.proofs.Common.{◌≡◌, ◌++◌, drop, map}
use Rattle.std.specs.List.{flat_map}
use Rattle.hep_conditions.specs.Statements as statements
use Rattle.hep_names.specs.Lists.{listed}
use Rattle.hep_names.specs.Parts.{part, tree_in}
use Rattle.hep_names.proofs.lists.in_parts.Given as goal

abbrev pub invariant-loop-part : goal.invariant-loop-part
invariant-loop-part l =
    map listed l.found.items ++ flat_map statements.names_with_lists_in (flat_map tree_in (map part (drop l.part-index l.parts)))
    ≡ flat_map statements.names_with_lists_in (flat_map tree_in (map part l.parts))
