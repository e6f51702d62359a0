use Rattle.std.proofs.Common.{◌≡◌, ◌++◌, drop, map}
use Rattle.std.specs.List.{flat_map}
use Rattle.hep_names.specs.Parts.{part, occurrences_in_part}
use Rattle.hep_names.proofs.occurrences.add_in_parts.Given as goal

abbrev pub invariant-loop-part : goal.invariant-loop-part
invariant-loop-part l = l.found.items ++ flat_map (occurrences_in_part l.listed) (map part (drop l.part-index l.parts)) ≡ l.initial.found.items ++ flat_map (occurrences_in_part l.listed) (map part l.parts)
