use Rattle.std.proofs.Common.{◌≡◌, drop}
use Rattle.indexmap.specs.IndexMap.{get}
use Rattle.hep_machine.specs.Words.{Name, name_eq}
use Rattle.hep_conditions.specs.Words.{least_line}
use Rattle.hep_types.specs.AmbiguityLines as passes
use Rattle.hep_types.proofs.repeated_names.lines_by_name.Given as goal

abbrev pub invariant-loop-name : goal.invariant-loop-name
invariant-loop-name l = (x : Name) → least_line (get name_eq l.lines.map x) (passes.least_named (drop l.name-index l.uses) x) ≡ passes.least_named l.uses x
