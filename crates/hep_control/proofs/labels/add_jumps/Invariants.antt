use Rattle.std.proofs.Common.{◌≡◌, ◌++◌, drop, map}
use Rattle.hep_control.specs.Jumps.{leap, leaps_by}
use Rattle.hep_control.proofs.labels.add_jumps.Given as goal

abbrev pub invariant-loop-label : goal.invariant-loop-label
invariant-loop-label l =
    map leap l.jumps.items ++ leaps_by l.labels l.from l.line (drop l.label-index l.targets)
    ≡ map leap l.initial.jumps.items ++ leaps_by l.labels l.from l.line l.targets
