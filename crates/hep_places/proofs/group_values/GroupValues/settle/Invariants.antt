use Rattle.std.proofs.Common.{length}
use Rattle.hep_places.specs.GroupValues.{AreSame, left}
use Rattle.hep_places.proofs.group_values.GroupValues.settle.Given as goal

abbrev pub invariant-loop-self : goal.invariant-loop-self
invariant-loop-self l = AreSame (left l.self) (left l.initial.self)

abbrev pub decreases-loop-self : goal.decreases-loop-self
decreases-loop-self l = length l.self.behind.now
