use Rattle.std.proofs.Common.{◌-◌}
use Rattle.hep_control.proofs.Continuations.{Read}
use Rattle.hep_control.proofs.successors.successors_of.Given as goal

abbrev pub invariant-loop-read : goal.invariant-loop-read
invariant-loop-read l = Read l.unit l.past (l.past - l.read) l.all.items l.ahead
