use Rattle.std.proofs.Common.{◌≡◌, ◌++◌, drop}
use Rattle.hep_warnings.specs.Merge.{merged}
use Rattle.hep_warnings.proofs.merge.merged.Given as goal

abbrev pub invariant-loop-warning : goal.invariant-loop-warning
invariant-loop-warning l = l.all.items ++ merged (drop l.warning-index l.first) l.left ≡ merged l.first l.second
