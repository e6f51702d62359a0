use Rattle.hep_trace.proofs.TargetNames.{AreSought}
use Rattle.hep_trace.proofs.target_filter.is_target.Given as goal

abbrev pub invariant-loop-entry : goal.invariant-loop-entry
invariant-loop-entry l = AreSought l.ahead l.count l.name l.entry-index l.rest
