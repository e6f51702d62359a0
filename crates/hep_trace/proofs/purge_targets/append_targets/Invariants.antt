use Rattle.hep_trace.proofs.TargetTexts.{AreWritten}
use Rattle.hep_trace.proofs.purge_targets.append_targets.Given as goal

abbrev pub invariant-loop-entry : goal.invariant-loop-entry
invariant-loop-entry l = AreWritten l.ahead l.count l.entry-index l.rest l.text.items l.initial.text.items
