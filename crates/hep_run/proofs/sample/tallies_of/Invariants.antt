use Rattle.hep_run.specs.Samples.{IsTallied}
use Rattle.hep_run.proofs.sample.tallies_of.Given as goal

abbrev pub invariant-loop-run : goal.invariant-loop-run
invariant-loop-run g l = IsTallied l.long l.options l.source l.run l.tallies.items
