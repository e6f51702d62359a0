use Rattle.hep_history.proofs.InRuns.{end_of_last}
use Rattle.hep_history.proofs.entry_lookup.end_of.Goals as goal

pub returns-in-Some : goal.returns-in-Some
returns-in-Some c = end_of_last c.args.shorts.now c.in-Some.short.now c.in-Some.ensures.value
