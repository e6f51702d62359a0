use Rattle.hep_workers.proofs.Committed.{entries-so}
use Rattle.hep_workers.proofs.turn.turns_at_once.Goals as goal

pub returns-clause-entries : goal.returns-clause-entries
returns-clause-entries c = entries-so c.args.turns c.args.core.now c.turns_at_once.new.self c.turns_at_once.result c.turns_at_once.ensures.made
