use Rattle.hep_replay.proofs.ReplayTurns.{entry_stepped, entry_waited}
use Rattle.hep_replay.proofs.history_replay.make_entry.Goals as goal

pub returns-then-entry-eq0 : goal.returns-then-entry-eq0
returns-then-entry-eq0 c = entry_waited c.args.core.now.core c.make_turn.new.core.core c.args.entry.process c.args.entry.steps c.make_turn.result c.if-entry-eq0.true c.make_turn.ensures

pub returns-else-entry-eq0 : goal.returns-else-entry-eq0
returns-else-entry-eq0 c = entry_stepped c.args.core.now.core c.make_steps.new.core.core c.args.entry.process c.args.entry.steps c.make_steps.result c.if-entry-eq0.false c.make_steps.ensures
