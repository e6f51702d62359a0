use Rattle.hep_run.proofs.Wanted.{read-small, want-of, wanted-anyway}
use Rattle.hep_run.proofs.front_end.checked_source.Goals as goal

pub returns-in-Err-clause-wanted : goal.returns-in-Err-clause-wanted
returns-in-Err-clause-wanted c = want-of c.args.long c.args.source.now c.in-Err.refusal c.refused_at_line.result c.refused_at_line.ensures.short c.in-Err.ensures.small

pub returns-clause-wanted : goal.returns-clause-wanted
returns-clause-wanted c = wanted-anyway c.args.long c.args.source.now c.checked_statements.result (read-small c.args.source.now _ c.in-Ok.ensures.ok)
