use Rattle.hep_run.proofs.DiagnosedRefusals.{statements_error}
use Rattle.hep_run.proofs.diagnostics.checked_statements.Goals as goal

pub returns-in-Err-clause-refused : goal.returns-in-Err-clause-refused
returns-in-Err-clause-refused c =
    statements_error c.args.asked.now.format c.args.asked.now.file.now
    c.args.source.now c.args.statements.now c.in-Err.refusal c.told_at_line.result
    c.requires c.in-Err.ensures.refused c.told_at_line.ensures
