use Rattle.hep_run.proofs.DiagnosedRefusals.{handed_on, limit_error}
use Rattle.hep_run.proofs.diagnostics.image_diagnosed.Goals as goal

pub returns-in-Err-clause-refused : goal.returns-in-Err-clause-refused
returns-in-Err-clause-refused c =
    limit_error c.args.asked.now.format c.args.asked.now.file.now
    c.args.source.now c.in_ok-checked.checked c.in-Err.refusal c.told_at_line.result
    c.in_ok-checked.ensures.made c.in-Err.ensures.refused c.told_at_line.ensures

pub returns-in_err-checked-clause-refused : goal.returns-in_err-checked-clause-refused
returns-in_err-checked-clause-refused c =
    handed_on c.args.asked.now.format c.args.asked.now.file.now
    c.args.source.now c.from_residual.result c.in_err-checked.field-0.0 c.from_residual.ensures c.in_err-checked.ensures.refused
