use Rattle.std.proofs.Common.{◌∙◌, ap, sym}
use Rattle.hep_conditions.specs.Words.{reported}
use Rattle.hep_conditions.proofs.Lines.{reported-where}
use Rattle.hep_names.specs.Parts.{line_of}
use Rattle.hep_check.specs.Resume.{is_misplaced}
use Rattle.hep_check.proofs.resume.resume_violation.Goals as goal

pub returns : goal.returns
returns c =
    let unit = c.args.statements.now in
    c.reported.ensures ∙ (ap (reported 312) c.least_misplaced.ensures ∙ sym (reported-where 312 (is_misplaced unit) line_of unit))
