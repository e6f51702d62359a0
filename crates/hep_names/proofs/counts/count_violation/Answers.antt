use Rattle.std.proofs.Common.{◌∙◌, ap, sym}
use Rattle.hep_conditions.specs.Words.{reported}
use Rattle.hep_conditions.proofs.Lines.{reported-where}
use Rattle.hep_names.specs.Parts.{is_miscounted, line_of}
use Rattle.hep_names.proofs.counts.count_violation.Goals as goal

pub returns : goal.returns
returns c =
    c.reported.ensures
    ∙ (ap (reported 303) c.in_ok-least_miscounted.ensures ∙ sym (reported-where 303 (is_miscounted c.args.program.now c.args.symbols.now) line_of c.args.symbols.now))
