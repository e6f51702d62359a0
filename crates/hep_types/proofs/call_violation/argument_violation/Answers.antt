use Rattle.std.proofs.Common.{◌∙◌, ap, sym}
use Rattle.hep_conditions.specs.Words.{reported}
use Rattle.hep_conditions.proofs.Lines.{reported-where}
use Rattle.hep_names.specs.Parts.{line_of}
use Rattle.hep_types.specs.CallPasses.{is_mismatched}
use Rattle.hep_types.proofs.call_violation.argument_violation.Goals as goal

pub returns : goal.returns
returns c =
    c.reported.ensures
    ∙ (ap (reported 304) c.in_ok-least_mismatched.ensures ∙ sym (reported-where 304 (is_mismatched c.args.program.now c.args.symbols.now) line_of c.args.symbols.now))
