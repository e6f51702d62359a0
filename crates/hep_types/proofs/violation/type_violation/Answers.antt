use Rattle.std.proofs.Common.{◌∙◌, ap, sym}
use Rattle.hep_conditions.specs.Words.{function_types, no_parameters, reported}
use Rattle.hep_types.proofs.Passes.{reported-untyped}
use Rattle.hep_types.proofs.violation.type_violation.Goals as goal

pub returns : goal.returns
returns c = c.reported.ensures ∙ (ap (reported 302) c.in_ok-least_untyped.ensures ∙ sym (reported-untyped (function_types c.args.program.now) c.args.symbols.now no_parameters c.args.symbols.now))
