use Rattle.std.proofs.Common.{◌∙◌, ap}
use Rattle.hep_conditions.specs.Words.{unknown_subroutines, unknown_references, unknown_targets, first_of_two, first_of}
use Rattle.hep_names.proofs.Firsts.{three}
use Rattle.hep_names.proofs.Passes.{unknown-targets}
use Rattle.hep_names.proofs.unknown_names.unknown_in.Goals as goal

pub returns : goal.returns
returns c =
    let unit = c.args.symbols.now in
    let s = c.args.statement.now in
    c.first_of_two-2.ensures
    ∙ (ap (first_of_two c.unknown_subroutine-called.result) c.first_of_two.ensures
    ∙ three (unknown_subroutines c.args.program.now s) (unknown_references c.args.program.now unit s) (unknown_targets unit s)
    c.unknown_subroutine-called.result c.in_ok-referenced.referenced c.unknown_in_form-targets.result
    c.unknown_subroutine-called.ensures c.in_ok-referenced.ensures (c.unknown_in_form-targets.ensures ∙ ap first_of (unknown-targets unit s.line s.form)))
