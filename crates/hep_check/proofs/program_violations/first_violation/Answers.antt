use Rattle.std.proofs.Common.{◌∙◌, ap}
use Rattle.std.specs.List.{flat_map}
use Rattle.hep_conditions.specs.Words.{common_violations, first_of_two, name_violations, violations_in}
use Rattle.hep_names.proofs.Firsts.{three}
use Rattle.hep_check.proofs.FirstLines.{first-in-set}
use Rattle.hep_check.proofs.StatementLines.{IsLineOf, plain-common, plain-names}
use Rattle.hep_check.proofs.program_violations.first_violation.Goals as goal

pub returns : goal.returns
returns c =
    let program = c.args.program.now in
    let lines = c.in_ok-lines.lines in
    let common = c.first.ensures ∙ first-in-set (IsLineOf program) 305 (common_violations program) lines.common.lines.keys (plain-common program) c.in_ok-lines.ensures.common in
    let named = c.first-2.ensures ∙ first-in-set (IsLineOf program) 309 (name_violations program) lines.names.lines.keys (plain-names program) c.in_ok-lines.ensures.names in
    c.first_of_two.ensures
    ∙ (ap (first_of_two c.in_ok-in_units.in_units) c.first_of_two-shared.ensures
    ∙ three (flat_map (violations_in program) program) (common_violations program) (name_violations program) c.in_ok-in_units.in_units c.first.result c.first-2.result c.in_ok-in_units.ensures common named)
