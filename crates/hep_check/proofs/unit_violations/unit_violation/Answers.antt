use Rattle.std.proofs.Common.{[], ◌∷◌, ap, ◌∙◌}
use Rattle.hep_conditions.specs.Words.{function_types, argument_violations, type_violations, count_violations, data_violations, label_violations, type_missing_violations, unknown_name_violations, structure_violations, jump_violations, resume_violations}
use Rattle.hep_check.specs.FirstFound.{first_found}
use Rattle.hep_check.proofs.FirstOfSeveral.{gathered}
use Rattle.hep_check.proofs.unit_violations.unit_violation.Goals as goal

pub returns : goal.returns
returns c =
    let program = c.args.program.now in
    let unit = c.args.symbols.now in
    let functions = function_types program in
    c.first_found.ensures
    ∙ (ap first_found c.in_ok-found.ensures
    ∙ gathered (type_missing_violations functions unit) (
    type_violations functions unit
    ∷ count_violations program unit
    ∷ argument_violations functions program unit
    ∷ label_violations unit
    ∷ structure_violations functions unit
    ∷ jump_violations unit
    ∷ unknown_name_violations program unit
    ∷ data_violations unit
    ∷ resume_violations unit
    ∷ []))
