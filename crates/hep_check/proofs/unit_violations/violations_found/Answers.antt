use Rattle.std.proofs.Common.{◌∷◌, [], ap, ◌∙◌}
use Rattle.hep_conditions.specs.Words.{data_violations, function_types, label_violations, structure_violations, jump_violations, resume_violations, first_of}
use Rattle.hep_check.proofs.FirstLines.{first-in-set}
use Rattle.hep_check.proofs.StatementLines.{IsLineIn, plain-data, plain-jumps, plain-labels, plain-structure}
use Rattle.hep_check.proofs.unit_violations.violations_found.Goals as goal

pub returns : goal.returns
returns c =
    let unit = c.args.symbols.now in
    let functions = function_types c.args.program.now in
    let lines = c.in_ok-lines.lines in
    let found = c.in_ok-lines.ensures in
    let missing = c.in_ok-type_missing_violation.ensures in
    let typed = c.in_ok-type_violation.ensures in
    let counted = c.in_ok-count_violation.ensures in
    let given = c.in_ok-argument_violation.ensures in
    let labelled = c.first.ensures ∙ first-in-set (IsLineIn unit) 306 (label_violations unit) lines.labels.lines.keys (plain-labels unit) found.labels in
    let nested = c.first-2.ensures ∙ first-in-set (IsLineIn unit) 307 (structure_violations functions unit) lines.structure.lines.keys (plain-structure functions unit) found.structure in
    let jumping = c.first-3.ensures ∙ first-in-set (IsLineIn unit) 308 (jump_violations unit) lines.jumps.lines.keys (plain-jumps unit) found.jumps in
    let unknown = c.in_ok-unknown_name_violation.ensures in
    let initial = c.first-4.ensures ∙ first-in-set (IsLineIn unit) 311 (data_violations unit) lines.values.lines.keys (plain-data unit) found.values in
    let resuming = c.resume_violation.ensures ∙ ap (λ u. first_of (resume_violations u)) c.statements.ensures in
    λ j. missing j ∷ typed j ∷ counted j ∷ given j ∷ labelled j ∷ nested j ∷ jumping j ∷ unknown j ∷ initial j ∷ resuming j ∷ []
