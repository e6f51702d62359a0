use Rattle.std.proofs.Common.{◌∙◌, ap, length, refl}
use Rattle.hep_machine.specs.Words.{executable_from}
use Rattle.hep_code.specs.Words.{instructions_before, unplaced}
use Rattle.hep_lower.specs.declared.tables.Tables.{Tables}
use Rattle.hep_lower.specs.Tables.{addressed_in}
use Rattle.hep_lower.proofs.Indexes.{AreBlank, blank-long, found-start, found-code}
use Rattle.hep_lower.proofs.UnitRefusals.{over_same}
use Rattle.hep_lower.proofs.unit.emit_unit.Goals as goal
use Rattle.hep_lower.proofs.unit.emit_unit.Goals.{After-emit_statements}

abbrev blank : After-emit_statements → Tables
blank c = record { names = c.args.names.now; control = c.args.control; starts = record { statements = c.new-statements.result; end = 0 } }

is-blank : (c : After-emit_statements) → AreBlank (blank c)
is-blank c = record { unit = c.requires.unit; few_units = c.requires.few_units; statements = c.new-statements.ensures.items; end = refl }

pub returns-in_err-tables-clause-refused : goal.returns-in_err-tables-clause-refused
returns-in_err-tables-clause-refused c =
    let t = (goal.at.returns-in_err-tables-clause-refused c).After-emit_statements in
    over_same c.from_residual.result c.in_err-tables.field-0.0 _ _ c.from_residual.ensures c.in_err-tables.ensures.refused (blank-long (blank t) (is-blank t))

pub returns-in_err-emitted-clause-refused : goal.returns-in_err-emitted-clause-refused
returns-in_err-emitted-clause-refused c =
    let t = (goal.at.returns-in_err-emitted-clause-refused c).After-emit_statements in
    let found = c.in_ok-tables.ensures in
    over_same c.from_residual-in_err-emitted.result c.in_err-emitted.field-0.0 _ _ c.from_residual-in_err-emitted.ensures c.in_err-emitted.ensures.refused
    (ap length (found-code (blank t) (is-blank t) c.in_ok-tables.field-0.starts found.starts found.end))

pub returns-clause-code : goal.returns-clause-code
returns-clause-code c =
    let t = (goal.at.returns-clause-code c).After-emit_statements in
    let found = c.in_ok-tables.ensures in
    c.in_ok-emitted.ensures.code ∙ found-code (blank t) (is-blank t) c.in_ok-tables.field-0.starts found.starts found.end

pub returns-clause-entry : goal.returns-clause-entry
returns-clause-entry c =
    let t = (goal.at.returns-clause-entry c).After-emit_statements in
    let found = c.in_ok-tables.ensures in
    let whole = addressed_in c.args.names.now in
    c.start-entry.ensures
    ∙ (found-start (blank t) (is-blank t) c.in_ok-tables.field-0.starts found.starts found.end c.first_executable.result
    ∙ ap (instructions_before (unplaced whole) 0 whole.unit) (c.first_executable.ensures ∙ ap (λ ss. executable_from ss 0) (c.unit.ensures ∙ c.requires.unit)))
