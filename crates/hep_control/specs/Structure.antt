-- 307 by lines (X3.9-1978, 11.5 to 11.10).
use Rattle.std.specs.Prelude.{ℕ, Bool, true, not, nat_lt, if◌then◌else◌, List, [], ◌++◌, Option, Some, None, option_to_list, slice_get}
use Rattle.std.specs.List.{flat_map}
use Rattle.std.specs.Option.{unwrap_or}
use Rattle.hep_machine.specs.Words.{Form, Statement, line_at, statement_at, index_labelled}
use Rattle.hep_source.specs.declared.statement.Form.TheVariants as form
use Rattle.hep_conditions.specs.Words.{IndexedStatement, is_unconditional, is_wrong_terminal, holds_wrongly, least_line, line_when}
use Rattle.hep_control.specs.declared.blocks.BlockIf.{BlockIf}

-- what such a list says of the statement at an index
abbrev pub variable_at : List Bool → ℕ → Bool
variable_at variables k = unwrap_or (slice_get variables k) true

-- ---- the lines of statements that violate 307 on their own

-- the line of a terminal statement, where its form is not allowed there
abbrev pub wrong_terminal_line : List Statement → ℕ → Option ℕ
wrong_terminal_line unit t = line_when (is_wrong_terminal (statement_at unit t)) (line_at unit t)

abbrev pub terminal_line : List Statement → ℕ → ℕ → Option ℕ → Option ℕ
terminal_line unit line k None = None
terminal_line unit line k (Some t) = least_line (line_when (nat_lt t k) line) (wrong_terminal_line unit t)

abbrev pub loop_line : List Statement → Bool → ℕ → ℕ → Form → Option ℕ
loop_line unit is_variable line k (form.Do c) =
    least_line (line_when (not is_variable) line) (terminal_line unit line k (index_labelled unit c.terminal))
loop_line unit is_variable line k _ = None

abbrev pub statement_line : List Statement → Bool → IndexedStatement → Option ℕ
statement_line unit is_variable p =
    least_line (line_when (holds_wrongly p.statement.conditions p.statement.form) p.statement.line)
    (if is_unconditional p.statement then loop_line unit is_variable p.statement.line p.index p.statement.form else None)

-- all lines of violations by the terminal statement of a DO

abbrev pub terminal_lines : List Statement → ℕ → ℕ → Option ℕ → List ℕ
terminal_lines unit line k None = []
terminal_lines unit line k (Some t) = option_to_list (line_when (nat_lt t k) line) ++ option_to_list (wrong_terminal_line unit t)

abbrev pub loop_lines : List Statement → Bool → ℕ → ℕ → Form → List ℕ
loop_lines unit is_variable line k (form.Do c) =
    option_to_list (line_when (not is_variable) line) ++ terminal_lines unit line k (index_labelled unit c.terminal)
loop_lines unit is_variable line k _ = []

abbrev pub statement_lines : List Statement → Bool → IndexedStatement → List ℕ
statement_lines unit is_variable p =
    option_to_list (line_when (holds_wrongly p.statement.conditions p.statement.form) p.statement.line)
    ++ (if is_unconditional p.statement then loop_lines unit is_variable p.statement.line p.index p.statement.form else [])

abbrev pub lines_alone : List Statement → List Bool → List IndexedStatement → List ℕ
lines_alone unit variables ps = flat_map (λ (p : IndexedStatement). statement_lines unit (variable_at variables p.index) p) ps

-- ---- the lines of block IFs that aren't complete

abbrev pub start_line : List Statement → BlockIf → ℕ
start_line unit b = line_at unit b.start
