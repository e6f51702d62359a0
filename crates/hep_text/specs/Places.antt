-- The place in a source, a line and a column, that a refusal is about: docs/MACHINE.md, "Notes".
use Rattle.std.specs.Prelude.{ℕ, ◌+◌, ◌-◌, ◌||◌, Bool, true, false, drop, not, if◌then◌else◌, nat_eq, find, List, length, take, unwrap_or, option_and_then, option_map, slice_get, Option, None}
use Rattle.std.specs.List.{position}
use Rattle.hep_text.specs.Characters.{apostrophe}
use Rattle.hep_text.specs.Line.{is_blank, is_blank_or_digit, is_printable, is_tab, lines}
use Rattle.hep_text.specs.declared.statement.Span.{Span}
use Rattle.hep_text.specs.declared.statement.Stmt.{Stmt}

-- the line with this number, counted from 1; none where there is no such line
abbrev pub line_in : List (List ℕ) → ℕ → Option (List ℕ)
line_in rows number = if nat_eq number 0 then None else slice_get rows (number - 1)

abbrev pub line_at : List ℕ → ℕ → Option (List ℕ)
line_at source number = line_in (lines source) number

-- the first column whose byte passes the test, or the column after the last one, counted from 1
abbrev pub first_column : (ℕ → Bool) → List ℕ → ℕ
first_column test columns = unwrap_or (position test columns) (length columns) + 1

-- a byte that columns 1 to 5 may not have
abbrev pub is_no_label : ℕ → Bool
is_no_label byte = not (is_blank_or_digit byte)

abbrev pub is_unprintable : ℕ → Bool
is_unprintable byte = not (is_printable byte)

abbrev pub is_apostrophe : ℕ → Bool
is_apostrophe byte = nat_eq byte apostrophe

abbrev pub is_no_blank : ℕ → Bool
is_no_blank byte = not (is_blank byte)

-- the column of the mark on a continuation line, and else the column where the text of a statement begins
abbrev pub column_of_statement : Bool → List ℕ → ℕ
column_of_statement true line = 6
column_of_statement false line = 6 + first_column is_no_blank (drop 6 (take 72 line))

-- The column of a line that a rule is about: that of a tab, of another byte that isn't printable, of a byte that a label may not have,
-- of an apostrophe, of the mark of a continuation line, or else of the first character of the statement.
abbrev pub column_of_line : ℕ → List ℕ → ℕ
column_of_line number line =
    if nat_eq number 101 then first_column is_tab (take 72 line)
    else (if nat_eq number 102 then first_column is_unprintable (take 72 line)
    else (if nat_eq number 103 then first_column is_no_label (take 5 line)
    else (if nat_eq number 106 then first_column is_apostrophe (take 72 line)
    else column_of_statement (nat_eq number 104 || nat_eq number 105) line)))

abbrev pub span_at : ℕ → ℕ → Span
span_at line column = record { line = line; column = column }

-- the line and column where the rule with this number is broken; none where the source has no such line
abbrev pub place_of_line : List ℕ → ℕ → ℕ → Option Span
place_of_line source number line = option_map (λ text. span_at line (column_of_line number text)) (line_at source line)

abbrev pub is_at : ℕ → Stmt → Bool
is_at line statement = nat_eq statement.line line

-- the line and column of the character at an index in the statement that begins on a line; none where there is no such character
abbrev pub place_in : List Stmt → ℕ → ℕ → Option Span
place_in statements line index =
    option_and_then (λ (statement : Stmt). slice_get statement.spans index) (find (is_at line) statements)
