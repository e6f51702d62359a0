-- The properties of each statement of a text: docs/LANGUAGE.md, 1 and 2.
use Rattle.std.specs.Prelude.{◌≡◌, ℕ, ◌≤◌, length, Option, Some, None}
use Rattle.hep_text.specs.declared.statement.Stmt.{Stmt}
use Rattle.hep_text.specs.Reading.{most_lines}

-- the greatest number of five digits
abbrev pub greatest_label : ℕ
greatest_label = 99999

-- A label has one to five digits, and not all of them are zeros (X3.9-1978, 3.4).
abbrev pub LabelFits : Option ℕ → Type 0
LabelFits None = Unit {0}
LabelFits (Some n) = (1 ≤ n) × (n ≤ greatest_label)

-- Each character of the statement has a span, which is its line and column.
abbrev pub HasSpans : Stmt → Type 0
HasSpans s = length s.text ≡ length s.spans

-- The number of the statement's line is within the bounds of a text.
abbrev pub LineFits : Stmt → Type 0
LineFits s = (1 ≤ s.line) × (s.line ≤ most_lines)

-- The statement has all these properties.
abbrev pub IsWellFormed : Stmt → Type 0
IsWellFormed s = HasSpans s × LineFits s × LabelFits s.label
