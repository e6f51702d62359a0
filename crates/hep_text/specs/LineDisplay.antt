-- How a line of a source is shown, with a caret under one of its columns: docs/MACHINE.md, "Notes".
use Rattle.std.specs.Prelude.{ℕ, ◌-◌, List, [], ◌++◌, codes, if◌then◌else◌, length, map, replicate, take, Option, Some, None}
use Rattle.std.specs.Fmt.{decimal}
use Rattle.hep_text.specs.Line.{is_printable}
use Rattle.hep_text.specs.Places.{line_in}

abbrev pub blanks : ℕ → List ℕ
blanks count = replicate count 32

-- the margin of a line: its number or none, aligned right in five columns, and a bar
abbrev pub margin : List ℕ → List ℕ
margin number = blanks (5 - length number) ++ number ++ codes " | "

-- a byte as it is shown: itself where it is printable, and else a question mark
abbrev pub shown : ℕ → ℕ
shown byte = if is_printable byte then byte else 63

-- a line with its number, up to column 80
abbrev pub line_text : ℕ → List ℕ → List ℕ
line_text number line = margin (decimal number) ++ map shown (take 80 line) ++ codes "\n"

-- a line of words after an empty margin
abbrev pub words_text : List ℕ → List ℕ
words_text words = margin [] ++ words ++ codes "\n"

-- a line with a caret under a column, counted from 1, and words after the caret
abbrev pub caret_text : ℕ → List ℕ → List ℕ
caret_text column words = margin [] ++ blanks (column - 1) ++ codes "^ " ++ words ++ codes "\n"

abbrev pub line_text_of : ℕ → Option (List ℕ) → List ℕ
line_text_of number None = []
line_text_of number (Some line) = line_text number line

-- the line with this number as it is shown, or nothing where there is no such line
abbrev pub line_shown : List (List ℕ) → ℕ → List ℕ
line_shown rows number = line_text_of number (line_in rows number)
