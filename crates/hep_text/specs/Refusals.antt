-- The notes that follow the line of a refusal of a source: docs/MACHINE.md, "Notes".
use Rattle.std.specs.Prelude.{ℕ, Bool, nat_eq, if◌then◌else◌, List, [], ◌∷◌, ◌++◌, codes, Option, Some, None}
use Rattle.std.specs.Fmt.{decimal}
use Rattle.std.specs.List.{list_any}
use Rattle.hep_text.specs.declared.statement.Span.{Span}
use Rattle.hep_text.specs.declared.statement.Stmt.{Stmt}
use Rattle.hep_text.specs.Places.{line_at, place_in, place_of_line}
use Rattle.hep_text.specs.Reasons.{reason}
use Rattle.hep_text.specs.LineDisplay.{caret_text, line_text_of, words_text}

-- the part of the statement that the rule is about and a colon, or nothing where that part is empty
abbrev pub about_text : List ℕ → List ℕ
about_text [] = []
about_text (c ∷ cs) = (c ∷ cs) ++ codes ": "

-- whether the part that the rule is about has several words, which replace the rule's words
abbrev pub says_all : List ℕ → Bool
says_all about = list_any (nat_eq 32) about

-- the part that the rule is about and then the rule in a few words, or that part alone where it has several words
abbrev pub words_of : ℕ → List ℕ → List ℕ
words_of number about = if says_all about then about else about_text about ++ reason number

-- these words under the line of the source and a caret, where the place is known, and else the words alone
abbrev pub notes_at : List ℕ → List ℕ → Option Span → List ℕ
notes_at source words None = words_text words
notes_at source words (Some span) = line_text_of span.line (line_at source span.line) ++ caret_text span.column words

-- the notes of a refusal, by its number, its line and its name alone
abbrev pub line_notes : List ℕ → ℕ → ℕ → List ℕ → List ℕ
line_notes source number line name = notes_at source (words_of number name) (place_of_line source number line)

-- the notes of a refusal that is about the character at an index in the statement that begins on the line
abbrev pub statement_notes : List ℕ → List Stmt → ℕ → ℕ → List ℕ → ℕ → List ℕ
statement_notes source statements number line about index =
    notes_at source (words_of number about) (place_in statements line index)

-- ---- a violation after the first one

-- ` NAME ` and the name, or nothing where the name is empty
abbrev pub name_behind : List ℕ → List ℕ
name_behind [] = []
name_behind (c ∷ cs) = codes " NAME " ++ (c ∷ cs)

-- the line of the violation, which begins with ALSO
abbrev pub also_line : ℕ → ℕ → List ℕ → List ℕ
also_line number line name = codes "ALSO " ++ decimal number ++ codes " LINE " ++ decimal line ++ name_behind name ++ codes "\n"

-- the line of the violation, and its notes
abbrev pub also_notes : List ℕ → List Stmt → ℕ → ℕ → List ℕ → List ℕ → ℕ → List ℕ
also_notes source statements number line name about index =
    also_line number line name ++ statement_notes source statements number line about index
