-- The lines of a source, each with the number of times that its statement began: docs/RUNS.md, "How often lines
-- began".
use Rattle.std.specs.Prelude.{ℕ, suc, ◌-◌, not, nat_eq, is_some, if◌then◌else◌, Bool, false, List, [], ◌∷◌, ◌++◌, codes, length, replicate, Option, Some, None, slice_get}
use Rattle.std.specs.Fmt.{decimal}
use Rattle.std.specs.List.{filter}
use Rattle.std.specs.Option.{option_flatten}
use Rattle.hep_machine.specs.declared.event.Entry.{Entry}
use Rattle.hep_machine.specs.Words.{Units}
use Rattle.hep_text.specs.Line.{lines}
use Rattle.hep_cover.specs.Coverage.{coverage}

-- blanks before a text, so that both have `width` characters at least
abbrev pub padded : ℕ → List ℕ → List ℕ
padded width text = replicate (width - length text) 32 ++ text

abbrev pub count_text : Option ℕ → List ℕ
count_text None = codes "-"
count_text (Some n) = if nat_eq n 0 then codes "#####" else decimal n

abbrev pub number_text : ℕ → List ℕ
number_text number = decimal number

-- a line with its number
abbrev pub line_text : Option ℕ → ℕ → List ℕ → List ℕ
line_text count number line = padded 9 (count_text count) ++ codes ":" ++ padded 5 (number_text number) ++ codes ":" ++ line ++ codes "\n"

-- the lines after the first `before` ones
abbrev pub lines_text : List (Option ℕ) → ℕ → List (List ℕ) → List ℕ
lines_text counts before [] = []
lines_text counts before (l ∷ ls) = line_text (option_flatten (slice_get counts before)) (suc before) l ++ lines_text counts (suc before) ls

-- ---- how many lines have a statement that can begin, how many of these began, and how many never did

abbrev pub has_begun : Option ℕ → Bool
has_begun None = false
has_begun (Some n) = not (nat_eq n 0)

abbrev pub can_begin_in : List (Option ℕ) → ℕ
can_begin_in counts = length (filter is_some counts)

abbrev pub begun_in : List (Option ℕ) → ℕ
begun_in counts = length (filter has_begun counts)

abbrev pub total_text : ℕ → ℕ → List ℕ
total_text all began =
    codes "LINES " ++ decimal all ++ codes " BEGAN " ++ decimal began ++ codes " NEVER " ++ decimal (all - began) ++ codes "\n"

-- ---- all lines of a source, and how many they are

abbrev pub coverage_text : List (Option ℕ) → List (List ℕ) → List ℕ
coverage_text counts source = lines_text counts 0 source ++ total_text (can_begin_in counts) (begun_in counts)

abbrev pub cover_text : Units → List ℕ → List (List Entry) → List ℕ
cover_text program source histories = coverage_text (coverage program (length (lines source)) histories) (lines source)
