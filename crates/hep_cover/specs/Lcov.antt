-- The counts of lines as a tracefile of lcov (geninfo, "FILES"), which genhtml and editors show: docs/RUNS.md, "How often lines began".
use Rattle.std.specs.Prelude.{ℕ, suc, List, [], ◌∷◌, ◌++◌, codes, length, Option, Some, None}
use Rattle.std.specs.Borrow.{Bor}
use Rattle.std.specs.Fmt.{decimal}
use Rattle.hep_machine.specs.declared.event.Entry.{Entry}
use Rattle.hep_machine.specs.Words.{Units}
use Rattle.hep_text.specs.Line.{lines}
use Rattle.hep_cover.specs.Coverage.{coverage}
use Rattle.hep_cover.specs.Lines.{begun_in, can_begin_in, coverage_text}

-- how often the statement of a line began; nothing where no statement is that can begin
abbrev pub data_text : ℕ → Option ℕ → List ℕ
data_text number None = []
data_text number (Some n) = codes "DA:" ++ decimal number ++ codes "," ++ decimal n ++ codes "\n"

-- the same of the lines after the first `before` ones
abbrev pub data_lines : ℕ → List (Option ℕ) → List ℕ
data_lines before [] = []
data_lines before (count ∷ counts) = data_text (suc before) count ++ data_lines (suc before) counts

-- the name of the source
abbrev pub name_text : List ℕ → List ℕ
name_text file = codes "TN:\nSF:" ++ file ++ codes "\n"

-- how many lines can begin, which are found, and how many of them did, which are hit
abbrev pub sums_text : ℕ → ℕ → List ℕ
sums_text found hit = codes "LF:" ++ decimal found ++ codes "\nLH:" ++ decimal hit ++ codes "\nend_of_record\n"

-- the record of a source in a file with this name
abbrev pub tracefile : List ℕ → List (Option ℕ) → List ℕ
tracefile file counts = name_text file ++ data_lines 0 counts ++ sums_text (can_begin_in counts) (begun_in counts)

-- the counts as they are asked for: as a tracefile, where it has a name for the source, and else beside the lines of the source
abbrev pub counts_text : Option (Bor (List ℕ)) → List (Option ℕ) → List (List ℕ) → List ℕ
counts_text None counts source = coverage_text counts source
counts_text (Some file) counts source = tracefile file.now counts

-- the text of `cover` about histories
abbrev pub covered_text : Option (Bor (List ℕ)) → Units → List ℕ → List (List Entry) → List ℕ
covered_text file program source histories = counts_text file (coverage program (length (lines source)) histories) (lines source)
