-- Characters after column 72, which don't count (X3.9-1978, 3.2).
use Rattle.std.specs.Prelude.{ℕ, ◌+◌, Bool, true, false, not, ◌&&◌, List, [], ◌∷◌, ◌++◌, drop, take}
use Rattle.std.specs.List.{list_all}
use Rattle.hep_text.specs.Line.{KindOfLine, comment, is_blank, kind, lines}
use Rattle.hep_warnings.specs.declared.warning.WarningKind.TheVariants.{Behind}
use Rattle.hep_warnings.specs.Lines.{Warnings, when}

abbrev pub is_comment : KindOfLine → Bool
is_comment comment = true
is_comment _ = false

-- the warning of the line with this number, if a character other than a blank follows column 72 and the line is no comment
abbrev pub line_warnings : ℕ → List ℕ → Warnings
line_warnings number line = when (not (list_all is_blank (drop 72 line)) && not (is_comment (kind line))) number Behind

-- the warnings of lines, of which the first one has this number
abbrev pub warnings_from : ℕ → List (List ℕ) → Warnings
warnings_from number [] = []
warnings_from number (l ∷ ls) = line_warnings number l ++ warnings_from (number + 1) ls

-- the warnings of a source; a source with more lines is refused
abbrev pub behind_warnings : List ℕ → Warnings
behind_warnings source = warnings_from 1 (take 65535 (lines source))
