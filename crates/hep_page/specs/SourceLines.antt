-- The lines of a source as a page has them: docs/page/README.md.
use Rattle.std.specs.Prelude.{ℕ, List, ◌++◌, codes, take}
use Rattle.std.specs.List.{flat_map}
use Rattle.hep_text.specs.Line.{lines}

-- a line of the source, to column 80
abbrev pub source_line : List ℕ → List ℕ
source_line line = take 80 line ++ codes "\n"

abbrev pub source_text : List ℕ → List ℕ
source_text source = flat_map source_line (lines source)
