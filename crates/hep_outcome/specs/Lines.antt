-- The bytes of lines that are fixed or were made: docs/ARCHITECTURE.md, "Forms".
use Rattle.std.specs.Prelude.{ℕ, List}
use Rattle.hep_outcome.specs.declared.lines.Lines.{Lines}
use Rattle.hep_outcome.specs.declared.lines.Lines.TheVariants.{Fixed, Made}

abbrev pub lines_text : Lines → List ℕ
lines_text (Fixed text) = text.now
lines_text (Made text) = text.items
