-- All warnings of a source and its program.
use Rattle.std.specs.Prelude.{ℕ, List}
use Rattle.hep_machine.specs.Words.{Units}
use Rattle.hep_warnings.specs.PastColumn72.{behind_warnings}
use Rattle.hep_warnings.specs.CreatedWithLoopVariable.{create_warnings}
use Rattle.hep_warnings.specs.UnusedLabels.{label_warnings}
use Rattle.hep_warnings.specs.Lines.{Warnings}
use Rattle.hep_warnings.specs.Merge.{merged}
use Rattle.hep_warnings.specs.UnusedNames.{name_warnings}
use Rattle.hep_warnings.specs.UnusedUnits.{unit_warnings}

-- the warnings of unused units, of CREATE and of names
abbrev pub unit_and_name_warnings : Units → Warnings
unit_and_name_warnings program = merged (unit_warnings program) (merged (create_warnings program) (name_warnings program))

-- all warnings by line, and at one line in this order: column 72, labels, units, CREATE, names
abbrev pub warnings : List ℕ → Units → Warnings
warnings source program = merged (behind_warnings source) (merged (label_warnings program) (unit_and_name_warnings program))
