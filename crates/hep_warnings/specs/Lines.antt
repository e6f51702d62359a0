-- The lines of warnings: docs/MACHINE.md, "Warnings".
use Rattle.std.specs.Prelude.{ℕ, Bool, if◌then◌else◌, List, [], ◌∷◌, ◌++◌, codes}
use Rattle.std.specs.Fmt.{decimal}
use Rattle.std.specs.List.{flat_map}
use Rattle.hep_machine.specs.Words.{spelling}
use Rattle.hep_warnings.specs.declared.warning.WarningKind.{WarningKind}
use Rattle.hep_warnings.specs.declared.warning.WarningKind.TheVariants as kind
use Rattle.hep_warnings.specs.declared.warning.Warning.{Warning}

abbrev pub Warnings : Type 0
Warnings = List Warning

-- a warning at this line where the test is true, and else none
abbrev pub when : Bool → ℕ → WarningKind → Warnings
when b line k = if b then record { line = line; kind = k } ∷ [] else []

-- the text of a kind of warning
abbrev pub kind_text : WarningKind → List ℕ
kind_text kind.Behind = codes "BEHIND COLUMN 72"
kind_text (kind.Label l) = codes "LABEL " ++ decimal l ++ codes " UNUSED"
kind_text (kind.Unit x) = codes "UNIT " ++ spelling x ++ codes " UNUSED"
kind_text (kind.Create s x) = codes "CREATE " ++ spelling s ++ codes " PASSES " ++ spelling x ++ codes " OF A DO"
kind_text (kind.Once x) = codes "NAME " ++ spelling x ++ codes " USED ONCE"
kind_text (kind.NeverFilled x) = codes "NAME " ++ spelling x ++ codes " NEVER FILLED"
kind_text (kind.NeverRead x) = codes "NAME " ++ spelling x ++ codes " NEVER READ"

abbrev pub warning_line : Warning → List ℕ
warning_line w = codes "WARNING LINE " ++ decimal w.line ++ codes " " ++ kind_text w.kind ++ codes "\n"

abbrev pub warning_text : Warnings → List ℕ
warning_text ws = flat_map warning_line ws
