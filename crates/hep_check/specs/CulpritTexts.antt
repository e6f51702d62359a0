-- The text of the part at fault: docs/MACHINE.md, "Notes".
use Rattle.std.specs.Prelude.{ℕ, List, [], ◌++◌, codes, Option, Some, None}
use Rattle.std.specs.Fmt.{decimal}
use Rattle.std.specs.Option.{option_map_or}
use Rattle.hep_machine.specs.Words.{Name, spelling}
use Rattle.hep_check.specs.declared.culprit.Culprit.{Culprit}
use Rattle.hep_check.specs.declared.culprit.Culprit.TheVariants as culprit

abbrev pub name_text : Name → List ℕ
name_text x = spelling x

abbrev pub label_text : ℕ → List ℕ
label_text l = decimal l

-- a common block between slashes; blank COMMON has no name
abbrev pub block_text : Option Name → List ℕ
block_text b = codes "/" ++ option_map_or spelling b [] ++ codes "/"

abbrev pub culprit_text : Culprit → List ℕ
culprit_text (culprit.Name p) = name_text p.name
culprit_text (culprit.Function p) = name_text p.name ++ codes ": a function, where a subroutine or an array is wanted"
culprit_text (culprit.Subroutine p) = name_text p.name ++ codes ": a subroutine, where an array or a function is wanted"
culprit_text (culprit.Label l) = label_text l
culprit_text (culprit.Block b) = block_text b

-- the text of the part at fault; empty where no single part is at fault
abbrev pub text_of : Option Culprit → List ℕ
text_of None = []
text_of (Some c) = culprit_text c

-- the number of characters of the statement before the part at fault
abbrev pub position_in : Culprit → ℕ
position_in (culprit.Name p) = p.position
position_in (culprit.Function p) = p.position
position_in (culprit.Subroutine p) = p.position
position_in _ = 0

abbrev pub position_of : Option Culprit → ℕ
position_of None = 0
position_of (Some c) = position_in c
