-- The only name or block of a statement, which is then the part at fault: docs/MACHINE.md, "Notes".
use Rattle.std.specs.Prelude.{List, [], ◌∷◌, Option, Some, None}
use Rattle.hep_source.specs.declared.statement.Form.TheVariants as form
use Rattle.hep_machine.specs.Words.{CommonBlock, DataGroup, Declarator, Form, NamedConstant, Occurrence, Statement, Target, block_of}
use Rattle.hep_check.specs.declared.culprit.Culprit.{Culprit}
use Rattle.hep_check.specs.declared.culprit.Culprit.TheVariants as culprit
use Rattle.hep_check.specs.ExpressionCulprits.{Found}

abbrev pub lone_of_blocks : List CommonBlock → Option Culprit
lone_of_blocks (b ∷ []) = Some (culprit.Block (block_of b))
lone_of_blocks _ = None

-- the common block that a statement names, if there is a single one
abbrev pub lone_block : Form → Option Culprit
lone_block (form.Common blocks) = lone_of_blocks blocks
lone_block _ = None

abbrev pub lone_of_targets : List Target → Found
lone_of_targets (t ∷ []) = Some t.occurrence
lone_of_targets _ = None

abbrev pub lone_of_groups : List DataGroup → Found
lone_of_groups (g ∷ []) = lone_of_targets g.targets
lone_of_groups _ = None

-- the name to which DATA gives values, if there is a single one
abbrev pub lone_target : Form → Found
lone_target (form.Data groups) = lone_of_groups groups
lone_target _ = None

abbrev pub lone_of_constants : List NamedConstant → Found
lone_of_constants (c ∷ []) = Some c.occurrence
lone_of_constants _ = None

abbrev pub lone_of_declarators : List Declarator → Found
lone_of_declarators (d ∷ []) = Some d.occurrence
lone_of_declarators _ = None

-- the name in a specification or DATA statement, if there is a single one
abbrev pub lone_declared : Form → Found
lone_declared (form.Parameter constants) = lone_of_constants constants
lone_declared (form.Dimension declarators) = lone_of_declarators declarators
lone_declared (form.Declare t declarators) = lone_of_declarators declarators
lone_declared (form.Data groups) = lone_of_groups groups
lone_declared _ = None

-- a name that occurs in another statement; its position isn't known
abbrev pub elsewhere : Occurrence → Found
elsewhere p = Some (record p { position = 0 })

abbrev pub header_name : Form → Found
header_name (form.Program p) = elsewhere p
header_name (form.Subroutine p dummies) = elsewhere p
header_name (form.Function t p dummies) = elsewhere p
header_name _ = None

-- the name in the header of a unit
abbrev pub unit_header : List Statement → Found
unit_header [] = None
unit_header (s ∷ ss) = header_name s.form
