-- Which statements are a program, and which fault is reported of others: docs/LANGUAGE.md, 6.
use Rattle.std.specs.Prelude.{◌≡◌, ◌≢◌, ◌⊎◌, ℕ, ◌||◌, Bool, true, false, IsTrue, codes, List, [], ◌∷◌, ◌++◌, Result, Ok, Err}
use Rattle.hep_source.specs.Tree.{Tree}
use Rattle.hep_source.specs.declared.statement.Form.{Form}
use Rattle.hep_source.specs.declared.statement.Form.TheVariants.{Program, Subroutine, Function, Implicit, Declare, Dimension, Common, Parameter, End}
use Rattle.hep_source.specs.declared.statement.Statement.{Statement}
use Rattle.hep_text.specs.declared.statement.Stmt.{Stmt}
use Rattle.hep_expression.specs.declared.characters.Sizes.{Sizes}
use Rattle.hep_expression.specs.declared.characters.Sizes.TheVariants.{Fitting, Any}
use Rattle.hep_expression.specs.declared.characters.Context.{Context}
use Rattle.hep_base.specs.declared.refusal.Refusal.{Refusal as ParseFault}
use Rattle.hep_base.specs.declared.refusal.Refusal.TheVariants.{NoMemory, Refused}
use Rattle.hep_parse.specs.Rules.{rule_of}
use Rattle.hep_parse.specs.declared.rule.Rule.TheVariants.{Worded}
use Rattle.hep_parse.specs.declared.program.StatementClass.{StatementClass}
use Rattle.hep_parse.specs.declared.program.StatementClass.TheVariants as part
use Rattle.hep_parse.specs.Statement.{IsLogicalIf, context, IsForm}

-- A text with its line and label reads as this statement.
abbrev pub IsStatement : Stmt → Statement → Type 0
IsStatement given read = (read.line ≡ given.line) × (read.label ≡ given.label) × IsForm Fitting given.text read.conditions read.form

-- ---- units (X3.9-1978, 3.5)

-- the part of a unit to which a statement with these conditions and this form belongs; a logical IF is an action
abbrev pub class_of : List Tree → Form → StatementClass
class_of (t ∷ more) f = part.Action
class_of [] (Program p) = part.Header
class_of [] (Subroutine p ds) = part.Header
class_of [] (Function t p ds) = part.Header
class_of [] (Implicit xs) = part.Implicit
class_of [] (Parameter xs) = part.Parameter
class_of [] (Declare t xs) = part.Specification
class_of [] (Dimension xs) = part.Specification
class_of [] (Common xs) = part.Specification
class_of [] End = part.End
class_of [] _ = part.Action

-- whether a statement of the first part may be anywhere before one of the second part in a unit
abbrev pub may_precede : StatementClass → StatementClass → Bool
may_precede part.End _ = false
may_precede _ part.Header = false
may_precede part.Action part.Action = true
may_precede part.Action part.End = true
may_precede part.Action _ = false
may_precede part.Specification part.Implicit = false
may_precede _ _ = true

-- A statement of this part may follow statements of these parts in a unit.
abbrev pub MayStandAfter : List StatementClass → StatementClass → Type 0
MayStandAfter [] x = Unit {0}
MayStandAfter (y ∷ before) x = IsTrue (may_precede y x) × MayStandAfter before x

-- Each of these statements may follow those before it in its unit, and the last one is END.
abbrev pub AreOrdered : List StatementClass → List Statement → Type 0
AreOrdered before [] = ⊥
AreOrdered before (s ∷ []) = MayStandAfter before (class_of s.conditions s.form) × (class_of s.conditions s.form ≡ part.End)
AreOrdered before (s ∷ t ∷ more) = MayStandAfter before (class_of s.conditions s.form) × AreOrdered (before ++ class_of s.conditions s.form ∷ []) (t ∷ more)

abbrev pub IsUnit : List Statement → Type 0
IsUnit unit = AreOrdered [] unit

-- whether a unit is a main program: its first statement is neither SUBROUTINE nor FUNCTION (14.1, 15.5.1 and 15.6.1)
abbrev pub begins_main : Form → Bool
begins_main (Subroutine p ds) = false
begins_main (Function t p ds) = false
begins_main _ = true

abbrev pub is_main : List Statement → Bool
is_main [] = false
is_main (s ∷ more) = begins_main s.form

abbrev pub AreSubroutines : List (List Statement) → Type 0
AreSubroutines [] = Unit {0}
AreSubroutines (unit ∷ more) = IsUnit unit × (is_main unit ≡ false) × AreSubroutines more

-- There are one main program and any number of subprograms, in any order (2.4).
abbrev pub AreUnits : List (List Statement) → Type 0
AreUnits [] = ⊥
AreUnits (unit ∷ more) = IsUnit unit × (((is_main unit ≡ true) × AreSubroutines more) ⊎ ((is_main unit ≡ false) × AreUnits more))

-- The given texts begin with texts that read as these statements, in order, and the rest is left.
abbrev pub AreStatements : List Stmt → List Statement → List Stmt → Type 0
AreStatements given [] left = given ≡ left
AreStatements [] (read ∷ reads) left = ⊥
AreStatements (one ∷ more) (read ∷ reads) left = IsStatement one read × AreStatements more reads left

abbrev pub AreAllStatements : List Stmt → List (List Statement) → Type 0
AreAllStatements given [] = given ≡ []
AreAllStatements given (unit ∷ units) = (left : List Stmt) × AreStatements given unit left × AreAllStatements left units

-- The statements of a source form this program (2.4).
abbrev pub IsProgram : List Stmt → List (List Statement) → Type 0
IsProgram given units = AreAllStatements given units × AreUnits units

-- ---- refusals (docs/LANGUAGE.md, 5 and 6)

abbrev pub HasReading : Sizes → Stmt → Type 0
HasReading z s = (conditions : List Tree) × (f : Form) × IsForm z s.text conditions f

abbrev pub HasNoReading : Sizes → Stmt → Type 0
HasNoReading z s = (conditions : List Tree) (f : Form) → IsForm z s.text conditions f → ⊥

abbrev pub plain : List ℕ → List ℕ × List ℕ
plain w = (w, w)

-- the words of statements that the language leaves out, each with the name that a refusal reports
abbrev pub left_out_words : List (List ℕ × List ℕ)
left_out_words =
    plain (codes "REAL") ∷ plain (codes "DOUBLEPRECISION") ∷ plain (codes "COMPLEX") ∷ plain (codes "CHARACTER")
    ∷ plain (codes "READ") ∷ plain (codes "WRITE") ∷ plain (codes "FORMAT") ∷ plain (codes "OPEN") ∷ plain (codes "CLOSE")
    ∷ plain (codes "INQUIRE") ∷ plain (codes "REWIND") ∷ plain (codes "BACKSPACE") ∷ plain (codes "ENDFILE")
    ∷ plain (codes "EQUIVALENCE") ∷ plain (codes "SAVE") ∷ plain (codes "ENTRY") ∷ plain (codes "EXTERNAL")
    ∷ plain (codes "INTRINSIC") ∷ plain (codes "ASSIGN") ∷ plain (codes "PAUSE") ∷ plain (codes "BLOCKDATA")
    ∷ plain (codes "INCLUDE") ∷ []

-- The text begins with one of these words, which has this name.
abbrev pub BeginsWith : List (List ℕ × List ℕ) → List ℕ → List ℕ → Type 0
BeginsWith [] s name = ⊥
BeginsWith (x ∷ more) s name = ((m : List ℕ) × (s ≡ x.0 ++ m) × (name ≡ x.1)) ⊎ BeginsWith more s name

-- After these conditions of logical IFs the text begins with the word of a statement that is left out, and its rule is the one
-- for words.
abbrev pub IsLeftOut : Context → List Tree → List ℕ → List ℕ → Type 0
IsLeftOut k [] s name = (rule_of s ≡ Worded) × BeginsWith left_out_words s name
IsLeftOut k (t ∷ more) s name = (r : List ℕ) × IsLogicalIf k t s r × IsLeftOut k more r name

abbrev pub IsLeftOutStatement : Stmt → List ℕ → Type 0
IsLeftOutStatement s name = (conditions : List Tree) × IsLeftOut (context Any s.text) conditions s.text name

-- The statement is out of order after these parts of its unit: its part may not follow them, or it begins a
-- second main program, or it is the last statement of the source and isn't END.
abbrev pub IsMisplaced : List StatementClass → Bool → List Tree → Form → List Stmt → Type 0
IsMisplaced before main_is_there conditions f rest_after =
    (MayStandAfter before (class_of conditions f) → ⊥)
    ⊎ ((before ≡ []) × (main_is_there ≡ true) × (begins_main f ≡ true))
    ⊎ ((rest_after ≡ []) × (class_of conditions f ≢ part.End))

-- The statement is refused with this number and name, after these parts of its unit.
abbrev pub IsRefusedStatement : List StatementClass → Bool → Stmt → List Stmt → ℕ → List ℕ → Type 0
IsRefusedStatement before main_is_there s rest_after number name =
    ((number ≡ 201) × HasNoReading Any s × ((word : List ℕ) → IsLeftOutStatement s word → ⊥) × (name ≡ []))
    ⊎ ((number ≡ 202) × HasNoReading Any s × IsLeftOutStatement s name)
    ⊎ ((number ≡ 203) × HasReading Any s × HasNoReading Fitting s × (name ≡ []))
    ⊎ ((number ≡ 205) × (conditions : List Tree) × (f : Form) × IsForm Fitting s.text conditions f × IsMisplaced before main_is_there conditions f rest_after × (name ≡ []))

-- the parts of the current unit after a statement of one more part; none after END
abbrev pub parts_after : List StatementClass → StatementClass → List StatementClass
parts_after before part.End = []
parts_after before x = before ++ x ∷ []

-- whether a main program has begun after one more statement
abbrev pub main_after : List StatementClass → Bool → Form → Bool
main_after [] main_is_there f = main_is_there || begins_main f
main_after (x ∷ before) main_is_there f = main_is_there

-- The first fault of the statements after these parts of a unit has this number, line and name. It is
-- that of the first statement that is refused, or 204 where none is refused and there is no main program.
abbrev pub IsFirstFaultFrom : List StatementClass → Bool → List Stmt → ℕ → ℕ → List ℕ → Type 0
IsFirstFaultFrom before main_is_there [] number line name = (main_is_there ≡ false) × (number ≡ 204) × (line ≡ 0) × (name ≡ [])
IsFirstFaultFrom before main_is_there (s ∷ rest_after) number line name =
    (IsRefusedStatement before main_is_there s rest_after number name × (line ≡ s.line))
    ⊎ (((n : ℕ) (word : List ℕ) → IsRefusedStatement before main_is_there s rest_after n word → ⊥)
    × (conditions : List Tree) × (f : Form) × IsForm Fitting s.text conditions f
    × IsFirstFaultFrom (parts_after before (class_of conditions f)) (main_after before main_is_there f) rest_after number line name)

-- The first fault of a source has this number, line and name.
abbrev pub IsFirstFault : List Stmt → ℕ → ℕ → List ℕ → Type 0
IsFirstFault given number line name = IsFirstFaultFrom [] false given number line name

-- ---- results of `parse`

-- The result is this program, unless memory was refused.
abbrev pub IsRead : List (List Statement) → Result (List (List Statement)) ParseFault → Type 0
IsRead p (Ok q) = q ≡ p
IsRead p (Err NoMemory) = Unit {0}
IsRead p (Err (Refused number line name)) = ⊥

-- The result is the refusal with this number, line and name, unless memory was refused.
abbrev pub IsReported : ℕ → ℕ → List ℕ → Result (List (List Statement)) ParseFault → Type 0
IsReported number line name (Ok p) = ⊥
IsReported number line name (Err NoMemory) = Unit {0}
IsReported number line name (Err (Refused n l word)) = (n ≡ number) × (l ≡ line) × (word ≡ name)

-- The refusal reports the first fault, unless memory was refused.
abbrev pub IsTrueFault : List Stmt → ParseFault → Type 0
IsTrueFault given NoMemory = Unit {0}
IsTrueFault given (Refused number line name) = IsFirstFault given number line name
