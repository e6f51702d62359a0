-- The grammar of statements: which texts read as which forms (X3.9-1978, sections 10 to 12 and 15, and docs/LANGUAGE.md, 5).
use Rattle.std.specs.Prelude.{◌≡◌, ◌⊎◌, ℕ, ◌≤◌, codes, List, [], ◌++◌, length, Option, Some, None, true, false, ◌∷◌}
use Rattle.hep_source.specs.Tree.{Tree}
use Rattle.hep_source.specs.declared.declaration.Target.{Target}
use Rattle.hep_source.specs.declared.statement.PrintItem.{PrintItem}
use Rattle.hep_source.specs.declared.statement.DoControl.{DoControl}
use Rattle.hep_source.specs.declared.statement.SignLabels.{SignLabels}
use Rattle.hep_expression.specs.declared.characters.Context.{Context}
use Rattle.hep_expression.specs.Characters.{ReadsOccurrence, IsDigits, ReadsPlainOccurrence}
use Rattle.hep_expression.specs.Expression.{ReadsExpression, IsExpression}
use Rattle.hep_parse.specs.Lists.{AreAfter, AreEnclosed, IsOptionalComma, AreListed, AreArguments, AreParenthesized}
use Rattle.hep_expression.specs.Label.{most_digits, ReadsLabel}
use Rattle.hep_parse.specs.Constant.{ReadsCharacters, ReadsItem}
use Rattle.hep_parse.specs.Target.{ReadsTarget}
use Rattle.hep_source.specs.Units.{is_executable}
use Rattle.hep_source.specs.declared.statement.Form.{Form}
use Rattle.hep_source.specs.declared.statement.Form.TheVariants.{Program, Subroutine, Function, Resume, Implicit, Declare, Dimension, Common, Parameter, Data, Assign, GoTo, ComputedGoTo, ArithmeticIf, IfThen, ElseIf, Else, EndIf, Do, Call, Create, Purge, Print, Continue, Return, Stop, End}
use Rattle.hep_expression.specs.declared.characters.Sizes.{Sizes}
use Rattle.hep_parse.specs.Declaration.{type_spelling, function_spelling, ReadsImplicit, ReadsDeclarator, ReadsArrayDeclarator, AreBlocks, ReadsNamedConstant, AreGroups}
use Rattle.hep_parse.specs.declared.rule.Rule.{Rule}
use Rattle.hep_parse.specs.declared.rule.Rule.TheVariants.{Assignment, BlockIf, SignIf, LogicalIf, Unclosed, Worded}
use Rattle.hep_parse.specs.Rules.{after_closing, rule_of}

-- what may follow STOP: nothing, one to five digits, or a character constant (11.12)
abbrev pub IsStopText : List ℕ → Type 0
IsStopText s = (s ≡ []) ⊎ (IsDigits s × (length s ≤ most_digits)) ⊎ ((t : List ℕ) × ReadsCharacters t s [])

module _ (k : Context) where
  -- ---- PRINT (12.8)

  abbrev pub IsPrint : List PrintItem → List ℕ → Type 0
  IsPrint items s = (m : List ℕ) × (s ≡ codes "PRINT*" ++ m) × AreAfter (ReadsItem k) items m []

  -- ---- assignment (10.1 and 10.2)

  abbrev pub IsAssignment : Target → Tree → List ℕ → Type 0
  IsAssignment x t s = (m : List ℕ) × ReadsTarget k x s (codes "=" ++ m) × IsExpression k m t

  -- ---- GO TO (11.1 and 11.2)

  abbrev pub IsGoTo : ℕ → List ℕ → Type 0
  IsGoTo x s = (m : List ℕ) × (s ≡ codes "GOTO" ++ m) × ReadsLabel x m []

  abbrev pub IsComputedGoTo : List ℕ → Tree → List ℕ → Type 0
  IsComputedGoTo xs t s =
      (m : List ℕ) × (n : List ℕ) × (q : List ℕ) × (s ≡ codes "GOTO" ++ m) × AreEnclosed ReadsLabel xs m n
      × IsOptionalComma n q × IsExpression k q t

  -- ---- IF (11.4, 11.6 and 11.7)

  abbrev pub IsArithmeticIf : Tree → SignLabels → List ℕ → Type 0
  IsArithmeticIf t x s =
      (m : List ℕ) × (n : List ℕ) × (p : List ℕ) × (q : List ℕ) × (s ≡ codes "IF(" ++ m)
      × ReadsExpression k t m (codes ")" ++ n) × ReadsLabel x.negative n (codes "," ++ p)
      × ReadsLabel x.zero p (codes "," ++ q) × ReadsLabel x.positive q []

  abbrev pub IsIfThen : Tree → List ℕ → Type 0
  IsIfThen t s = (m : List ℕ) × (s ≡ codes "IF(" ++ m) × ReadsExpression k t m (codes ")THEN")

  abbrev pub IsElseIf : Tree → List ℕ → Type 0
  IsElseIf t s = (m : List ℕ) × (s ≡ codes "ELSEIF(" ++ m) × ReadsExpression k t m (codes ")THEN")

  -- ---- DO (11.10)

  abbrev pub AreLimits : Tree → Option Tree → List ℕ → Type 0
  AreLimits t None s = IsExpression k s t
  AreLimits t (Some u) s = (m : List ℕ) × ReadsExpression k t s (codes "," ++ m) × IsExpression k m u

  abbrev pub IsDo : DoControl → List ℕ → Type 0
  IsDo x s =
      (m : List ℕ) × (n : List ℕ) × (p : List ℕ) × (q : List ℕ) × (l : List ℕ) × (s ≡ codes "DO" ++ m)
      × ReadsLabel x.terminal m n × IsOptionalComma n p × ReadsOccurrence k x.variable p (codes "=" ++ q)
      × ReadsExpression k x.initial q (codes "," ++ l) × AreLimits x.limit x.increment l

module _ (k : Context) where
  -- The text has this form and begins with its word.
  abbrev pub IsWorded : Form → List ℕ → Type 0
  IsWorded (Program p) s = (m : List ℕ) × (s ≡ codes "PROGRAM" ++ m) × ReadsPlainOccurrence k p m []
  IsWorded (Subroutine p ds) s = (m : List ℕ) × (n : List ℕ) × (s ≡ codes "SUBROUTINE" ++ m) × ReadsPlainOccurrence k p m n × AreArguments (ReadsOccurrence k) ds n
  IsWorded (Function t p ds) s = (m : List ℕ) × (n : List ℕ) × (s ≡ function_spelling t ++ m) × ReadsPlainOccurrence k p m n × AreParenthesized (ReadsOccurrence k) ds n
  IsWorded (Implicit xs) s = (m : List ℕ) × (s ≡ codes "IMPLICIT" ++ m) × AreListed ReadsImplicit xs m []
  IsWorded (Declare t xs) s = (m : List ℕ) × (s ≡ type_spelling t ++ m) × AreListed (ReadsDeclarator k) xs m []
  IsWorded (Dimension xs) s = (m : List ℕ) × (s ≡ codes "DIMENSION" ++ m) × AreListed (ReadsArrayDeclarator k) xs m []
  IsWorded (Common xs) s = (m : List ℕ) × (s ≡ codes "COMMON" ++ m) × AreBlocks k xs m
  IsWorded (Parameter xs) s = (m : List ℕ) × (s ≡ codes "PARAMETER" ++ m) × AreEnclosed (ReadsNamedConstant k) xs m []
  IsWorded (Data xs) s = (m : List ℕ) × (s ≡ codes "DATA" ++ m) × AreGroups k xs m
  IsWorded (Assign x t) s = ⊥
  IsWorded (GoTo x) s = IsGoTo k x s
  IsWorded (ComputedGoTo xs t) s = IsComputedGoTo k xs t s
  IsWorded (ArithmeticIf t x) s = ⊥
  IsWorded (IfThen t) s = ⊥
  IsWorded (ElseIf t) s = IsElseIf k t s
  IsWorded Else s = s ≡ codes "ELSE"
  IsWorded EndIf s = s ≡ codes "ENDIF"
  IsWorded (Do x) s = IsDo k x s
  IsWorded (Call p ts) s = (m : List ℕ) × (n : List ℕ) × (s ≡ codes "CALL" ++ m) × ReadsPlainOccurrence k p m n × AreArguments (ReadsExpression k) ts n
  IsWorded (Create p ts) s = (m : List ℕ) × (n : List ℕ) × (s ≡ codes "CREATE" ++ m) × ReadsPlainOccurrence k p m n × AreArguments (ReadsExpression k) ts n
  IsWorded (Purge xs) s = (m : List ℕ) × (s ≡ codes "PURGE" ++ m) × AreListed (ReadsTarget k) xs m []
  IsWorded (Print items) s = IsPrint k items s
  IsWorded Continue s = s ≡ codes "CONTINUE"
  IsWorded Return s = s ≡ codes "RETURN"
  IsWorded Resume s = s ≡ codes "RESUME"
  IsWorded Stop s = (m : List ℕ) × (s ≡ codes "STOP" ++ m) × IsStopText m
  IsWorded End s = s ≡ codes "END"

  abbrev pub IsOfAssignment : Form → List ℕ → Type 0
  IsOfAssignment (Assign x t) s = IsAssignment k x t s
  IsOfAssignment _ s = ⊥

  abbrev pub IsOfBlockIf : Form → List ℕ → Type 0
  IsOfBlockIf (IfThen t) s = IsIfThen k t s
  IsOfBlockIf _ s = ⊥

  abbrev pub IsOfSignIf : Form → List ℕ → Type 0
  IsOfSignIf (ArithmeticIf t x) s = IsArithmeticIf k t x s
  IsOfSignIf _ s = ⊥

  -- The text is no logical IF and has this form by its rule.
  abbrev pub IsFormBy : Rule → Form → List ℕ → Type 0
  IsFormBy Assignment f s = IsOfAssignment f s
  IsFormBy BlockIf f s = IsOfBlockIf f s
  IsFormBy SignIf f s = IsOfSignIf f s
  IsFormBy LogicalIf f s = ⊥
  IsFormBy Unclosed f s = ⊥
  IsFormBy Worded f s = IsWorded f s

  -- The text is a logical IF with this condition, and r is the text of the statement within it (X3.9-1978,
  -- 11.5).
  abbrev pub IsLogicalIf : Tree → List ℕ → List ℕ → Type 0
  IsLogicalIf t s r =
      (m : List ℕ) × (s ≡ codes "IF(" ++ m) × (rule_of s ≡ LogicalIf) × (after_closing 0 false m ≡ Some r)
      × ReadsExpression k t m (codes ")" ++ r)

  -- The whole text has these conditions of logical IFs and this form within them. A logical IF contains an
  -- executable statement.
  abbrev pub HasForm : List Tree → Form → List ℕ → Type 0
  HasForm [] f s = IsFormBy (rule_of s) f s
  HasForm (t ∷ more) f s = (r : List ℕ) × IsLogicalIf t s r × (is_executable f ≡ true) × HasForm more f r

abbrev pub context : Sizes → List ℕ → Context
context z s = record { sizes = z; length = length s }

-- The whole text has these conditions and this form.
abbrev pub IsForm : Sizes → List ℕ → List Tree → Form → Type 0
IsForm z s conditions f = HasForm (context z s) conditions f s
