-- The number of names, constants, labels, operators and statements of a program: X3.9-1978, 2.2 and 2.3, and
-- docs/LANGUAGE.md, 12.
use Rattle.std.specs.Prelude.{◌≡◌, ◌≢◌, ◌<◌, ◌+◌, max, ℕ, List, [], length, slice_get, Option, Some, None}
use Rattle.std.specs.List.{sum_by}
use Rattle.hep_machine.specs.Words.{Tree, Trees, constant, occurrence, with_list, parenthesized, signed, negated, binary, no_trees, trees, CommonBlock, DataGroup, DataValue, Declarator, Dimension, NamedConstant, Target, UpperBound, DoControl, Form, PrintItem, Statement, Units, unit_at}
use Rattle.hep_source.specs.declared.declaration.UpperBound.TheVariants as bound
use Rattle.hep_source.specs.declared.statement.Form.TheVariants as form
use Rattle.hep_source.specs.declared.statement.PrintItem.TheVariants as item
use Rattle.hep_code.specs.Words.{line_too_deep, most_operands}
use Rattle.hep_accepted_laws.specs.PlacedCode.{code_in}

-- an optional part counts 1 if it is there
abbrev pub if_there : {A : Type 0} → Option A → ℕ
if_there None = 0
if_there (Some x) = 1

-- ---- names and constants, each as often as it occurs, and operators, each of which counts `operator`: 1, or 0 where
-- only names and constants are counted

module _ (operator : ℕ) where
  abbrev mutual
    -- an expression: X3.9-1978, section 6. A sign and .NOT. are operators, parentheses count nothing
    pub in_tree : Tree → ℕ
    in_tree (constant v) = 1
    in_tree (occurrence p) = 1
    in_tree (with_list p ts) = 1 + in_trees ts
    in_tree (parenthesized t) = in_tree t
    in_tree (signed s t) = operator + in_tree t
    in_tree (negated t) = operator + in_tree t
    in_tree (binary o a b) = operator + (in_tree a + in_tree b)

    pub in_trees : Trees → ℕ
    in_trees no_trees = 0
    in_trees (trees t ts) = in_tree t + in_trees ts

  -- arguments, subscripts and conditions
  abbrev pub in_list : List Tree → ℕ
  in_list ts = sum_by in_tree ts

  abbrev pub in_optional : Option Tree → ℕ
  in_optional None = 0
  in_optional (Some t) = in_tree t

  -- what is assigned, purged or given a value: 9.1, 10.1
  abbrev pub in_target : Target → ℕ
  in_target t = 1 + in_list t.subscripts

  -- array declarators: 5.1
  abbrev pub in_upper_bound : UpperBound → ℕ
  in_upper_bound (bound.Expression t) = in_tree t
  in_upper_bound bound.Open = 0

  abbrev pub in_dimension : Dimension → ℕ
  in_dimension d = in_optional d.lower + in_upper_bound d.upper

  abbrev pub in_declarator : Declarator → ℕ
  in_declarator d = 1 + sum_by in_dimension d.dimensions

  -- COMMON, PARAMETER and DATA: 8.3, 8.6 and 9.1
  abbrev pub in_block : CommonBlock → ℕ
  in_block b = if_there b.block + sum_by in_declarator b.entries

  abbrev pub in_named_constant : NamedConstant → ℕ
  in_named_constant c = 1 + in_tree c.value

  -- a constant or the name of one, with its repeat count
  abbrev pub in_data_value : DataValue → ℕ
  in_data_value v = if_there v.repeat + 1

  abbrev pub in_group : DataGroup → ℕ
  in_group g = sum_by in_target g.targets + sum_by in_data_value g.values

  -- DO and PRINT: 11.10 and 12.8.2
  abbrev pub in_control : DoControl → ℕ
  in_control c = 1 + (in_tree c.initial + (in_tree c.limit + in_optional c.increment))

  abbrev pub in_item : PrintItem → ℕ
  in_item (item.Expression t) = in_tree t
  in_item (item.Characters cs) = 1

  -- the statements, by their forms: sections 8 to 15, and docs/LANGUAGE.md, 9
  abbrev pub in_form : Form → ℕ
  in_form (form.Program p) = 1
  in_form (form.Subroutine p dummies) = 1 + length dummies
  in_form (form.Function t p dummies) = 1 + length dummies
  in_form (form.Declare t ds) = sum_by in_declarator ds
  in_form (form.Dimension ds) = sum_by in_declarator ds
  in_form (form.Common blocks) = sum_by in_block blocks
  in_form (form.Parameter cs) = sum_by in_named_constant cs
  in_form (form.Data groups) = sum_by in_group groups
  in_form (form.Assign x t) = in_target x + in_tree t
  in_form (form.ComputedGoTo labels t) = in_tree t
  in_form (form.ArithmeticIf t labels) = in_tree t
  in_form (form.IfThen t) = in_tree t
  in_form (form.ElseIf t) = in_tree t
  in_form (form.Do c) = in_control c
  in_form (form.Call p ts) = 1 + in_list ts
  in_form (form.Create p ts) = 1 + in_list ts
  in_form (form.Purge targets) = sum_by in_target targets
  in_form (form.Print items) = sum_by in_item items
  in_form _ = 0

  -- with the conditions of a logical IF: 11.5
  abbrev pub in_statement : Statement → ℕ
  in_statement s = in_list s.conditions + in_form s.form

abbrev pub names_and_constants : Statement → ℕ
names_and_constants s = in_statement 0 s

-- ---- labels: its own (3.4), and those to which a statement goes or at which its range ends (section 11)

abbrev pub labels_of_form : Form → ℕ
labels_of_form (form.GoTo l) = 1
labels_of_form (form.ComputedGoTo labels t) = length labels
labels_of_form (form.ArithmeticIf t labels) = 3
labels_of_form (form.Do c) = 1
labels_of_form _ = 0

abbrev pub labels_of : Statement → ℕ
labels_of s = if_there s.label + labels_of_form s.form

-- ---- all of them, and the statement itself; a logical IF and its statement are one

abbrev pub parts_of_statement : Statement → ℕ
parts_of_statement s = 1 + (labels_of s + in_statement 1 s)

-- each statement has at least one part, and so has a unit: one without a statement, which no source has, counts as
-- its END
abbrev pub parts_of_unit : List Statement → ℕ
parts_of_unit unit = max 1 (sum_by parts_of_statement unit)

abbrev pub parts_of : Units → ℕ
parts_of program = sum_by parts_of_unit program

-- ---- the terms of the laws

-- each unit has a statement, as in a program that was read from a text, which has its END: X3.9-1978, 3.5
abbrev pub HaveStatements : Units → Type 0
HaveStatements program = (u : ℕ) → u < length program → unit_at program u ≢ []

-- a unit has a statement with this line that has more names and constants than there may be operands at once
abbrev pub HasLongStatement : List Statement → ℕ → Type 0
HasLongStatement unit line =
    (k : ℕ) × (s : Statement) × (slice_get unit k ≡ Some s) × (s.line ≡ line) × (most_operands < names_and_constants s)

-- this holds in a unit whose code is too deep, first at this line
abbrev pub IsOfLongStatement : Units → ℕ → Type 0
IsOfLongStatement program line =
    (u : ℕ) × (u < length program) × (line_too_deep (code_in program u) ≡ Some line) × HasLongStatement (unit_at program u) line
