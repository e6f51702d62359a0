-- The name at fault in a statement that violates 302: the first name of a part that has the wrong type, or that is an array where a scalar
-- is needed: docs/MACHINE.md, "Notes".
use Rattle.std.specs.Prelude.{Bool, not, ◌||◌, if◌then◌else◌, List, [], ◌∷◌, Option, Some, None}
use Rattle.hep_source.specs.declared.statement.Form.TheVariants as form
use Rattle.hep_source.specs.declared.statement.PrintItem.TheVariants as item
use Rattle.hep_machine.specs.Words.{Tree, trees_of, Declarator, Form, Occurrence, PrintItem, Statement, Target, ValueType, Integer, Logical, element, external, is_array, is_nonempty, DoControl}
use Rattle.hep_conditions.specs.Statements.{FunctionTypes, agree, is_of, is_scalar_target, is_type_of, type_of_target, type_of_tree}
use Rattle.hep_check.specs.SoleNames.{lone_declared}
use Rattle.hep_check.specs.ExpressionCulprits as trees
use Rattle.hep_check.specs.ExpressionCulprits.{Found, either, first_name, wrong_actual, wrong_among, wrong_in, wrong_in_list}

-- the name, where a test fails
abbrev pub unless : Bool → Occurrence → Found
unless is_met p = if is_met then None else Some p

module _ (functions : FunctionTypes) where
  abbrev pub wrong_as : List Statement → ValueType → Tree → Found
  wrong_as unit t e = trees.wrong_as functions unit t e

  -- the name at fault in the subscripts of a target
  abbrev pub wrong_in_target : List Statement → Target → Found
  wrong_in_target unit t =
      if is_nonempty t.subscripts
      then wrong_in_list unit (if is_array unit t.occurrence.name then element else external) t.occurrence (trees_of t.subscripts)
      (wrong_among functions unit (trees_of t.subscripts)) (wrong_actual functions unit (trees_of t.subscripts))
      else None

  -- the name at fault in an assignment: in its target, or else in its value
  abbrev pub wrong_assignment : List Statement → Target → Tree → Found
  wrong_assignment unit t e =
      either (either (unless (is_scalar_target unit t) t.occurrence) (wrong_in_target unit t))
      (either (wrong_in functions unit e) (unless (agree (type_of_target functions unit t) (type_of_tree functions unit e)) t.occurrence))

  abbrev pub wrong_increment : List Statement → Option Tree → Found
  wrong_increment unit None = None
  wrong_increment unit (Some e) = wrong_as unit Integer e

  -- the name at fault in the variable, initial value, terminal value or increment of a DO
  abbrev pub wrong_control : List Statement → DoControl → Found
  wrong_control unit c =
      either (unless (not (is_array unit c.variable.name)) c.variable)
      (either (wrong_as unit Integer c.initial) (either (wrong_as unit Integer c.limit) (wrong_increment unit c.increment)))

  -- the first function to which a type statement gives a different type
  abbrev pub wrong_declared : List Statement → ValueType → List Declarator → Found
  wrong_declared unit t [] = None
  wrong_declared unit t (d ∷ ds) = either (unless (is_type_of functions unit t d.occurrence.name) d.occurrence) (wrong_declared unit t ds)

  abbrev pub wrong_targets : List Statement → List Target → Found
  wrong_targets unit [] = None
  wrong_targets unit (t ∷ ts) = either (wrong_in_target unit t) (wrong_targets unit ts)

  -- the name at fault in an item of PRINT, whose expression must be an integer or logical
  abbrev pub wrong_item : List Statement → PrintItem → Found
  wrong_item unit (item.Expression e) =
      either (wrong_in functions unit e)
      (if is_of Integer (type_of_tree functions unit e) || is_of Logical (type_of_tree functions unit e) then None else first_name e)
  wrong_item unit (item.Characters cs) = None

  abbrev pub wrong_items : List Statement → List PrintItem → Found
  wrong_items unit [] = None
  wrong_items unit (i ∷ is) = either (wrong_item unit i) (wrong_items unit is)

  abbrev pub wrong_in_form : List Statement → Form → Found
  wrong_in_form unit (form.Assign x e) = wrong_assignment unit x e
  wrong_in_form unit (form.ComputedGoTo labels e) = wrong_as unit Integer e
  wrong_in_form unit (form.ArithmeticIf e labels) = wrong_as unit Integer e
  wrong_in_form unit (form.IfThen e) = wrong_as unit Logical e
  wrong_in_form unit (form.ElseIf e) = wrong_as unit Logical e
  wrong_in_form unit (form.Do c) = wrong_control unit c
  wrong_in_form unit (form.Declare t ds) = wrong_declared unit t ds
  wrong_in_form unit (form.Call p ts) = wrong_actual functions unit (trees_of ts)
  wrong_in_form unit (form.Create p ts) = wrong_actual functions unit (trees_of ts)
  wrong_in_form unit (form.Purge targets) = wrong_targets unit targets
  wrong_in_form unit (form.Print items) = wrong_items unit items
  wrong_in_form unit _ = None

  -- the name at fault in the conditions of logical IFs
  abbrev pub wrong_conditions : List Statement → List Tree → Found
  wrong_conditions unit [] = None
  wrong_conditions unit (e ∷ es) = either (wrong_as unit Logical e) (wrong_conditions unit es)

  -- the name at fault in a statement, or else the only name of a specification or DATA statement
  abbrev pub mistyped : List Statement → Statement → Found
  mistyped unit s = either (wrong_conditions unit s.conditions) (either (wrong_in_form unit s.form) (lone_declared s.form))
