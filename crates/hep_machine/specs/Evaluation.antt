-- The evaluation of a statement, part by part: X3.9-1978, 6.6. A partly evaluated statement has values in the place of the parts that were
-- evaluated.
use Rattle.std.specs.Prelude.{ℕ, pos, List, [], ◌∷◌, Option, Some, None}
use Rattle.hep_source.specs.Tree.{Tree, Trees, constant, occurrence, with_list, parenthesized, signed, negated, binary, no_trees, trees, trees_of}
use Rattle.hep_source.specs.declared.declaration.Target.{Target}
use Rattle.hep_source.specs.declared.function.PureFunction.{PureFunction}
use Rattle.hep_source.specs.declared.function.StateFunction.{StateFunction}
use Rattle.hep_source.specs.declared.name.Name.{Name}
use Rattle.hep_source.specs.declared.operator.Operator.{Operator}
use Rattle.hep_source.specs.declared.operator.Sign.{Sign}
use Rattle.hep_machine.specs.declared.record.Item.{Item}
use Rattle.hep_machine.specs.declared.record.Item.TheVariants as item
use Rattle.hep_source.specs.declared.statement.DoControl.{DoControl}
use Rattle.hep_source.specs.declared.statement.PrintItem.{PrintItem}
use Rattle.hep_source.specs.declared.statement.PrintItem.TheVariants.{Expression, Characters}
use Rattle.hep_source.specs.declared.statement.SignLabels.{SignLabels}
use Rattle.hep_source.specs.declared.statement.Form.{Form}
use Rattle.hep_source.specs.declared.statement.Form.TheVariants as form
use Rattle.hep_source.specs.declared.statement.Statement.{Statement}
use Rattle.hep_source.specs.declared.value.Value.{Value}
use Rattle.hep_source.specs.declared.value.Value.TheVariants as value
use Rattle.hep_machine.specs.Constants.{constant_value}
use Rattle.hep_machine.specs.Functions.{Meaning, element, pure, state, external, listed_meaning}
use Rattle.hep_machine.specs.State.{Work, doing, ending}
use Rattle.hep_machine.specs.Defaults.{no_value, no_name}

-- ---- actual arguments: 15.9.2 and 15.9.3

-- a variable, an array or an element: its name with the values of its subscripts
abbrev pub Reference : Type 0
Reference = Name × List Value

-- an actual argument: the value of an expression, or a reference to a variable, an element or a whole array, which isn't read
pub data Actual : Type 0 where
  evaluated : (v : Value) → Actual
  referred : (reference : Reference) → Actual

-- ---- redexes: docs/MACHINE.md, "Evaluation"

-- a redex: a part whose operands are values
pub data Redex : Type 0 where
  reading : (reference : Name × List Value) → Redex
  signing : (s : Sign) (v : Value) → Redex
  negating : (v : Value) → Redex
  combining : (o : Operator) (v w : Value) → Redex
  applying : (f : PureFunction) (arguments : List Value) → Redex
  testing : (f : StateFunction) (reference : Name × List Value) → Redex

-- the value that a part needs first: that of a redex, or that of a function with these actual arguments
pub data RedexOrReference : Type 0 where
  evaluating : (r : Redex) → RedexOrReference
  referring : (x : Name) (actuals : List Actual) → RedexOrReference

-- the state of a part: it is completely evaluated, or it has a first redex
pub data Part (A : Type 0) : Type 0 where
  whole : (x : A) → Part A
  first_redex : (r : RedexOrReference) → Part A

-- two parts, evaluated from left to right: the first redex is that of the first part with a redex
abbrev pub then_part : {A B C : Type 0} → (A → B → C) → Part A → Part B → Part C
then_part f (first_redex r) q = first_redex r
then_part f (whole x) (first_redex r) = first_redex r
then_part f (whole x) (whole y) = whole (f x y)

abbrev pub mapped_part : {A B : Type 0} → (A → B) → Part A → Part B
mapped_part f (whole x) = whole (f x)
mapped_part f (first_redex r) = first_redex r

-- a part whose operands are all values is a redex; else its first redex is that of its operands
abbrev pub redex_of : {A B : Type 0} → (A → Redex) → Part A → Part B
redex_of f (whole x) = first_redex (evaluating (f x))
redex_of f (first_redex r) = first_redex r

-- ---- expressions: operands from left to right (6.6)

-- a named constant is a value, and any other name is a reference to read
abbrev pub part_of_name : Option Value → Name → Part Value
part_of_name None x = first_redex (evaluating (reading (x, [])))
part_of_name (Some v) x = whole v

-- the reference of a function, once its actual arguments are evaluated
abbrev pub reference_part : Name → Part (List Actual) → Part Value
reference_part x (whole actuals) = first_redex (referring x actuals)
reference_part x (first_redex r) = first_redex r

-- A name with a list, by its meaning. The list is given as operands, as the argument of FULL, EMPTY, VALUE, SETE or WAITF, and as actual
-- arguments.
abbrev pub part_of_listed : Meaning → Name → Part (List Value) → Part Reference → Part (List Actual) → Part Value
part_of_listed element x vs r ys = redex_of (λ subscripts. reading (x, subscripts)) vs
part_of_listed (pure f) x vs r ys = redex_of (applying f) vs
part_of_listed (state f) x vs r ys = redex_of (testing f) r
part_of_listed external x vs r ys = reference_part x ys

-- an argument of FULL, EMPTY, VALUE, SETE or WAITF with a list: an element
abbrev pub reference_of_listed : Meaning → Name → Part (List Value) → Part Reference
reference_of_listed element x vs = mapped_part (λ subscripts. (x, subscripts)) vs
reference_of_listed _ x vs = whole (no_name, [])

abbrev pub combined : Operator → Value × Value → Redex
combined o both = combining o both.0 both.1

abbrev pub actual_of_name : Option Value → Name → Part Actual
actual_of_name None x = whole (referred (x, []))
actual_of_name (Some v) x = whole (evaluated v)

abbrev pub actual_of_listed : Meaning → Name → Part (List Value) → Part Value → Part Actual
actual_of_listed element x vs v = mapped_part (λ subscripts. referred (x, subscripts)) vs
actual_of_listed m x vs v = mapped_part evaluated v

abbrev mutual
  pub part_of : List Statement → Tree → Part Value
  part_of unit (constant v) = whole v
  part_of unit (occurrence p) = part_of_name (constant_value unit p.name) p.name
  part_of unit (with_list p ts) = part_of_listed (listed_meaning unit p.name) p.name (parts_of unit ts) (reference_of unit ts) (actuals_in unit ts)
  part_of unit (parenthesized t) = part_of unit t
  part_of unit (signed s t) = redex_of (signing s) (part_of unit t)
  part_of unit (negated t) = redex_of negating (part_of unit t)
  part_of unit (binary o a b) = redex_of (combined o) (then_part (λ v w. (v, w)) (part_of unit a) (part_of unit b))

  pub parts_of : List Statement → Trees → Part (List Value)
  parts_of unit no_trees = whole []
  parts_of unit (trees t ts) = then_part (λ v vs. v ∷ vs) (part_of unit t) (parts_of unit ts)

  pub reference_of : List Statement → Trees → Part Reference
  reference_of unit (trees (occurrence p) no_trees) = whole (p.name, [])
  reference_of unit (trees (with_list p ts) no_trees) = reference_of_listed (listed_meaning unit p.name) p.name (parts_of unit ts)
  reference_of unit _ = whole (no_name, [])

  -- an actual argument: 15.9.2 and 15.9.3
  pub actual_of : List Statement → Tree → Part Actual
  actual_of unit (constant v) = whole (evaluated v)
  actual_of unit (occurrence p) = actual_of_name (constant_value unit p.name) p.name
  actual_of unit (with_list p ts) =
      actual_of_listed (listed_meaning unit p.name) p.name (parts_of unit ts) (
      part_of_listed (listed_meaning unit p.name) p.name (parts_of unit ts) (reference_of unit ts) (actuals_in unit ts))
  actual_of unit (parenthesized t) = mapped_part evaluated (part_of unit t)
  actual_of unit (signed s t) = mapped_part evaluated (redex_of (signing s) (part_of unit t))
  actual_of unit (negated t) = mapped_part evaluated (redex_of negating (part_of unit t))
  actual_of unit (binary o a b) = mapped_part evaluated (redex_of (combined o) (then_part (λ v w. (v, w)) (part_of unit a) (part_of unit b)))

  pub actuals_in : List Statement → Trees → Part (List Actual)
  actuals_in unit no_trees = whole []
  actuals_in unit (trees t ts) = then_part (λ x xs. x ∷ xs) (actual_of unit t) (actuals_in unit ts)

-- an expression whose operands are all values is the redex, and its value replaces it
abbrev pub plugged : {A : Type 0} → Part A → Tree → Value → Tree
plugged (whole x) t v = constant v
plugged (first_redex r) t v = t

abbrev pub plugged_first : {A B : Type 0} → Part A → B → B → B
plugged_first (first_redex r) first second = first
plugged_first (whole x) first second = second

abbrev pub plugged_listed : Meaning → Part (List Value) → Part Reference → Part (List Actual) → Tree → Value → Tree
plugged_listed element vs r ys t v = plugged vs t v
plugged_listed (pure f) vs r ys t v = plugged vs t v
plugged_listed (state f) vs r ys t v = plugged r t v
plugged_listed external vs r ys t v = plugged ys t v

-- the list of a name after the replacement, by the meaning of the name: actual arguments, or operands
abbrev pub plugged_arguments : Meaning → Trees → Trees → Trees
plugged_arguments external actuals operands = actuals
plugged_arguments _ actuals operands = operands

abbrev mutual
  -- the expression with a value in the place of its first redex
  pub plug : List Statement → Tree → Value → Tree
  plug unit (constant x) v = constant x
  plug unit (occurrence p) v = constant v
  plug unit (with_list p ts) v =
      plugged_listed (listed_meaning unit p.name) (parts_of unit ts) (reference_of unit ts) (actuals_in unit ts) (
      with_list p (plugged_arguments (listed_meaning unit p.name) (plug_actuals_in unit ts v) (plug_all unit ts v))) v
  plug unit (parenthesized t) v = parenthesized (plug unit t v)
  plug unit (signed s t) v = plugged (part_of unit t) (signed s (plug unit t v)) v
  plug unit (negated t) v = plugged (part_of unit t) (negated (plug unit t v)) v
  plug unit (binary o a b) v =
      plugged_first (part_of unit a) (binary o (plug unit a v) b) (plugged (part_of unit b) (binary o a (plug unit b v)) v)

  pub plug_all : List Statement → Trees → Value → Trees
  plug_all unit no_trees v = no_trees
  plug_all unit (trees t ts) v = plugged_first (part_of unit t) (trees (plug unit t v) ts) (trees t (plug_all unit ts v))

  pub plug_actuals_in : List Statement → Trees → Value → Trees
  plug_actuals_in unit no_trees v = no_trees
  plug_actuals_in unit (trees t ts) v = plugged_first (actual_of unit t) (trees (plug unit t v) ts) (trees t (plug_actuals_in unit ts v))

-- ---- lists of expressions: 5.4 and 15.9.2

abbrev pub list_part : List Statement → List Tree → Part (List Value)
list_part unit ts = parts_of unit (trees_of ts)

abbrev pub plug_list : List Statement → List Tree → Value → List Tree
plug_list unit [] v = []
plug_list unit (t ∷ ts) v = plugged_first (part_of unit t) (plug unit t v ∷ ts) (t ∷ plug_list unit ts v)

-- ---- actual arguments of CALL and CREATE: 15.9.2 and 15.9.3

abbrev pub actuals_of : List Statement → List Tree → Part (List Actual)
actuals_of unit ts = actuals_in unit (trees_of ts)

abbrev pub plug_actuals : List Statement → List Tree → Value → List Tree
plug_actuals unit [] v = []
plug_actuals unit (t ∷ ts) v = plugged_first (actual_of unit t) (plug unit t v ∷ ts) (t ∷ plug_actuals unit ts v)

-- ---- the targets of assignment (10.1 and 10.2) and PURGE (docs/LANGUAGE.md, 9)

abbrev pub target_part : List Statement → Target → Part Reference
target_part unit t = mapped_part (λ vs. (t.occurrence.name, vs)) (list_part unit t.subscripts)

abbrev pub plug_target : List Statement → Target → Value → Target
plug_target unit t v = record { occurrence = t.occurrence; subscripts = plug_list unit t.subscripts v }

abbrev pub targets_part : List Statement → List Target → Part (List Reference)
targets_part unit [] = whole []
targets_part unit (t ∷ ts) = then_part (λ r rs. r ∷ rs) (target_part unit t) (targets_part unit ts)

abbrev pub plug_targets : List Statement → List Target → Value → List Target
plug_targets unit [] v = []
plug_targets unit (t ∷ ts) v = plugged_first (target_part unit t) (plug_target unit t v ∷ ts) (t ∷ plug_targets unit ts v)

-- ---- items of a PRINT, from left to right: 12.8.2

abbrev pub item_of : Value → Item
item_of (value.Int z) = item.Int z
item_of (value.Truth b) = item.Truth b

abbrev pub item_part : List Statement → PrintItem → Part Item
item_part unit (Expression t) = mapped_part item_of (part_of unit t)
item_part unit (Characters cs) = whole (item.Text cs)

abbrev pub items_part : List Statement → List PrintItem → Part (List Item)
items_part unit [] = whole []
items_part unit (i ∷ is) = then_part (λ x xs. x ∷ xs) (item_part unit i) (items_part unit is)

abbrev pub plug_item : List Statement → PrintItem → Value → PrintItem
plug_item unit (Expression t) v = Expression (plug unit t v)
plug_item unit (Characters cs) v = Characters cs

abbrev pub plug_items : List Statement → List PrintItem → Value → List PrintItem
plug_items unit [] v = []
plug_items unit (i ∷ is) v = plugged_first (item_part unit i) (plug_item unit i v ∷ is) (i ∷ plug_items unit is v)

-- ---- DO: 11.10.3; the increment is 1 where none is written

abbrev pub increment_of : Option Tree → Tree
increment_of None = constant (value.Int (pos 1))
increment_of (Some t) = t

abbrev pub control_part : List Statement → DoControl → Part (Value × Value × Value)
control_part unit c =
    then_part (λ m (rest_after : Value × Value). (m, rest_after.0, rest_after.1)) (part_of unit c.initial) (then_part (λ m n. (m, n)) (part_of unit c.limit) (part_of unit (increment_of c.increment)))

abbrev pub plug_control : List Statement → DoControl → Value → DoControl
plug_control unit c v =
    plugged_first (part_of unit c.initial) (record c { initial = plug unit c.initial v }) (
    plugged_first (part_of unit c.limit) (record c { limit = plug unit c.limit v }) (
    record c { increment = Some (plug unit (increment_of c.increment) v) }))

-- ---- statements: docs/MACHINE.md, "Steps"

-- the action of a statement, once all its operands are values
pub data Action : Type 0 where
  assigning : (target : Reference) (v : Value) → Action
  jumping : (label : ℕ) → Action
  choosing : (labels : List ℕ) (v : Value) → Action
  branching : (labels : SignLabels) (v : Value) → Action
  testing_condition : (v : Value) → Action
  entering_block : (v : Value) → Action
  entering_loop : (variable : Name) (initial limit increment : Value) → Action
  ending_loop : (loop : ℕ) → Action
  calling : (x : Name) (actuals : List Actual) → Action
  creating : (x : Name) (actuals : List Actual) → Action
  purging : (targets : List Reference) → Action
  printing : (items : List Item) → Action
  continuing : Action
  leaving : Action
  resuming : Action
  stopping : Action

-- the next part of a statement: a value that it needs, or its action
pub data Next : Type 0 where
  wants : (r : RedexOrReference) → Next
  does : (a : Action) → Next

abbrev pub next_by : {A : Type 0} → (A → Action) → Part A → Next
next_by f (whole x) = does (f x)
next_by f (first_redex r) = wants r

-- the next part of a statement, by its form; a form that isn't executable is skipped, and so is ELSE, which no process ever reaches
abbrev pub next_of_form : List Statement → Form → Next
next_of_form unit (form.Assign x t) = next_by (λ (both : Value × Reference). assigning both.1 both.0) (then_part (λ v r. (v, r)) (part_of unit t) (target_part unit x))
next_of_form unit (form.GoTo s) = does (jumping s)
next_of_form unit (form.ComputedGoTo labels t) = next_by (choosing labels) (part_of unit t)
next_of_form unit (form.ArithmeticIf t labels) = next_by (branching labels) (part_of unit t)
next_of_form unit (form.IfThen t) = next_by entering_block (part_of unit t)
next_of_form unit (form.ElseIf t) = next_by entering_block (part_of unit t)
next_of_form unit (form.Do c) = next_by (λ (m : Value × Value × Value). entering_loop c.variable.name m.0 m.1 m.2) (control_part unit c)
next_of_form unit (form.Call p ts) = next_by (calling p.name) (actuals_of unit ts)
next_of_form unit (form.Create p ts) = next_by (creating p.name) (actuals_of unit ts)
next_of_form unit (form.Purge targets) = next_by purging (targets_part unit targets)
next_of_form unit (form.Print items) = next_by printing (items_part unit items)
next_of_form unit form.Return = does leaving
next_of_form unit form.End = does leaving
next_of_form unit form.Resume = does resuming
next_of_form unit form.Stop = does stopping
next_of_form unit _ = does continuing

abbrev pub next_of : List Statement → Work → Next
next_of unit (doing [] f) = next_of_form unit f
next_of unit (doing (t ∷ ts) f) = next_by testing_condition (part_of unit t)
next_of unit (ending d) = does (ending_loop d)

abbrev pub plug_form : List Statement → Form → Value → Form
plug_form unit (form.Assign x t) v = plugged_first (part_of unit t) (form.Assign x (plug unit t v)) (form.Assign (plug_target unit x v) t)
plug_form unit (form.ComputedGoTo labels t) v = form.ComputedGoTo labels (plug unit t v)
plug_form unit (form.ArithmeticIf t labels) v = form.ArithmeticIf (plug unit t v) labels
plug_form unit (form.IfThen t) v = form.IfThen (plug unit t v)
plug_form unit (form.ElseIf t) v = form.ElseIf (plug unit t v)
plug_form unit (form.Do c) v = form.Do (plug_control unit c v)
plug_form unit (form.Call p ts) v = form.Call p (plug_actuals unit ts v)
plug_form unit (form.Create p ts) v = form.Create p (plug_actuals unit ts v)
plug_form unit (form.Purge targets) v = form.Purge (plug_targets unit targets v)
plug_form unit (form.Print items) v = form.Print (plug_items unit items v)
plug_form unit f v = f

-- the statement with a value in the place of its first redex
abbrev pub plug_work : List Statement → Work → Value → Work
plug_work unit (doing [] f) v = doing [] (plug_form unit f v)
plug_work unit (doing (t ∷ ts) f) v = doing (plug unit t v ∷ ts) f
plug_work unit (ending d) v = ending d
