-- The variables of a unit: X3.9-1978, 2.5 and 18.
use Rattle.std.specs.Prelude.{ℕ, ◌+◌, ◌*◌, Bool, true, false, not, ◌&&◌, if◌then◌else◌, List, [], ◌∷◌, ◌++◌, Option, Some, None, length}
use Rattle.std.specs.List.{flat_map, filter}
use Rattle.hep_source.specs.Tree.{Tree, Trees, constant, occurrence, with_list, parenthesized, signed, negated, binary, no_trees, trees}
use Rattle.hep_source.specs.declared.declaration.CommonBlock.{CommonBlock}
use Rattle.hep_source.specs.declared.declaration.DataConstant.{DataConstant}
use Rattle.hep_source.specs.declared.declaration.DataConstant.TheVariants as data_constant
use Rattle.hep_source.specs.declared.declaration.DataGroup.{DataGroup}
use Rattle.hep_source.specs.declared.declaration.DataValue.{DataValue}
use Rattle.hep_source.specs.declared.declaration.Declarator.{Declarator}
use Rattle.hep_source.specs.declared.declaration.Dimension.{Dimension}
use Rattle.hep_source.specs.declared.declaration.NamedConstant.{NamedConstant}
use Rattle.hep_source.specs.declared.declaration.Repeat.{Repeat}
use Rattle.hep_source.specs.declared.declaration.Repeat.TheVariants as repeat
use Rattle.hep_source.specs.declared.declaration.Target.{Target}
use Rattle.hep_source.specs.declared.declaration.UpperBound.{UpperBound}
use Rattle.hep_source.specs.declared.declaration.UpperBound.TheVariants as bound
use Rattle.hep_source.specs.declared.name.Name.{Name}
use Rattle.hep_source.specs.declared.name.Occurrence.{Occurrence}
use Rattle.hep_source.specs.declared.statement.DoControl.{DoControl}
use Rattle.hep_source.specs.declared.statement.PrintItem.{PrintItem}
use Rattle.hep_source.specs.declared.statement.PrintItem.TheVariants as item
use Rattle.hep_source.specs.declared.statement.Form.{Form}
use Rattle.hep_source.specs.declared.statement.Form.TheVariants as form
use Rattle.hep_source.specs.declared.statement.Statement.{Statement}
use Rattle.hep_machine.specs.Constants.{cells_of_all, adjustable_dimensions}
use Rattle.hep_machine.specs.Declarations.{is_array, is_dummy, is_common, is_constant_name, is_nonempty}
use Rattle.hep_machine.specs.Listed.{is_referenced}
use Rattle.hep_source.specs.Names.{with_names}
use Rattle.hep_source.specs.Units.{dummies_of, names_of_occurrences}

-- ---- occurrences of variables and constants in a statement, in the order of its text: docs/MACHINE.md, "Variables and frames"

-- a name with a list names a variable only where the unit has that array
abbrev pub array_occurrence : List Statement → Occurrence → List Occurrence
array_occurrence unit p = if is_array unit p.name then p ∷ [] else []

abbrev mutual
  pub occurrences_in : List Statement → Tree → List Occurrence
  occurrences_in unit (constant v) = []
  occurrences_in unit (occurrence p) = p ∷ []
  occurrences_in unit (with_list p ts) = array_occurrence unit p ++ occurrences_in_all unit ts
  occurrences_in unit (parenthesized t) = occurrences_in unit t
  occurrences_in unit (signed s t) = occurrences_in unit t
  occurrences_in unit (negated t) = occurrences_in unit t
  occurrences_in unit (binary o a b) = occurrences_in unit a ++ occurrences_in unit b

  pub occurrences_in_all : List Statement → Trees → List Occurrence
  occurrences_in_all unit no_trees = []
  occurrences_in_all unit (trees t ts) = occurrences_in unit t ++ occurrences_in_all unit ts

abbrev pub occurrences_in_some : List Statement → Option Tree → List Occurrence
occurrences_in_some unit None = []
occurrences_in_some unit (Some t) = occurrences_in unit t

abbrev pub occurrences_in_upper : List Statement → UpperBound → List Occurrence
occurrences_in_upper unit (bound.Expression t) = occurrences_in unit t
occurrences_in_upper unit bound.Open = []

abbrev pub occurrences_in_dimension : List Statement → Dimension → List Occurrence
occurrences_in_dimension unit d = occurrences_in_some unit d.lower ++ occurrences_in_upper unit d.upper

abbrev pub occurrences_in_declarator : List Statement → Declarator → List Occurrence
occurrences_in_declarator unit d = d.occurrence ∷ flat_map (occurrences_in_dimension unit) d.dimensions

-- in a type statement, the name of a function that the unit references is no variable
abbrev pub occurrences_in_declared : List Statement → Declarator → List Occurrence
occurrences_in_declared unit d = if not (is_nonempty d.dimensions) && is_referenced unit d.occurrence.name then [] else occurrences_in_declarator unit d

abbrev pub occurrences_in_block : List Statement → CommonBlock → List Occurrence
occurrences_in_block unit b = flat_map (occurrences_in_declarator unit) b.entries

abbrev pub occurrences_in_constant : List Statement → NamedConstant → List Occurrence
occurrences_in_constant unit c = c.occurrence ∷ occurrences_in unit c.value

abbrev pub occurrences_in_target : List Statement → Target → List Occurrence
occurrences_in_target unit t =
    (if is_nonempty t.subscripts then array_occurrence unit t.occurrence else t.occurrence ∷ []) ++ flat_map (occurrences_in unit) t.subscripts

abbrev pub occurrences_in_repeat : Option Repeat → List Occurrence
occurrences_in_repeat None = []
occurrences_in_repeat (Some (repeat.Count n)) = []
occurrences_in_repeat (Some (repeat.Named p)) = p ∷ []

abbrev pub occurrences_in_data_constant : DataConstant → List Occurrence
occurrences_in_data_constant (data_constant.Value v) = []
occurrences_in_data_constant (data_constant.Named p) = p ∷ []

abbrev pub occurrences_in_data_value : DataValue → List Occurrence
occurrences_in_data_value v = occurrences_in_repeat v.repeat ++ occurrences_in_data_constant v.constant

abbrev pub occurrences_in_group : List Statement → DataGroup → List Occurrence
occurrences_in_group unit g = flat_map (occurrences_in_target unit) g.targets ++ flat_map occurrences_in_data_value g.values

abbrev pub occurrences_in_control : List Statement → DoControl → List Occurrence
occurrences_in_control unit c =
    c.variable ∷ (occurrences_in unit c.initial ++ (occurrences_in unit c.limit ++ occurrences_in_some unit c.increment))

abbrev pub occurrences_in_item : List Statement → PrintItem → List Occurrence
occurrences_in_item unit (item.Expression t) = occurrences_in unit t
occurrences_in_item unit (item.Characters cs) = []

abbrev pub occurrences_in_form : List Statement → Form → List Occurrence
occurrences_in_form unit (form.Subroutine p dummies) = dummies
occurrences_in_form unit (form.Function t p dummies) = p ∷ dummies
occurrences_in_form unit (form.Declare t ds) = flat_map (occurrences_in_declared unit) ds
occurrences_in_form unit (form.Dimension ds) = flat_map (occurrences_in_declarator unit) ds
occurrences_in_form unit (form.Common blocks) = flat_map (occurrences_in_block unit) blocks
occurrences_in_form unit (form.Parameter constants) = flat_map (occurrences_in_constant unit) constants
occurrences_in_form unit (form.Data groups) = flat_map (occurrences_in_group unit) groups
occurrences_in_form unit (form.Assign x t) = occurrences_in_target unit x ++ occurrences_in unit t
occurrences_in_form unit (form.ComputedGoTo labels t) = occurrences_in unit t
occurrences_in_form unit (form.ArithmeticIf t labels) = occurrences_in unit t
occurrences_in_form unit (form.IfThen t) = occurrences_in unit t
occurrences_in_form unit (form.ElseIf t) = occurrences_in unit t
occurrences_in_form unit (form.Do c) = occurrences_in_control unit c
occurrences_in_form unit (form.Call p ts) = flat_map (occurrences_in unit) ts
occurrences_in_form unit (form.Create p ts) = flat_map (occurrences_in unit) ts
occurrences_in_form unit (form.Purge targets) = flat_map (occurrences_in_target unit) targets
occurrences_in_form unit (form.Print items) = flat_map (occurrences_in_item unit) items
occurrences_in_form unit _ = []

abbrev pub occurrences_in_statement : List Statement → Statement → List Occurrence
occurrences_in_statement unit s = flat_map (occurrences_in unit) s.conditions ++ occurrences_in_form unit s.form

-- ---- variables: 2.5, 2.6 and 18.2

abbrev pub occurrences_of : List Statement → List Occurrence
occurrences_of unit = flat_map (occurrences_in_statement unit) unit

-- the names of variables and constants of a unit, each once, in order of first appearance
abbrev pub names_of : List Statement → List Name
names_of unit = with_names [] (names_of_occurrences (occurrences_of unit))

-- whether a name is a local variable: no dummy argument, not in COMMON, and no constant
abbrev pub is_local : List Statement → Name → Bool
is_local unit x = not (is_dummy unit x) && (not (is_common unit x) && not (is_constant_name unit x))

abbrev pub locals_of : List Statement → List Name
locals_of unit = filter (is_local unit) (names_of unit)

-- ---- frames: docs/MACHINE.md, "Variables and frames"

abbrev pub is_do : Form → Bool
is_do (form.Do c) = true
is_do _ = false

abbrev pub do_statements : List Statement → ℕ
do_statements unit = length (filter (λ (s : Statement). is_do s.form) unit)

abbrev pub adjustable_dimensions_of_all : List Statement → List Name → ℕ
adjustable_dimensions_of_all unit [] = 0
adjustable_dimensions_of_all unit (x ∷ xs) = adjustable_dimensions unit x + adjustable_dimensions_of_all unit xs

-- the cells of a unit's frame: a header; two for each dummy argument; one for each local scalar and for each element of
-- a local array; two for each DO; and two for each dimension of an adjustable array
abbrev pub frame_cells : List Statement → ℕ
frame_cells unit =
    1 + (2 * length (dummies_of unit) + (cells_of_all unit (locals_of unit) + (2 * do_statements unit + 2 * adjustable_dimensions_of_all unit (dummies_of unit))))
