-- The parts of a statement, in the order of its text (X3.9-1978, sections 6, 8 to 11, 12.8 and 15), and conditions of names, as one
-- pass over a unit finds their violations.
use Rattle.std.specs.Prelude.{if◌then◌else◌, List, [], ◌∷◌, ◌++◌, option_to_list, ℕ, Bool, true, not, ◌&&◌, nat_eq, length, Option, Some, None, is_none}
use Rattle.std.specs.List.{flat_map, list_all}
use Rattle.std.specs.Option.{option_map}
use Rattle.hep_machine.specs.Words.{Tree, CommonBlock, DataGroup, DataValue, Declarator, Dimension, NamedConstant, Target, Occurrence, DoControl, Form, PrintItem, Statement, is_nonempty, is_referenced, array_occurrence, occurrences_in, occurrences_in_data_value, Units, unit_at, subroutine_called, function_called, dummies_of, Name, type_of, is_array}
use Rattle.hep_source.specs.declared.statement.Form.TheVariants as form
use Rattle.hep_conditions.specs.Words.{trees_in_dimension, trees_in_item, FunctionTypes, is_untyped, is_counted, is_call_counted, is_reference_counted, is_unknown, unknown_subroutines, unknown_references, unknown_targets, NameWithList, names_with_lists, calls_in, Violations, when, at_occurrence}
use Rattle.hep_names.specs.declared.parts.Part.{Part as Reference}
use Rattle.hep_names.specs.declared.parts.Part.TheVariants as reference

pub data Part : Type 0 where
  expression : (t : Tree) → Part
  -- a name by itself
  name : (p : Occurrence) → Part
  -- a name with subscripts that is assigned (10.1), given a value by DATA (9.1), or purged; the subscripts are the parts after it
  element : (p : Occurrence) → Part
  -- a name without bounds in a type statement (8.4): a variable, unless the unit references it as a function
  declared : (p : Occurrence) → Part

-- the view of a reference to a part
abbrev pub part : Reference → Part
part (reference.Expression r) = expression r.now
part (reference.Name p) = name p
part (reference.Element p) = element p
part (reference.Declared p) = declared p

abbrev pub parts_in_expression : Tree → List Part
parts_in_expression t = expression t ∷ []

abbrev pub parts_in_expressions : List Tree → List Part
parts_in_expressions ts = flat_map parts_in_expression ts

abbrev pub parts_in_name : Occurrence → List Part
parts_in_name p = name p ∷ []

abbrev pub parts_in_names : List Occurrence → List Part
parts_in_names ps = flat_map parts_in_name ps

-- ---- declarators and blocks: 5.1 and 8.3

abbrev pub parts_in_dimension : Dimension → List Part
parts_in_dimension d = parts_in_expressions (trees_in_dimension d)

abbrev pub parts_in_declarator : Declarator → List Part
parts_in_declarator d = name d.occurrence ∷ flat_map parts_in_dimension d.dimensions

abbrev pub parts_in_declared : Declarator → List Part
parts_in_declared d = if is_nonempty d.dimensions then parts_in_declarator d else declared d.occurrence ∷ []

abbrev pub parts_in_block : CommonBlock → List Part
parts_in_block b = flat_map parts_in_declarator b.entries

-- ---- PARAMETER and DATA: 8.6 and 9.1

abbrev pub parts_in_constant : NamedConstant → List Part
parts_in_constant c = name c.occurrence ∷ expression c.value ∷ []

abbrev pub name_before : List Tree → Occurrence → Part
name_before [] p = name p
name_before (t ∷ ts) p = element p

abbrev pub parts_in_target : Target → List Part
parts_in_target x = name_before x.subscripts x.occurrence ∷ parts_in_expressions x.subscripts

abbrev pub parts_in_value : DataValue → List Part
parts_in_value v = parts_in_names (occurrences_in_data_value v)

abbrev pub parts_in_group : DataGroup → List Part
parts_in_group g = flat_map parts_in_target g.targets ++ flat_map parts_in_value g.values

-- ---- DO and PRINT: 11.10 and 12.8

abbrev pub parts_in_control : DoControl → List Part
parts_in_control c = name c.variable ∷ expression c.initial ∷ expression c.limit ∷ parts_in_expressions (option_to_list c.increment)

abbrev pub parts_in_item : PrintItem → List Part
parts_in_item i = parts_in_expressions (trees_in_item i)

-- ---- statements: sections 8 to 11, 12.8 and 15.6

abbrev pub parts_in_form : Form → List Part
parts_in_form (form.Subroutine p dummies) = parts_in_names dummies
parts_in_form (form.Function t p dummies) = name p ∷ parts_in_names dummies
parts_in_form (form.Declare t ds) = flat_map parts_in_declared ds
parts_in_form (form.Dimension ds) = flat_map parts_in_declarator ds
parts_in_form (form.Common blocks) = flat_map parts_in_block blocks
parts_in_form (form.Parameter constants) = flat_map parts_in_constant constants
parts_in_form (form.Data groups) = flat_map parts_in_group groups
parts_in_form (form.Assign x t) = parts_in_target x ++ expression t ∷ []
parts_in_form (form.ComputedGoTo labels t) = expression t ∷ []
parts_in_form (form.ArithmeticIf t labels) = expression t ∷ []
parts_in_form (form.IfThen t) = expression t ∷ []
parts_in_form (form.ElseIf t) = expression t ∷ []
parts_in_form (form.Do c) = parts_in_control c
parts_in_form (form.Call p ts) = parts_in_expressions ts
parts_in_form (form.Create p ts) = parts_in_expressions ts
parts_in_form (form.Purge targets) = flat_map parts_in_target targets
parts_in_form (form.Print items) = flat_map parts_in_item items
parts_in_form _ = []

abbrev pub parts_of : Statement → List Part
parts_of s = parts_in_expressions s.conditions ++ parts_in_form s.form

-- ---- the expressions and occurrences of a part

abbrev pub tree_in : Part → List Tree
tree_in (expression t) = t ∷ []
tree_in _ = []

abbrev pub occurrences_in_part : List Statement → Part → List Occurrence
occurrences_in_part unit (expression t) = occurrences_in unit t
occurrences_in_part unit (name p) = p ∷ []
occurrences_in_part unit (element p) = array_occurrence unit p
occurrences_in_part unit (declared p) = if is_referenced unit p.name then [] else p ∷ []

-- ---- 301

abbrev pub untyped : FunctionTypes → List Statement → ℕ → Occurrence → Violations
untyped functions unit line p = when (is_untyped functions unit p.name) (at_occurrence 301 line p)

-- whether a name has a type
abbrev pub is_typed : List Statement → Name → Bool
is_typed unit x = not (is_none (type_of unit x))

-- ---- 303

abbrev pub line_of : Statement → ℕ
line_of s = s.line

-- whether the called unit has n dummy arguments
abbrev pub takes_dummies : Option (List Statement) → ℕ → Bool
takes_dummies None n = true
takes_dummies (Some unit) n = nat_eq n (length (dummies_of unit))

abbrev pub unit_called : Units → Name → Option (List Statement)
unit_called program x = option_map (unit_at program) (subroutine_called program x)

abbrev pub unit_referred : Units → Name → Option (List Statement)
unit_referred program x = option_map (unit_at program) (function_called program x)

abbrev pub is_miscounted : Units → List Statement → Statement → Bool
is_miscounted program unit s = not (list_all (is_counted unit) (names_with_lists s) && (list_all (is_reference_counted program unit) (names_with_lists s) && list_all (is_call_counted program) (calls_in s.form)))

-- ---- 310

abbrev pub unknown_by : Bool → ℕ → Occurrence → Violations
unknown_by b line p = when b (at_occurrence 310 line p)

abbrev pub unknown_listed : Units → List Statement → ℕ → NameWithList → Violations
unknown_listed program unit line r = unknown_by (is_unknown program unit r.occurrence.name) line r.occurrence

abbrev pub unknown_target : List Statement → ℕ → Target → Violations
unknown_target unit line t = unknown_by (is_nonempty t.subscripts && not (is_array unit t.occurrence.name)) line t.occurrence

abbrev pub unknown_in_group : List Statement → ℕ → DataGroup → Violations
unknown_in_group unit line g = flat_map (unknown_target unit line) g.targets

abbrev pub unknown_in_form : List Statement → ℕ → Form → Violations
unknown_in_form unit line (form.Assign x t) = unknown_target unit line x
unknown_in_form unit line (form.Data groups) = flat_map (unknown_in_group unit line) groups
unknown_in_form unit line (form.Purge targets) = flat_map (unknown_target unit line) targets
unknown_in_form unit line _ = []

abbrev pub unknown_in : Units → List Statement → Statement → Violations
unknown_in program unit s = unknown_subroutines program s ++ (unknown_references program unit s ++ unknown_targets unit s)
