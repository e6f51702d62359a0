-- The names that statements use, by the way of use: X3.9-1978, 18.1 and 18.2.
use Rattle.std.specs.Prelude.{ℕ, Bool, not, ◌&&◌, ◌++◌, List, map}
use Rattle.std.specs.List.{filter}
use Rattle.hep_machine.specs.Words.{Declarator, Name, Form, Statement, names_of_occurrences, is_constant_name, is_nonempty, names_declared}
use Rattle.hep_conditions.specs.Words.{Use, uses_by, header_name, block_names, dummy_names, typed_names, bounded_names, common_names, constant_names, data_names, assigned_names, called_names, variable_names, result_names, referenced_typed, function_names, function_names_alone, FunctionTypes, is_function_in, Calling, calls_in}
use Rattle.hep_conditions.specs.Names.{occurrences_of_variables}
use Rattle.hep_types.specs.declared.uses.UseKind.{UseKind}
use Rattle.hep_types.specs.declared.uses.UseKind.TheVariants as ways

-- the uses of these names at the line of a statement
abbrev pub used_at : ℕ → List Name → List Use
used_at line xs = map (λ (x : Name). (x, line)) xs

-- ---- the names of a statement, form by form

abbrev pub names_bounded : List Declarator → List Name
names_bounded ds = names_declared (filter (λ (d : Declarator). is_nonempty d.dimensions) ds)

abbrev pub names_called : Form → List Name
names_called f = map (λ (c : Calling). c.occurrence.name) (calls_in f)

-- whether a name is that of a variable: no constant and no function
abbrev pub is_variable : FunctionTypes → List Statement → Name → Bool
is_variable functions unit x = not (is_constant_name unit x) && not (is_function_in functions unit x)

-- the names in a statement, and the names that it gives a type and the unit references as functions
abbrev pub names_in : List Statement → Statement → List Name
names_in unit s = names_of_occurrences (occurrences_of_variables unit s) ++ referenced_typed unit s

abbrev pub functions_among : FunctionTypes → List Statement → List Name → List Name
functions_among functions unit xs = filter (is_function_in functions unit) xs

-- ---- the uses of a unit

-- the names that a statement of a unit uses in this way
abbrev pub names_by : FunctionTypes → List Statement → UseKind → Statement → List Name
names_by functions unit ways.Header s = header_name s.form
names_by functions unit ways.Block s = block_names s
names_by functions unit ways.Dummy s = dummy_names s
names_by functions unit ways.Typed s = typed_names s
names_by functions unit ways.Bounded s = bounded_names s
names_by functions unit ways.Common s = common_names s
names_by functions unit ways.Constant s = constant_names s
names_by functions unit ways.Data s = data_names s
names_by functions unit ways.Assigned s = assigned_names s
names_by functions unit ways.Called s = called_names s
names_by functions unit ways.Variable s = variable_names functions unit s
names_by functions unit ways.Result s = result_names s
names_by functions unit ways.Function s = function_names functions unit s
names_by functions unit ways.Alone s = function_names_alone functions unit s

abbrev pub uses_of : FunctionTypes → UseKind → List Statement → List Use
uses_of functions way unit = uses_by (names_by functions unit way) unit
