-- The expressions of a statement, and the functions that a unit references: X3.9-1978, sections 5 to 11 and 15.5.
use Rattle.std.specs.Prelude.{Bool, not, ◌&&◌, List, [], ◌∷◌, ◌++◌, map, option_to_list}
use Rattle.std.specs.List.{flat_map}
use Rattle.hep_source.specs.Tree.{Tree, Trees, constant, occurrence, with_list, parenthesized, signed, negated, binary, no_trees, trees}
use Rattle.hep_source.specs.declared.declaration.DataGroup.{DataGroup}
use Rattle.hep_source.specs.declared.declaration.Declarator.{Declarator}
use Rattle.hep_source.specs.declared.declaration.Dimension.{Dimension}
use Rattle.hep_source.specs.declared.declaration.NamedConstant.{NamedConstant}
use Rattle.hep_source.specs.declared.declaration.Target.{Target}
use Rattle.hep_source.specs.declared.declaration.UpperBound.{UpperBound}
use Rattle.hep_source.specs.declared.declaration.UpperBound.TheVariants as bound
use Rattle.hep_source.specs.declared.name.Name.{Name}
use Rattle.hep_source.specs.declared.statement.PrintItem.{PrintItem}
use Rattle.hep_source.specs.declared.statement.PrintItem.TheVariants as item
use Rattle.hep_source.specs.declared.statement.Form.{Form}
use Rattle.hep_source.specs.declared.statement.Form.TheVariants as form
use Rattle.hep_source.specs.declared.statement.Statement.{Statement}
use Rattle.hep_machine.specs.Data.{groups_in}
use Rattle.hep_machine.specs.Declarations.{constants_in, declarators_in}
use Rattle.hep_machine.specs.Functions.{is_external, listed_meaning}
use Rattle.hep_source.specs.Names.{is_among}
use Rattle.hep_source.specs.Units.{function_name, is_named}

-- ---- expressions: section 6

abbrev pub trees_in_upper : UpperBound → List Tree
trees_in_upper (bound.Expression t) = t ∷ []
trees_in_upper bound.Open = []

abbrev pub trees_in_dimension : Dimension → List Tree
trees_in_dimension d = option_to_list d.lower ++ trees_in_upper d.upper

abbrev pub trees_in_declarator : Declarator → List Tree
trees_in_declarator d = flat_map trees_in_dimension d.dimensions

abbrev pub trees_in_item : PrintItem → List Tree
trees_in_item (item.Expression t) = t ∷ []
trees_in_item (item.Characters cs) = []

-- the expressions of an executable statement, with the subscripts of its targets
abbrev pub trees_in_form : Form → List Tree
trees_in_form (form.Assign x t) = x.subscripts ++ t ∷ []
trees_in_form (form.ComputedGoTo labels t) = t ∷ []
trees_in_form (form.ArithmeticIf t labels) = t ∷ []
trees_in_form (form.IfThen t) = t ∷ []
trees_in_form (form.ElseIf t) = t ∷ []
trees_in_form (form.Do c) = c.initial ∷ c.limit ∷ option_to_list c.increment
trees_in_form (form.Call p ts) = ts
trees_in_form (form.Create p ts) = ts
trees_in_form (form.Purge targets) = flat_map (λ (t : Target). t.subscripts) targets
trees_in_form (form.Print items) = flat_map trees_in_item items
trees_in_form _ = []

-- all expressions of a statement, with bounds, the values of constants, and the subscripts in DATA
abbrev pub trees_in_statement : Statement → List Tree
trees_in_statement s =
    s.conditions
    ++ (flat_map trees_in_declarator (declarators_in s.form)
    ++ (map (λ (c : NamedConstant). c.value) (constants_in s.form)
    ++ (flat_map (λ (g : DataGroup). flat_map (λ (t : Target). t.subscripts) g.targets) (groups_in s.form) ++ trees_in_form s.form)))

-- ---- functions that a unit references: 15.5

abbrev mutual
  -- the names with lists in an expression and within its lists
  pub names_listed_in : Tree → List Name
  names_listed_in (constant v) = []
  names_listed_in (occurrence p) = []
  names_listed_in (with_list p ts) = p.name ∷ names_listed_in_all ts
  names_listed_in (parenthesized t) = names_listed_in t
  names_listed_in (signed s t) = names_listed_in t
  names_listed_in (negated t) = names_listed_in t
  names_listed_in (binary o a b) = names_listed_in a ++ names_listed_in b

  pub names_listed_in_all : Trees → List Name
  names_listed_in_all no_trees = []
  names_listed_in_all (trees t ts) = names_listed_in t ++ names_listed_in_all ts

abbrev pub names_listed_by : Statement → List Name
names_listed_by s = flat_map names_listed_in (trees_in_statement s)

abbrev pub names_listed : List Statement → List Name
names_listed unit = flat_map names_listed_by unit

-- whether a unit references a name as a function of the program: a name with a list that is no array and no function of the language; a
-- function doesn't reference its own name, which is its result
abbrev pub is_referenced : List Statement → Name → Bool
is_referenced unit x = is_external (listed_meaning unit x) && (not (is_named (function_name unit) x) && is_among x (names_listed unit))
