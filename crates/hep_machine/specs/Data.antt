-- The elements and values that DATA names: X3.9-1978, 9.1 and 9.2.
use Rattle.std.specs.Prelude.{ℕ, ◌-◌, pos, int_le, nat_lt, if◌then◌else◌, List, [], ◌∷◌, Option, Some, None, option_map, option_and_then}
use Rattle.std.specs.List.{flat_map}
use Rattle.hep_source.specs.Tree.{trees_of}
use Rattle.hep_source.specs.declared.declaration.DataConstant.{DataConstant}
use Rattle.hep_source.specs.declared.declaration.DataConstant.TheVariants as data_constant
use Rattle.hep_source.specs.declared.declaration.DataGroup.{DataGroup}
use Rattle.hep_source.specs.declared.declaration.DataValue.{DataValue}
use Rattle.hep_source.specs.declared.declaration.Repeat.{Repeat}
use Rattle.hep_source.specs.declared.declaration.Repeat.TheVariants as repeat
use Rattle.hep_source.specs.declared.declaration.Target.{Target}
use Rattle.hep_source.specs.declared.name.Name.{Name}
use Rattle.hep_source.specs.declared.statement.Form.{Form}
use Rattle.hep_source.specs.declared.statement.Form.TheVariants as form
use Rattle.hep_source.specs.declared.statement.Statement.{Statement}
use Rattle.hep_source.specs.declared.value.Value.{Value}
use Rattle.hep_source.specs.declared.value.Value.TheVariants.{Int, Truth}
use Rattle.hep_machine.specs.Arithmetic.{integers_of}
use Rattle.hep_machine.specs.Constants.{Values, values_of, constant_shape}
use Rattle.hep_machine.specs.Declarations.{is_nonempty}
use Rattle.hep_machine.specs.Shapes.{Bounds, elements, element_number, natural}

-- ---- groups: 9.1

abbrev pub groups_in : Form → List DataGroup
groups_in (form.Data groups) = groups
groups_in _ = []

abbrev pub data_groups : List Statement → List DataGroup
data_groups unit = flat_map (λ (s : Statement). groups_in s.form) unit

-- ---- the elements that get a value: 9.2

-- a range of consecutive elements of a variable: the number of the first one, and how many there are
pub record Stretch : Type 0 where
  pub name : Name
  pub first : ℕ
  pub count : ℕ

-- all elements of a variable: a scalar has one, and an array has them in their order (5.2.4)
abbrev pub all_elements : Name → Option Bounds → Option Stretch
all_elements x shape = option_map (λ n. record { name = x; first = 1; count = n }) (option_and_then elements shape)

abbrev pub element_with : Name → Option Bounds → Option (List Value) → Option Stretch
element_with x shape subscripts =
    option_map (λ n. record { name = x; first = n; count = 1 }) (
    option_and_then (λ bs. option_and_then (λ vs. element_number bs (integers_of vs)) subscripts) shape)

-- the elements that a name in DATA denotes, by the values of names; none where the shape or a subscript has no value
abbrev pub elements_named : List Statement → Values → Target → Option Stretch
elements_named unit values t =
    if is_nonempty t.subscripts
    then element_with t.occurrence.name (constant_shape unit t.occurrence.name) (values_of unit values (trees_of t.subscripts))
    else all_elements t.occurrence.name (constant_shape unit t.occurrence.name)

-- ---- the values: 9.1

-- an item, and how often it is repeated
pub record Repeated (A : Type 0) : Type 0 where
  pub item : A
  pub count : ℕ

-- the item at an index of such a list
abbrev pub item_at : {A : Type 0} → List (Repeated A) → ℕ → Option A
item_at [] i = None
item_at (r ∷ rs) i = if nat_lt i r.count then Some r.item else item_at rs (i - r.count)

-- the repeat count by the value of a name: an integer of at least 1
abbrev pub count_by : Option Value → Option ℕ
count_by None = None
count_by (Some (Truth b)) = None
count_by (Some (Int z)) = if int_le (pos 1) z then Some (natural z) else None

-- how often a value is given: once where no repeat count is written
abbrev pub repeat_of : Values → Option Repeat → Option ℕ
repeat_of values None = Some 1
repeat_of values (Some (repeat.Count n)) = Some (natural n)
repeat_of values (Some (repeat.Named p)) = count_by (values p.name)

abbrev pub value_of_constant : Values → DataConstant → Option Value
value_of_constant values (data_constant.Value v) = Some v
value_of_constant values (data_constant.Named p) = values p.name

-- a value with its repeat count; none where a name has no value, or one that is no repeat count
abbrev pub values_given : Values → DataValue → Option (Repeated Value)
values_given values v =
    option_and_then (λ n. option_map (λ x. record { item = x; count = n }) (value_of_constant values v.constant)) (repeat_of values v.repeat)
