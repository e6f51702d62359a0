-- The properties of names that the specification statements of a unit declare: X3.9-1978, section 8.
use Rattle.std.specs.Prelude.{ℕ, Bool, true, false, ◌&&◌, nat_le, if◌then◌else◌, List, [], ◌∷◌, ◌++◌, map, get_or, Option, Some, None, is_some}
use Rattle.std.specs.Option.{option_or, option_map, option_map_or}
use Rattle.std.specs.List.{list_any, find, flat_map}
use Rattle.hep_source.specs.declared.declaration.ValueType.{ValueType}
use Rattle.hep_source.specs.declared.declaration.ValueType.TheVariants.{Integer}
use Rattle.hep_source.specs.declared.declaration.LetterRange.{LetterRange}
use Rattle.hep_source.specs.declared.declaration.ImplicitGroup.{ImplicitGroup}
use Rattle.hep_source.specs.declared.declaration.Declarator.{Declarator}
use Rattle.hep_source.specs.declared.declaration.Dimension.{Dimension}
use Rattle.hep_source.specs.declared.declaration.CommonBlock.{CommonBlock}
use Rattle.hep_source.specs.declared.declaration.NamedConstant.{NamedConstant}
use Rattle.hep_source.specs.declared.name.Name.{Name}
use Rattle.hep_source.specs.declared.name.Occurrence.{Occurrence}
use Rattle.hep_source.specs.declared.statement.Form.{Form}
use Rattle.hep_source.specs.declared.statement.Form.TheVariants as form
use Rattle.hep_source.specs.declared.statement.Statement.{Statement}
use Rattle.hep_source.specs.Names.{same_name, is_among}
use Rattle.hep_source.specs.Units.{dummies_of, Units}

-- ---- types: 4.1.2, 8.4 and 8.5

abbrev pub names_declared : List Declarator → List Name
names_declared ds = map (λ (d : Declarator). d.occurrence.name) ds

-- the type that a type statement gives a name, or a header with a type gives its function (15.5.1)
abbrev pub type_by_statement : Name → Form → Option ValueType
type_by_statement x (form.Function (Some t) p ds) = if same_name p.name x then Some t else None
type_by_statement x (form.Declare t ds) = if is_among x (names_declared ds) then Some t else None
type_by_statement x _ = None

abbrev pub declared_type : Name → List Statement → Option ValueType
declared_type x [] = None
declared_type x (s ∷ ss) = option_or (type_by_statement x s.form) (declared_type x ss)

abbrev pub is_letter_in : ℕ → LetterRange → Bool
is_letter_in c r = nat_le r.first c && nat_le c r.last

abbrev pub type_by_groups : ℕ → List ImplicitGroup → Option ValueType
type_by_groups c [] = None
type_by_groups c (g ∷ gs) = if list_any (is_letter_in c) g.letters then Some g.value_type else type_by_groups c gs

abbrev pub type_by_implicit : ℕ → Form → Option ValueType
type_by_implicit c (form.Implicit groups) = type_by_groups c groups
type_by_implicit c _ = None

abbrev pub implicit_type : ℕ → List Statement → Option ValueType
implicit_type c [] = None
implicit_type c (s ∷ ss) = option_or (type_by_implicit c s.form) (implicit_type c ss)

abbrev pub first_letter : Name → ℕ
first_letter x = get_or x.letters 0 0

-- whether a name without a declaration is an integer: its first letter is I to N (4.1.2)
abbrev pub is_integer_by_letter : Name → Bool
is_integer_by_letter x = nat_le 73 (first_letter x) && nat_le (first_letter x) 78

-- the type of a name without a declaration; none for a real one, which the language leaves out
abbrev pub type_by_letter : Name → Option ValueType
type_by_letter x = if is_integer_by_letter x then Some Integer else None

-- the type of a name in a unit; none where it is real
abbrev pub type_of : List Statement → Name → Option ValueType
type_of unit x = option_or (declared_type x unit) (option_or (implicit_type (first_letter x) unit) (type_by_letter x))

-- ---- arrays: 5.1, 8.1, 8.3 and 8.4

abbrev pub entries_of_blocks : List CommonBlock → List Declarator
entries_of_blocks blocks = flat_map (λ (b : CommonBlock). b.entries) blocks

abbrev pub declarators_in : Form → List Declarator
declarators_in (form.Declare t ds) = ds
declarators_in (form.Dimension ds) = ds
declarators_in (form.Common blocks) = entries_of_blocks blocks
declarators_in _ = []

abbrev pub is_nonempty : {A : Type 0} → List A → Bool
is_nonempty [] = false
is_nonempty (x ∷ xs) = true

-- the first of these declarators that gives a name dimensions
abbrev pub declarator_among : Name → List Declarator → Option Declarator
declarator_among x ds = find (λ (d : Declarator). same_name d.occurrence.name x && is_nonempty d.dimensions) ds

abbrev pub dimensions_among : Name → List Declarator → List Dimension
dimensions_among x ds = option_map_or (λ (d : Declarator). d.dimensions) (declarator_among x ds) []

abbrev pub declarators_of : List Statement → List Declarator
declarators_of unit = flat_map (λ (s : Statement). declarators_in s.form) unit

-- the dimensions of a name in a unit; a scalar has none
abbrev pub dimensions_of : List Statement → Name → List Dimension
dimensions_of unit x = dimensions_among x (declarators_of unit)

abbrev pub is_array : List Statement → Name → Bool
is_array unit x = is_nonempty (dimensions_of unit x)

-- ---- common blocks: 8.3

-- the name of a block; blank COMMON has none
abbrev pub BlockName : Type 0
BlockName = Option Name

abbrev pub same_block : BlockName → BlockName → Bool
same_block None None = true
same_block None (Some y) = false
same_block (Some x) None = false
same_block (Some x) (Some y) = same_name x y

abbrev pub block_of : CommonBlock → BlockName
block_of b = option_map (λ (p : Occurrence). p.name) b.block

abbrev pub entries_under : BlockName → List CommonBlock → List Declarator
entries_under b [] = []
entries_under b (c ∷ cs) = if same_block (block_of c) b then c.entries ++ entries_under b cs else entries_under b cs

abbrev pub blocks_in : Form → List CommonBlock
blocks_in (form.Common blocks) = blocks
blocks_in _ = []

abbrev pub blocks_of_unit : List Statement → List CommonBlock
blocks_of_unit unit = flat_map (λ (s : Statement). blocks_in s.form) unit

-- the names in a block of a unit, in order; the lists of a block that is named several times are joined
abbrev pub names_in_block : List Statement → BlockName → List Name
names_in_block unit b = names_declared (entries_under b (blocks_of_unit unit))

abbrev pub is_block_among : BlockName → List BlockName → Bool
is_block_among b bs = list_any (same_block b) bs

abbrev pub with_blocks : List BlockName → List CommonBlock → List BlockName
with_blocks bs [] = bs
with_blocks bs (c ∷ cs) = with_blocks (if is_block_among (block_of c) bs then bs else bs ++ block_of c ∷ []) cs

-- the blocks of a program, in order of first appearance
abbrev pub blocks_of : Units → List BlockName
blocks_of program = with_blocks [] (flat_map blocks_of_unit program)

-- the block in which a name of a unit is
abbrev pub block_holding : Name → List CommonBlock → Option BlockName
block_holding x [] = None
block_holding x (c ∷ cs) = if is_among x (names_declared c.entries) then Some (block_of c) else block_holding x cs

abbrev pub common_block : List Statement → Name → Option BlockName
common_block unit x = block_holding x (blocks_of_unit unit)

abbrev pub is_common : List Statement → Name → Bool
is_common unit x = is_some (common_block unit x)

-- ---- constants: 8.6

abbrev pub constants_in : Form → List NamedConstant
constants_in (form.Parameter constants) = constants
constants_in _ = []

abbrev pub named_constants : List Statement → List NamedConstant
named_constants unit = flat_map (λ (s : Statement). constants_in s.form) unit

abbrev pub names_of_constants : List NamedConstant → List Name
names_of_constants constants = map (λ (c : NamedConstant). c.occurrence.name) constants

abbrev pub is_constant_name : List Statement → Name → Bool
is_constant_name unit x = is_among x (names_of_constants (named_constants unit))

abbrev pub is_dummy : List Statement → Name → Bool
is_dummy unit x = is_among x (dummies_of unit)
