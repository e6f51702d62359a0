-- The results of passes over the names and the DOs of a unit: docs/MACHINE.md, "Variables and frames" and "Layout".
use Rattle.std.specs.Prelude.{◌≡◌, length, ℕ, ◌+◌, ◌*◌, nat_eq, if◌then◌else◌, List, [], ◌∷◌, map, Option, Some, None}
use Rattle.std.specs.List.{flat_map}
use Rattle.std.specs.Option.{option_eq, unwrap_or}
use Rattle.indexmap.specs.IndexMap.{IndexMap, get}
use Rattle.hep_machine.specs.Words.{CommonBlock, Declarator, Name, Form, Statement, same_name, name_eq, index_among, dummies_of, adjustable_dimensions, cells_of, constant_shape, BlockName, block_of, blocks_of_unit, common_block, is_array, same_block, Bounds, is_do, locals_of}
use Rattle.hep_code.specs.declared.variable.Variable.{Variable}
use Rattle.hep_code.specs.declared.variable.Variable.TheVariants as variables
use Rattle.hep_image.specs.declared.array.Array.{Array}
use Rattle.hep_image.specs.declared.array.Extents.{Extents}
use Rattle.hep_image.specs.declared.array.Extents.TheVariants.{Constant, Adjustable}
use Rattle.hep_image.specs.declared.array.Start.{Start}
use Rattle.hep_image.specs.declared.array.Start.TheVariants.{Local, Common, Dummy}
use Rattle.hep_image.specs.Places.{scalar}
use Rattle.hep_layout.specs.Words.{Row}
use Rattle.hep_storage.specs.Starts.{narrowed, start_in}
use Rattle.hep_storage.specs.declared.starts.CommonStarts.{CommonStarts}
use Rattle.hep_places.specs.declared.block_offsets.NameInBlock.{NameInBlock}
use Rattle.hep_places.specs.declared.bound_code.BoundContext.{BoundContext}
use Rattle.hep_places.specs.declared.storage_starts.StorageStarts.{StorageStarts}

-- ---- names that follow one another, of which the first one begins at n

-- the first cell of a name, and the cell after all of them
abbrev pub start_among : ℕ → Row Name → Name → Option ℕ
start_among n [] x = None
start_among n (e ∷ es) x = if same_name x e.0 then Some n else start_among (narrowed (n + e.1)) es x

abbrev pub behind : ℕ → Row Name → ℕ
behind n [] = n
behind n (e ∷ es) = behind (narrowed (n + e.1)) es

-- names with their cells
abbrev pub name_row : List Statement → List Name → Row Name
name_row unit xs = map (λ (x : Name). (x, cells_of unit x)) xs

-- names with the cells of the bounds that each call fixes
abbrev pub adjustable_row : List Statement → List Name → Row Name
adjustable_row unit xs = map (λ (x : Name). (x, 2 * adjustable_dimensions unit x)) xs

-- ---- DOs, of which the first one has its cells at n

abbrev pub loop_cell : ℕ → Form → ℕ
loop_cell n f = if is_do f then n else 0

abbrev pub behind_loop : ℕ → Form → ℕ
behind_loop n f = if is_do f then narrowed (n + 2) else n

abbrev pub loops_from : ℕ → List Statement → List ℕ
loops_from n [] = []
loops_from n (s ∷ ss) = loop_cell n s.form ∷ loops_from (behind_loop n s.form) ss

abbrev pub behind_loops : ℕ → List Statement → ℕ
behind_loops n [] = n
behind_loops n (s ∷ ss) = behind_loops (behind_loop n s.form) ss

-- ---- names in common blocks: X3.9-1978, 8.3.3

abbrev pub entry_of : BlockName → Declarator → NameInBlock
entry_of b d = record { block = b; name = d.occurrence.name }

abbrev pub entries_in : List CommonBlock → List NameInBlock
entries_in cs = flat_map (λ (c : CommonBlock). map (entry_of (block_of c)) c.entries) cs

-- the names in the common blocks of a unit, each with its block
abbrev pub entries_of : List Statement → List NameInBlock
entries_of unit = entries_in (blocks_of_unit unit)

-- lengths of blocks, of which one is lengthened
abbrev pub lengthened : (BlockName → ℕ) → BlockName → ℕ → BlockName → ℕ
lengthened lengths b n c = if same_block b c then narrowed (lengths c + n) else lengths c

-- the offset of a name in its block, where each block has a length before these entries
abbrev pub offset_among : List Statement → (BlockName → ℕ) → List NameInBlock → Name → Option ℕ
offset_among unit lengths [] x = None
offset_among unit lengths (e ∷ es) x =
    if same_name x e.name then Some (lengths e.block) else offset_among unit (lengthened lengths e.block (cells_of unit e.name)) es x

abbrev pub no_length : BlockName → ℕ
no_length b = 0

abbrev pub length_in : {S : Type 0} → IndexMap (Option Name) ℕ S → BlockName → ℕ
length_in lengths b = unwrap_or (get (option_eq name_eq) lengths b) 0

-- ---- the first storage unit, by tables of names in COMMON and of local variables

abbrev pub start_by : CommonStarts → Option ℕ → Option BlockName → Option ℕ → Option ℕ → Option Start
start_by common (Some k) b offset local = Some (Dummy (narrowed (1 + 2 * k)))
start_by common None (Some b) offset local = Some (Common (narrowed (start_in common b + unwrap_or offset 0)))
start_by common None None offset (Some c) = Some (Local c)
start_by common None None offset None = None

abbrev pub Table : Type 0
Table = Name → Option ℕ

abbrev pub start_found : List Statement → CommonStarts → Table → Table → Name → Option Start
start_found unit common offsets locals x = start_by common (index_among x (dummies_of unit)) (common_block unit x) (offsets x) (locals x)

-- ---- arrays

-- the shape of an array, if its bounds are all constant
abbrev pub shape_found : List Statement → Name → Option (Option Bounds)
shape_found unit x = if nat_eq (adjustable_dimensions unit x) 0 then Some (constant_shape unit x) else None

-- no array of an accepted program is without a shape
abbrev pub constant_extents : Option Bounds → Extents
constant_extents None = Adjustable 0 0
constant_extents (Some bs) = Constant bs

abbrev pub extents_found : List Statement → Table → Name → Extents
extents_found unit bounds x =
    if nat_eq (adjustable_dimensions unit x) 0
    then constant_extents (constant_shape unit x)
    else Adjustable (unwrap_or (bounds x) 0) (narrowed (adjustable_dimensions unit x))

abbrev pub array_found : List Statement → (Name → Option Start) → Table → Name → Array
array_found unit start bounds x = record { start = unwrap_or (start x) (Local 0); extents = extents_found unit bounds x }

abbrev pub array_in : BoundContext → Name → Array
array_in k =
    array_found k.symbols.now (start_found k.symbols.now k.common.now (get name_eq k.tables.now.offsets) (get name_eq k.tables.now.locals)) (get name_eq k.tables.now.bounds)

-- ---- variables

abbrev pub variable_found : List Statement → ℕ → Name → Option Start → Variable
variable_found unit n x None = variables.Absent
variable_found unit n x (Some at) = if is_array unit x then variables.Array x.asynchronous n else scalar x.asynchronous at

-- the number of arrays up to and including a name
abbrev pub arrays_with : List Statement → ℕ → Name → ℕ
arrays_with unit n x = if is_array unit x then narrowed (n + 1) else n

-- a variable among names before which there are n arrays
abbrev pub variable_among : List Statement → (Name → Option Start) → ℕ → List Name → Name → Option Variable
variable_among unit start n [] x = None
variable_among unit start n (y ∷ ys) x =
    if same_name x y then Some (variable_found unit n y (start y)) else variable_among unit start (arrays_with unit n y) ys x

-- ---- the tables of a unit

-- dummy arguments follow the header, then come local variables, DOs and bounds
abbrev pub first_local : List Statement → ℕ
first_local unit = narrowed (1 + 2 * length (dummies_of unit))

abbrev pub first_loop : List Statement → ℕ
first_loop unit = behind (first_local unit) (name_row unit (locals_of unit))

abbrev pub first_bound : List Statement → ℕ
first_bound unit = behind_loops (first_loop unit) unit

pub record AreTables (unit : List Statement) (t : StorageStarts) : Type 0 where
  pub offsets : (x : Name) → get name_eq t.offsets x ≡ offset_among unit no_length (entries_of unit) x
  pub locals : (x : Name) → get name_eq t.locals x ≡ start_among (first_local unit) (name_row unit (locals_of unit)) x
  pub bounds : (x : Name) → get name_eq t.bounds x ≡ start_among (first_bound unit) (adjustable_row unit (dummies_of unit)) x
  pub loops : t.loop_cells.items ≡ loops_from (first_loop unit) unit
  pub cells : t.cells ≡ behind (first_bound unit) (adjustable_row unit (dummies_of unit))
