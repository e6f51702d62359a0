-- The names in the bounds of adjustable dummy arrays, and where they have their values: X3.9-1978, 5.5.1 and 8.3.
use Rattle.std.specs.Prelude.{◌≡◌, ℕ, ◌+◌, List, [], ◌∷◌, map, Option, Some, None, slice_get}
use Rattle.std.specs.List.{flat_map}
use Rattle.hep_machine.specs.Words.{BlockName, Name, Occurrence, Statement, Units, Value, cells_before, common_block}
use Rattle.hep_machine.specs.Words.{constant_value, dimensions_of, dummies_of, index_among, names_in_block, occurrences_in_dimension}
use Rattle.hep_storage.specs.Starts.{AreBlocks}
use Rattle.hep_views.specs.ListedProcesses.{block_place}
use Rattle.hep_races.specs.declared.bound_names.BoundName.{BoundName}
use Rattle.hep_races.specs.declared.bound_names.BoundNames.{BoundNames}
use Rattle.hep_races.specs.declared.bound_names.BoundSource.{BoundSource}
use Rattle.hep_races.specs.declared.bound_names.BoundSource.TheVariants.{Common, Dummy}
use Rattle.hep_races.specs.declared.bound_names.UnitTables.{UnitTables}

-- the occurrences in the dimensions of a unit's dummy arguments
abbrev pub occurrences_in_bounds : List Statement → List Occurrence
occurrences_in_bounds unit = flat_map (λ (x : Name). flat_map (occurrences_in_dimension unit) (dimensions_of unit x)) (dummies_of unit)

module _ (program : Units) (unit : List Statement) (x : Name) where
  -- a constant has none; else it is the storage unit of a dummy argument, or one of COMMON
  abbrev pub source_by : Option Value → Option ℕ → Option BlockName → Option BoundSource
  source_by (Some v) k block = None
  source_by None (Some k) block = Some (Dummy k)
  source_by None None (Some b) = Some (Common (block_place program b (1 + cells_before unit x (names_in_block unit b))))
  source_by None None None = None

  abbrev pub source_of : Option BoundSource
  source_of = source_by (constant_value unit x) (index_among x (dummies_of unit)) (common_block unit x)

  abbrev pub named_with : Option BoundSource → List BoundName
  named_with None = []
  named_with (Some source) = record { name = x; source = source } ∷ []

  abbrev pub bound_named : List BoundName
  bound_named = named_with source_of

-- in the order of the text
abbrev pub bounds_of_unit : Units → List Statement → List BoundName
bounds_of_unit program unit = flat_map (λ (o : Occurrence). bound_named program unit o.name) (occurrences_in_bounds unit)

abbrev pub AreBoundsOf : Units → BoundNames → Type 0
AreBoundsOf program bounds = bounds.units ≡ map (bounds_of_unit program) program

-- the tables are those of a unit of the program
pub record AreTablesOf (unit : UnitTables) : Type 0 where
  pub blocks : AreBlocks unit.image.now unit.blocks.now
  pub among : (u : ℕ) × (slice_get unit.image.now u ≡ Some unit.symbols.now)

-- and a name is in this block there
pub record IsInUnit (unit : UnitTables) (x : Name) (block : BlockName) : Type 0 where
  pub tables : AreTablesOf unit
  pub held : common_block unit.symbols.now x ≡ Some block
