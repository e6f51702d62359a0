-- What is stored at the opening is what the rows of DATA have, and these give values to storage units alone.
use Rattle.std.proofs.Common.{◌≡◌, ℕ, ◌+◌, ◌-◌, ◌≤◌, Bool, true, false, List, [], ◌∷◌, ◌++◌, Option, Some, None, refl, sym, ap, ◌∙◌, subst, if◌then◌else◌, map, option_and_then, option_to_list}
use Rattle.std.specs.Option.{option_map, option_or}
use Rattle.std.proofs.lemmas.Option.{none-some}
use Rattle.hep_machine.specs.Words.{DataGroup, Target, Name, Statement, Value, is_among, Units, main_unit, unit_at, unset_cell, cells_of, constant_value, Stretch, data_groups, elements_named, item_at, common_cells, storage_of, StorageUnits, cell_given, index_of_location, index_within, opening, storage_units_named, storage_units_of, with_group, with_groups, Cell, Location, Store, distance, further, locals_of}
use Rattle.hep_code.specs.declared.variable.Variable.{Variable}
use Rattle.hep_layout.specs.Words.{address, first_of_part, variable}
use Rattle.hep_accepted_laws.proofs.Members.{Has, has_more}
use Rattle.hep_image.specs.declared.array.Array.{Array}
use Rattle.hep_image.specs.declared.data.DataRow.{DataRow}
use Rattle.hep_image.specs.Data.{AreInitial, AreOfUnits, first_frames, value_in_rows}
use Rattle.hep_places.specs.declared.data_cells.CellRange.{CellRange}
use Rattle.hep_places.specs.CellRows.{index_of_cell, is_among_cells}
use Rattle.hep_places.specs.InitialValues.{all_cells_named, all_values, cells_named, value_by_group, value_by_groups}
use Rattle.hep_places.proofs.Located.{KeepsUnit, rest_is, runs, scope, unit_in, unit_index}

-- ---- values of cells

given-or : (o q : Option Value) (c : Cell) → cell_given o (cell_given q c) ≡ cell_given (option_or o q) c
given-or None q c = refl
given-or (Some v) None c = refl
given-or (Some v) (Some w) c = refl

module _ (program : Units) (table : Name → Option Variable) (arrays : List Array) (common : ℕ) where
  abbrev unit : List Statement
  unit = unit_at program (main_unit program)

  -- the cells of a stretch of a local variable
  abbrev pub cells_of_stretch : Stretch → CellRange
  cells_of_stretch e = record { first = (common_cells program + first_of_part unit (variable e.name)) + (e.first - 1); count = e.count }

  -- what a name in DATA stands for, and that its cells are those which the tables tell
  pub record IsFound (t : Target) : Type 0 where
    pub stretch : Stretch
    pub named : elements_named unit (constant_value unit) t ≡ Some stretch
    pub cells : cells_named unit table arrays common t ≡ Some (cells_of_stretch stretch)
    pub own : is_among stretch.name (locals_of unit) ≡ true
    pub room : (stretch.first - 1) + stretch.count ≤ cells_of unit stretch.name

  module _ (at : Location) (p : ℕ) (here : address program (opening program) (first_frames program) at ≡ Some p) where
    stretch_index : (e : Stretch) → is_among e.name (locals_of unit) ≡ true → (e.first - 1) + e.count ≤ cells_of unit e.name → (us : List StorageUnits) (cs : List CellRange) → index_of_location us at ≡ index_of_cell cs p
        → index_of_location (storage_units_of (scope program) e ∷ us) at ≡ index_of_cell (cells_of_stretch e ∷ cs) p
    stretch_index e own room us cs same =
        ap (λ o. index_within e.count (distance (further (storage_of (scope program) e.name).start (e.first - 1)) at) o) same
        ∙ unit_index program (storage_of (scope program) e.name).start (storage_of (scope program) e.name).rest (common_cells program + first_of_part unit (variable e.name)) (e.first - 1) e.count
        (runs program e.name own) (subst (λ n. (e.first - 1) + e.count ≤ n) (sym (rest_is program e.name own)) room) at p here (index_of_cell cs p)

    targets_index : (ts : List Target) → ((t : Target) → Has ts t → IsFound t) → index_of_location (storage_units_named (scope program) ts) at ≡ index_of_cell (all_cells_named unit table arrays common ts) p
    targets_index [] each = refl
    targets_index (t ∷ ts) each =
        let f = each t (0, refl) in
        ap (λ o. index_of_location (map (storage_units_of (scope program)) (option_to_list o) ++ storage_units_named (scope program) ts) at) f.named
        ∙ (stretch_index f.stretch f.own f.room (storage_units_named (scope program) ts) (all_cells_named unit table arrays common ts) (targets_index ts (λ u h. each u (has_more t ts u h)))
        ∙ sym (ap (λ o. index_of_cell (option_to_list o ++ all_cells_named unit table arrays common ts) p) f.cells))

    group_stored : (g : DataGroup) (store : Store) → ((t : Target) → Has g.targets t → IsFound t) → with_group (scope program) store g at ≡ cell_given (value_by_group unit table arrays common g p) (store at)
    group_stored g store each = ap (λ o. cell_given (option_and_then (item_at (all_values (constant_value unit) g.values)) o) (store at)) (targets_index g.targets each)

    groups_stored : (gs : List DataGroup) (store : Store) → ((g : DataGroup) → Has gs g → (t : Target) → Has g.targets t → IsFound t) → with_groups (scope program) store gs at ≡ cell_given (value_by_groups unit table arrays common gs p) (store at)
    groups_stored [] store each = refl
    groups_stored (g ∷ gs) store each =
        groups_stored gs (with_group (scope program) store g) (λ h i. each h (has_more g gs h i))
        ∙ (ap (cell_given (value_by_groups unit table arrays common gs p)) (group_stored g store (each g (0, refl)))
        ∙ given-or (value_by_groups unit table arrays common gs p) (value_by_group unit table arrays common g p) (store at))

  pub initial : (rows : List DataRow) → ((g : DataGroup) → Has (data_groups unit) g → (t : Target) → Has g.targets t → IsFound t)
      → ((p : ℕ) → value_in_rows rows p ≡ value_by_groups unit table arrays common (data_groups unit) p) → AreInitial program rows
  unfolding opening
  initial rows each same at p here =
      groups_stored at p here (data_groups unit) (λ location. unset_cell) each ∙ ap (λ o. cell_given o unset_cell) (sym (same p))

  -- ---- cells that get values

  -- a cell of a stretch, or else one of those behind it
  stretch_unit : (e : Stretch) → is_among e.name (locals_of unit) ≡ true → (e.first - 1) + e.count ≤ cells_of unit e.name → (cs : List CellRange) (p i : ℕ) → index_of_cell (cells_of_stretch e ∷ cs) p ≡ Some i
      → ((k : ℕ) → index_of_cell cs p ≡ Some k → KeepsUnit program p) → KeepsUnit program p
  stretch_unit e own room cs p i at behind = by_test (is_among_cells (cells_of_stretch e) p) refl at where
    here : is_among_cells (cells_of_stretch e) p ≡ true → KeepsUnit program p
    here = unit_in program (storage_of (scope program) e.name).start (storage_of (scope program) e.name).rest (common_cells program + first_of_part unit (variable e.name)) (e.first - 1) e.count
        (runs program e.name own) (subst (λ n. (e.first - 1) + e.count ≤ n) (sym (rest_is program e.name own)) room) p

    by_index : (o : Option ℕ) → index_of_cell cs p ≡ o → option_map (λ n. e.count + n) o ≡ Some i → KeepsUnit program p
    by_index None g h = absurd (none-some i h)
    by_index (Some k) g h = behind k g

    by_test : (b : Bool) → is_among_cells (cells_of_stretch e) p ≡ b → (if b then Some (p - (cells_of_stretch e).first) else option_map (λ n. e.count + n) (index_of_cell cs p)) ≡ Some i → KeepsUnit program p
    by_test true g h = here g
    by_test false g h = by_index (index_of_cell cs p) refl h

  targets_unit : (ts : List Target) → ((t : Target) → Has ts t → IsFound t) → (p i : ℕ) → index_of_cell (all_cells_named unit table arrays common ts) p ≡ Some i → KeepsUnit program p
  targets_unit [] each p i e = absurd (none-some i e)
  targets_unit (t ∷ ts) each p i e =
      let f = each t (0, refl) in
      let cs = all_cells_named unit table arrays common ts in
      stretch_unit f.stretch f.own f.room cs p i (sym (ap (λ o. index_of_cell (option_to_list o ++ cs) p) f.cells) ∙ e) (targets_unit ts (λ u h. each u (has_more t ts u h)) p)

  group_unit : (g : DataGroup) → ((t : Target) → Has g.targets t → IsFound t) → (p : ℕ) (v : Value) → value_by_group unit table arrays common g p ≡ Some v → KeepsUnit program p
  group_unit g each p v e = by_index (index_of_cell (all_cells_named unit table arrays common g.targets) p) refl e where
    by_index : (o : Option ℕ) → index_of_cell (all_cells_named unit table arrays common g.targets) p ≡ o → option_and_then (item_at (all_values (constant_value unit) g.values)) o ≡ Some v → KeepsUnit program p
    by_index None f h = absurd (none-some v h)
    by_index (Some i) f h = targets_unit g.targets each p i f

  groups_unit : (gs : List DataGroup) → ((g : DataGroup) → Has gs g → (t : Target) → Has g.targets t → IsFound t) → (p : ℕ) (v : Value) → value_by_groups unit table arrays common gs p ≡ Some v → KeepsUnit program p
  groups_unit [] each p v e = absurd (none-some v e)
  groups_unit (g ∷ gs) each p v e = by_value (value_by_groups unit table arrays common gs p) refl e (groups_unit gs (λ h i. each h (has_more g gs h i)) p) where
    by_value : (o : Option Value) → value_by_groups unit table arrays common gs p ≡ o → option_or o (value_by_group unit table arrays common g p) ≡ Some v
        → ((w : Value) → value_by_groups unit table arrays common gs p ≡ Some w → KeepsUnit program p) → KeepsUnit program p
    by_value None f h more = group_unit g (each g (0, refl)) p v h
    by_value (Some w) f h more = more w f

  pub of_units : (rows : List DataRow) → ((g : DataGroup) → Has (data_groups unit) g → (t : Target) → Has g.targets t → IsFound t)
      → ((p : ℕ) → value_in_rows rows p ≡ value_by_groups unit table arrays common (data_groups unit) p) → AreOfUnits program rows
  of_units rows each same p v e = groups_unit (data_groups unit) each p v (sym (same p) ∙ e)
