-- All that is found of a unit is where its things are.
use Rattle.std.proofs.Common.{◌≡◌, ℕ, ◌≤◌, List, map, length, Option, Some, ap, sym, ◌∙◌, subst, slice_get}
use Rattle.std.specs.List.{filter}
use Rattle.std.specs.Option.{unwrap_or}
use Rattle.indexmap.specs.IndexMap.{get}
use Rattle.hep_machine.specs.Words.{Name, Statement, name_eq, Units, dummies_of, constant_value, common_cells, frame_cells, locals_of, names_of}
use Rattle.hep_code.specs.declared.variable.Variable.TheVariants.{Absent}
use Rattle.hep_image.specs.declared.array.Start.{Start}
use Rattle.hep_image.specs.Owners.{AreInOrder, frame_variables}
use Rattle.hep_image.specs.Places.{arrays_of, start_of}
use Rattle.hep_image.specs.Private.{is_private}
use Rattle.hep_image.proofs.FrameOwners.{in_order}
use Rattle.hep_storage.specs.Starts.{AreStarts}
use Rattle.hep_storage.specs.declared.starts.CommonStarts.{CommonStarts}
use Rattle.hep_places.specs.declared.storage_starts.StorageStarts.{StorageStarts}
use Rattle.hep_places.specs.declared.unit.UnitPlaces.{UnitPlaces}
use Rattle.hep_places.specs.DummyArguments.{dummy_found, source_found}
use Rattle.hep_places.specs.StorageStarts.{AreTables, array_found, start_found, variable_among}
use Rattle.hep_places.specs.FrameOwners.{variables_found}
use Rattle.hep_places.specs.UnitPlaces.{ArePlaces}
use Rattle.hep_places.proofs.Arguments.{dummies-right, source-right}
use Rattle.hep_places.proofs.FrameStarts.{bounds-right, cells-right, dimensions-right, local-first, loops-right, start-right}
use Rattle.hep_places.proofs.InFrame.{frame-right}
use Rattle.hep_places.proofs.RightPlaces.{HasShapes, arrays-right, extents-right, private-right, variables-right}
use Rattle.hep_code.specs.Sources.{IsNamedOnce}

abbrev pub found_start : List Statement → CommonStarts → StorageStarts → Name → Option Start
found_start unit common t = start_found unit common (get name_eq t.offsets) (get name_eq t.locals)

-- what passes over a unit found
pub record IsFound (unit : List Statement) (common : CommonStarts) (t : StorageStarts) (p : UnitPlaces) : Type 0 where
  pub tables : AreTables unit t
  pub variables : (x : Name) → get name_eq p.places.variables x ≡ variable_among unit (found_start unit common t) 0 (names_of unit) x
  pub loops : p.places.loop_cells.items ≡ t.loop_cells.items
  pub arrays : p.arrays.items ≡ map (array_found unit (found_start unit common t) (get name_eq t.bounds)) (arrays_of unit)
  pub cells : p.cells ≡ t.cells
  pub private_are : p.private.items ≡ map (λ (x : Name). unwrap_or (get name_eq t.locals x) 0) (filter (is_private unit) (locals_of unit))
  pub dummies : p.dummies.items ≡ map (dummy_found unit (source_found unit (constant_value unit) common (get name_eq t.offsets))) (dummies_of unit)
  pub in_frame : p.frame_variables.items ≡ variables_found unit (get name_eq t.locals) (dummies_of unit) (locals_of unit)

pub places-right : (program : Units) (u : ℕ) (unit : List Statement) (common : CommonStarts) (t : StorageStarts) (p : UnitPlaces) → slice_get program u ≡ Some unit → HasShapes unit → IsNamedOnce (dummies_of unit) → length (arrays_of unit) ≤ 33554432
    → frame_cells unit ≤ 16777216 → common_cells program ≤ 16777216 → AreStarts program common → IsFound unit common t p → ArePlaces program unit p
places-right program u unit common t p there shapes once arrays small few starts f =
    record {
      variables = λ x. ap (λ o. unwrap_or o Absent) (f.variables x) ∙ variables-right program unit (found_start unit common t) x right arrays;
      loops = λ d. ap (λ cells. unwrap_or (slice_get cells d) 0) (f.loops ∙ f.tables.loops) ∙ loops-right unit small d;
      arrays = f.arrays ∙ arrays-right program unit (found_start unit common t) (get name_eq t.bounds) right (λ x h. extents-right unit (get name_eq t.bounds) x shapes h (λ k e. f.tables.bounds x ∙ bounds-right unit small x k e) (λ k e. dimensions-right unit small x k e));
      cells = f.cells ∙ (f.tables.cells ∙ cells-right unit small);
      private_are = f.private_are ∙ private-right unit (get name_eq t.locals) (λ x h. f.tables.locals x ∙ local-first unit small x h);
      variables_are = f.in_frame ∙ in-frame;
      in_order = subst AreInOrder (sym (f.in_frame ∙ in-frame)) (in_order unit once);
      dummies = f.dummies ∙ dummies-right program unit (source_found unit (constant_value unit) common (get name_eq t.offsets)) shapes (λ x. source-right program u unit there small few common starts (get name_eq t.offsets) x (f.tables.offsets x));
    }
  where
    right : (x : Name) → found_start unit common t x ≡ start_of program unit x
    right x = start-right program u unit there small few common starts (get name_eq t.offsets) (get name_eq t.locals) x (f.tables.offsets x) (f.tables.locals x)

    in-frame : variables_found unit (get name_eq t.locals) (dummies_of unit) (locals_of unit) ≡ frame_variables unit
    in-frame = frame-right unit small (get name_eq t.locals) (λ x h. f.tables.locals x ∙ local-first unit small x h)
