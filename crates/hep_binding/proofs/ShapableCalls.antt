-- Where a unit is called, the bounds of its arrays can be read, and there is room for their values: X3.9-1978, 5.5.1.
use Rattle.std.proofs.Common.{◌≡◌, ℕ, ◌<◌, ◌≤◌, Bool, true, false, if◌then◌else◌, List, [], ◌∷◌, Some, arith, map, nat_eq, slice_get}
use Rattle.std.specs.Option.{unwrap_or}
use Rattle.std.proofs.Math.Nat.{le-max_left, le-max_right}
use Rattle.hep_machine.specs.Words.{Name, Statement, Units, dummies_of, adjustable_dimensions, cells_of, constant_shape, is_array, is_common, no_shape, Actual, Layout, Scope, Dummy, State}
use Rattle.hep_machine.specs.declared.slot.Slot.{Slot}
use Rattle.hep_arena.specs.Holes.{Hole}
use Rattle.hep_arena.specs.Space.{Space}
use Rattle.hep_layout.specs.Words.{IsMemory}
use Rattle.hep_image.specs.declared.dummy.DummyArgument.{DummyArgument}
use Rattle.hep_image.specs.declared.dummy.DummyArgument.TheVariants.{Scalar, Array, Adjustable}
use Rattle.hep_image.specs.Dummies.{common_cell, dummy_arguments, dummy_of}
use Rattle.hep_step.specs.declared.dummy_storage.DummyStorage.{DummyStorage}
use Rattle.hep_step.specs.ArgumentAgreement.{AreGiven}
use Rattle.hep_code.specs.Sources.{adjustable_code}
use Rattle.hep_binding.specs.DummyShapes.{AreShapable, IsShapable, longest_code, operations_of}
use Rattle.hep_binding.specs.DummyContents.{AreReadable}
use Rattle.hep_binding.proofs.CommonCells.{common_addressed}
use Rattle.hep_binding.proofs.StoredDummies.{call_readable}

module _ (program : Units) (unit : List Statement) (space : Space) (given : List DummyStorage) (room : ℕ)
    (readable : (x : Name) → AreReadable space given (adjustable_code unit (common_cell program unit) x)) where
  abbrev dummy_as : Name → Bool → Bool → DummyArgument
  dummy_as x b z =
      if b then (
      if z then Array (unwrap_or (constant_shape unit x) no_shape) else Adjustable (adjustable_code unit (common_cell program unit) x)) else Scalar

  one_shapable : (x : Name) (b z : Bool) → operations_of (dummy_as x b z) ≤ room → IsShapable space given room (dummy_as x b z)
  one_shapable x false z few = tt
  one_shapable x true true few = tt
  one_shapable x true false few = (readable x, few)

  all_shapable : (xs : List Name) → longest_code (map (dummy_of program unit) xs) ≤ room → AreShapable space given room (map (dummy_of program unit) xs)
  all_shapable [] few = tt
  all_shapable (x ∷ xs) few =
      let here = operations_of (dummy_of program unit x) in
      let rest = longest_code (map (dummy_of program unit) xs) in (
        one_shapable x (is_array unit x) (nat_eq (adjustable_dimensions unit x) 0) (omega (arith, few, le-max_left here rest)),
        all_shapable xs (omega (arith, few, le-max_right here rest)),
      )

module _ (program : Units) (u : ℕ) (unit : List Statement) (there : slice_get program u ≡ Some unit)
    (some_cells : (x : Name) → is_common unit x ≡ true → 0 < cells_of unit x)
    (s : State) (layout : Layout) (contents : List Slot) (holes : List Hole) (a room : ℕ)
    (actuals : List Actual) (given : List DummyStorage) (ds : List Dummy) where
  pub call_shapable : IsMemory program s layout contents holes → AreGiven program s layout a (dummies_of unit) actuals given ds
      → longest_code (dummy_arguments program unit) ≤ room
      → AreShapable (record { contents = contents; holes = holes }) given room (dummy_arguments program unit)
  call_shapable memory gives few =
      let new : Scope = record { unit = unit; number = a; dummies = ds } in
      let addressed = common_addressed program u unit there some_cells s layout a ds in
      all_shapable program unit (record { contents = contents; holes = holes }) given room
      (call_readable program s layout contents holes memory a new actuals given (common_cell program unit) gives addressed)
      (dummies_of unit) few
