-- A caller can pass whatever actual arguments it comes to.
use Rattle.std.proofs.Common.{◌≡◌, ◌≢◌, ℕ, ◌+◌, ◌-◌, ◌≤◌, Bool, true, List, [], ◌∷◌, length, Option, Some, None, Result, Ok, Err, refl, sym, ap, ◌∙◌, subst, arith, map}
use Rattle.std.specs.Option.{unwrap_or}
use Rattle.hep_machine.specs.Words.{Name, Statement, Value, index_among, dummies_of, dummy_for, is_array, no_dummy, no_shape, Actual, evaluated, referred, storage_by_dummy, storage_of, storage_of_dummy, unit_of, Bounds, is_shape, Dummy, frame_cells}
use Rattle.hep_machine.specs.declared.event.Kind.{Kind}
use Rattle.hep_code.specs.declared.variable.Variable.{Variable}
use Rattle.hep_code.specs.declared.variable.Variable.TheVariants.{Absent}
use Rattle.hep_code.specs.Words.{passed_actual}
use Rattle.hep_layout.specs.Words.{IsMemory}
use Rattle.hep_layout.proofs.Addresses.{address-out}
use Rattle.hep_image.specs.declared.array.Start.{Start}
use Rattle.hep_image.specs.declared.array.Start.TheVariants as start
use Rattle.hep_image.specs.Addressing.{cells_in}
use Rattle.hep_image.specs.Image.{most_cells}
use Rattle.hep_image.specs.Places.{array_of, arrays_of, scalar}
use Rattle.hep_image.specs.FrameBounds.{LiesIn}
use Rattle.hep_image.specs.Arrays.{ArePlacedArrays}
use Rattle.hep_image.proofs.Activations.{dummy-shape}
use Rattle.hep_machine.proofs.ConstantShapes.{constant-shape}
use Rattle.hep_image.proofs.NamedNumbers.{absent-or, array-listed, at-index, by-kind}
use Rattle.hep_image.proofs.Variables.{frame-reached}
use Rattle.hep_image.proofs.FrameBounds.{variable-within}
use Rattle.hep_step.specs.StepReady.{frame_in_arena}
use Rattle.hep_step.specs.Cells.{HasFrame}
use Rattle.hep_step.specs.ArgumentAgreement.{CallerOf, IsCaller, IsPassedAs, arrays_calling, scope_calling, storage_passed, unit_calling, variables_calling}
use Rattle.hep_step.specs.ReadyToPass.{ArePassable, AreUnitsIn, HasShape, IsPassable, IsShaped}
use Rattle.hep_step.proofs.References.{IsFoundBy, caller-found, reference-passed}

module _ (c : CallerOf) (calls : IsCaller c) (memory : IsMemory c.program c.state c.layout c.arena.contents c.arena.holes) where
  abbrev unit : List Statement
  unit = unit_calling c

  -- ---- the frame

  pub caller-framed : length c.arena.contents ≤ most_cells → HasFrame c.arena (frame_in_arena c.frame)
  caller-framed few =
      let here = frame-reached c.program c.state c.layout c.arena.contents c.arena.holes c.activation c.frame memory calls.framed in
      record { inside = here.1; out = here.2; few = few }

  cells-are : c.frame.cells ≡ frame_cells unit
  cells-are = (frame-reached c.program c.state c.layout c.arena.contents c.arena.holes c.activation c.frame memory calls.framed).0

  -- ---- shapes

  shape-of : (x : Name) → is_array unit x ≡ true → is_shape (storage_of (scope_calling c) x).shape ≡ true
  shape-of x is = by_index (index_among x (dummies_of unit)) refl where
    by_index : (o : Option ℕ) → index_among x (dummies_of unit) ≡ o → is_shape (storage_by_dummy (scope_calling c) x o).shape ≡ true
    by_index None e =
        let known = calls.closed (unit_of c.state c.activation) unit x calls.unit is e in
        ap (λ (o : Option Bounds). is_shape (unwrap_or o no_shape)) known.1 ∙ (constant-shape unit x known.0 is known.1).0
    by_index (Some k) e =
        let there = calls.bound x k e in
        ap (λ (o : Option Dummy). is_shape (storage_of_dummy (unwrap_or o no_dummy)).shape) there.1 ∙ dummy-shape unit c.activation x there.0 there.2 is

  abbrev Shaped : Variable → Type 0
  Shaped v = HasShape (cells_in c.arena.contents) c.frame.first (arrays_calling c) v

  variable-shaped : (x : Name) (at : Start) → IsFoundBy c x at → Shaped (variables_calling c x)
  variable-shaped x at found =
      by-kind c.program unit x at Shaped found.starts
      (λ is. subst (IsShaped (cells_in c.arena.contents) c.frame.first) (sym (at-index x (array_of c.program unit) (arrays_of unit) (array-listed x unit is))) (ap is_shape (found.shaped is) ∙ shape-of x is))
      (λ is. of_scalar x.asynchronous at)
    where
      of_scalar : (b : Bool) (z : Start) → Shaped (scalar b z)
      of_scalar b (start.Local c) = tt
      of_scalar b (start.Common c) = tt
      of_scalar b (start.Dummy c) = tt

  -- ---- what is passed lies in the arena

  units-in : (units : Result (ℕ × ℕ) Kind) (d : Result Dummy Kind) → IsPassedAs c.program c.state c.layout units d → AreUnitsIn (length c.arena.contents) units
  units-in (Err k) d h = tt
  units-in (Ok units) (Err k) h = absurd h
  units-in (Ok units) (Ok d) h =
      let last = address-out c.program c.state (length c.arena.contents) c.layout _ (units.0 + (units.1 - 1)) memory.laid (h.run (units.1 - 1) (omega (arith, h.some, h.rest))) in
      omega (arith, h.some, last.0)

  -- ---- variables

  module _ (placed : ArePlacedArrays c.program unit) where
    abbrev Passable : Variable → List Value → Type 0
    Passable v vs = IsPassable c.arena (arrays_calling c) (frame_in_arena c.frame) v vs

    found-passable : (x : Name) (vs : List Value) → variables_calling c x ≢ Absent → Passable (variables_calling c x) vs
    found-passable x vs there =
        let found = caller-found c calls x there in
        record {
          inside = subst (λ n. LiesIn n (arrays_calling c) (variables_calling c x)) (sym cells-are) (variable-within c.program unit placed x);
          shaped = variable-shaped x found.0 found.1;
          reached = units-in (storage_passed c x vs) (dummy_for (scope_calling c) 0 x (referred (x, vs))) (reference-passed c calls x vs 0 x there);
        }

    pub variable-passable : (x : Name) (vs : List Value) → Passable (variables_calling c x) vs
    variable-passable x vs = absent-or (variables_calling c x) (λ v. Passable v vs) (record { inside = tt; shaped = tt; reached = tt }) (found-passable x vs)

    pub actuals-passable : (actuals : List Actual) → ArePassable c.arena (arrays_calling c) (frame_in_arena c.frame) (map (passed_actual (variables_calling c)) actuals)
    actuals-passable [] = tt
    actuals-passable (evaluated v ∷ ys) = actuals-passable ys
    actuals-passable (referred r ∷ ys) = (variable-passable r.0 r.1, actuals-passable ys)
