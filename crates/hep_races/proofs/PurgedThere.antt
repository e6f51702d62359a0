-- The storage units that the targets of a PURGE name are there.
use Rattle.std.proofs.Common.{◌≡◌, ℕ, zero, suc, ◌+◌, ◌<◌, List, [], ◌∷◌, Result, Ok, Err, Some, refl, sym, subst, arith, slice_get}
use Rattle.std.specs.List.{flat_map}
use Rattle.hep_accesses.specs.Accesses.{locations_from}
use Rattle.hep_accesses.specs.Exchanges.{next_on_top}
use Rattle.hep_event.proofs.FoundVariables.{levels-of}
use Rattle.hep_event.specs.Sites.{IsVariableOf}
use Rattle.hep_image.proofs.Variables.{further-none}
use Rattle.hep_image.specs.Addressing.{cells_in}
use Rattle.hep_image.specs.Arrays.{ArePlacedArrays}
use Rattle.hep_image.specs.Places.{variable_of}
use Rattle.hep_layout.proofs.Runs.{further-further}
use Rattle.hep_machine.specs.Words.{Level, Location, Process, Reference, State, Units, does, further, purging, run, unit_at, unit_of}
use Rattle.hep_machine.specs.declared.event.Kind.{Kind}
use Rattle.hep_races.proofs.NamedThere.{both-there}
use Rattle.hep_races.proofs.PurgedUnits.{AreUnitsBy, frame, target-found}
use Rattle.hep_races.proofs.UnitsInCells.{there}
use Rattle.hep_races.specs.FullUnits.{AreUnitsAt}
use Rattle.hep_races.specs.StepChanges.{units_of_target}
use Rattle.hep_races.specs.StepEvents.{AreUnitsThere}
use Rattle.hep_races.specs.StoragePlaces.{IsThere}
use Rattle.hep_state.specs.Words.{AreRunning}
use Rattle.hep_state.specs.declared.core_state.CoreState.{CoreState}
use Rattle.hep_step.specs.ArgumentPassing.{passed_at}
use Rattle.hep_step.specs.PurgedRanges.{is_whole, range_in}
use Rattle.hep_step.specs.Simulation.{unit_arrays}
use Rattle.hep_step.specs.declared.closed_range.ClosedRange.{ClosedRange}
use Rattle.hep_trace.proofs.PurgedAhead.{targets-are}
use Rattle.hep_trace.proofs.TargetTexts.{AreLawful}
use Rattle.hep_trace.specs.References.{IsAhead, top_after}
use Rattle.hep_trace.specs.declared.reference.LiveProcess.{LiveProcess}

-- those that follow one another, where each of them is there
row-there : (program : Units) (s : State) (n : ℕ) (at : Location) → ((k : ℕ) → k < n → IsThere program s (further at k))
    → AreUnitsThere program s (locations_from n at)
row-there program s zero at each = tt
row-there program s (suc n) at each = (
  subst (IsThere program s) (further-none at) (each 0 (omega arith)),
  row-there program s n (further at 1) (λ k less.
      subst (IsThere program s) (sym (further-further at 1 k)) (each (1 + k) (omega (arith, less)))),
)

-- those in the cells of a range
range-there : (program : Units) (cells : ℕ) (choices : List ℕ) (m : CoreState) (key : ℕ) (range : ClosedRange) (units : List Location)
    → AreUnitsAt program cells choices m key range units → AreUnitsThere program (run program choices) units
range-there program cells choices m key range units h =
    subst (AreUnitsThere program (run program choices)) (sym h.listed) (
    row-there program (run program choices) range.cells h.start (λ k less.
    let sought = h.sought k less in
    there program cells choices sought.after.layout sought.after.laid (further h.start k) (range.first + k) sought.kept))

-- those of all targets, where those of each one are there
targets-there : (program : Units) (s : State) (units : Reference → List Location) (xs : List Reference)
    → ((i : ℕ) (x : Reference) → slice_get xs i ≡ Some x → AreUnitsThere program s (units x)) → AreUnitsThere program s (flat_map units xs)
targets-there program s units [] each = tt
targets-there program s units (x ∷ xs) each =
    both-there program s (units x) (flat_map units xs) (each 0 x refl)
    (targets-there program s units xs (λ i y e. each (suc i) y e))

module _ (cells : ℕ) (choices : List ℕ) (ahead : LiveProcess) (top : Level × Process) (h : IsAhead cells choices ahead top)
    (known : AreRunning ahead.image.now) (laws : AreLawful ahead.image.now) where
  abbrev program : Units
  program = ahead.image.now

  abbrev s : State
  s = run program choices

  module _ (placed : ArePlacedArrays program (unit_at program (levels-of h.lives).level.unit)) where
    one-there : (x : Reference) (q : Result ClosedRange Kind) (units : List Location)
        → (named : IsVariableOf program (unit_at program (unit_of s top.0.activation)) x.0
        (variable_of program (unit_at program (unit_of s top.0.activation)) x.0))
        → AreUnitsBy cells choices ahead top h known placed x.0
        (variable_of program (unit_at program (unit_of s top.0.activation)) x.0) named x.1 q units → AreUnitsThere program s units
    one-there x (Ok r) units named by =
        range-there program cells choices ahead.machine.now (levels-of h.lives).level.key r units by
    one-there x (Err k) units named by = subst (AreUnitsThere program s) (sym by) tt

    pub purged-there : (targets : List Reference) → next_on_top program (top_after program choices ahead.process top) ≡ does
        (purging targets)
        → AreUnitsThere program s (flat_map (units_of_target program (top_after program choices ahead.process top)) targets)
    purged-there targets next =
        let are = targets-are cells choices ahead top h targets laws.accepted laws.main laws.running laws.placed next in
        targets-there program s (units_of_target program (top_after program choices ahead.process top)) targets (λ i x e.
        let v = variable_of program (unit_at program (unit_of s top.0.activation)) x.0 in
        let named : IsVariableOf program (unit_at program (unit_of s top.0.activation)) x.0 v = (refl, are.placed i x e) in
        one-there x (range_in (is_whole v x.1) (passed_at (cells_in ahead.machine.now.frames.arena.contents)
        (frame cells choices ahead top h known).first
        (unit_arrays program (levels-of h.lives).level.unit) v x.1))
        (units_of_target program (top_after program choices ahead.process top) x) named
        (target-found cells choices ahead top h known placed x.0 v named x.1))
