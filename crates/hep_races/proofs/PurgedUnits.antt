-- The storage units of a PURGE's target are those in the cells of its range.
use Rattle.std.proofs.Common.{◌≡◌, ◌≢◌, ℕ, ◌+◌, ◌-◌, ◌<◌, ◌≤◌, Bool, true, false, ◌&&◌, not, List, [], ◌∷◌, length, Option, Some, None}
use Rattle.std.proofs.Common.{Result, Ok, Err, refl, sym, ap, ◌∙◌, subst, arith, if◌then◌else◌}
use Rattle.std.proofs.lemmas.Option.{same_Some}
use Rattle.std.specs.Option.{unwrap_or}
use Rattle.hep_accesses.specs.Accesses.{locations_from}
use Rattle.hep_arena.specs.Holes.{IsOut}
use Rattle.hep_code.specs.declared.variable.Variable.{Variable}
use Rattle.hep_code.specs.declared.variable.Variable.TheVariants as variable
use Rattle.hep_code.specs.declared.variable.Variable.TheVariants.{Absent}
use Rattle.hep_event.proofs.FoundVariables.{levels-of, same-top}
use Rattle.hep_event.proofs.TopPositions.{level-there, settled-there, settled-turn}
use Rattle.hep_event.specs.Sites.{IsVariableOf}
use Rattle.hep_image.proofs.NamedNumbers.{by-kind}
use Rattle.hep_image.proofs.Variables.{further-none}
use Rattle.hep_image.specs.Addressing.{cells_in}
use Rattle.hep_image.specs.Arrays.{ArePlacedArrays}
use Rattle.hep_image.specs.Places.{arrays_of, scalar, variable_of}
use Rattle.hep_image.specs.declared.array.Start.{Start}
use Rattle.hep_image.specs.declared.array.Start.TheVariants as start
use Rattle.hep_layout.proofs.Addresses.{address-out}
use Rattle.hep_layout.proofs.References.{references}
use Rattle.hep_layout.specs.Words.{IsOwnedAbove, RunsFrom, address}
use Rattle.hep_machine.specs.Words.{BlockName, Layout, Level, Location, Name, Process, Scope, State, StorageSequence, Units, Value}
use Rattle.hep_machine.specs.Words.{activation_of, common, common_block, dummies_of, dummy_at, element_of, from_element}
use Rattle.hep_machine.specs.Words.{further, index_among, is_array, is_nonempty, local, location_in, run, scope_of, start_by_block}
use Rattle.hep_machine.specs.Words.{storage_by_dummy, storage_of, unit_at, unit_of}
use Rattle.hep_machine.specs.declared.event.Kind.{Kind}
use Rattle.hep_proc.specs.Nodes.{nodes_of}
use Rattle.hep_races.specs.FullUnits.{AreUnitsAt}
use Rattle.hep_races.specs.StepChanges.{located, units_of_target}
use Rattle.hep_state.proofs.CallerRoom.{caller_at, calls-so, runs}
use Rattle.hep_state.proofs.SilentTurns.{top-activation, unit-is}
use Rattle.hep_state.specs.Words.{AreRunning, HasLevels, IsAtStep, IsTopRunning, TurnOf, frame_under, node_under, snapshot_of}
use Rattle.hep_state.specs.declared.core_state.CoreState.{CoreState}
use Rattle.hep_step.proofs.ReadyToPass.{caller-framed, variable-passable}
use Rattle.hep_step.proofs.References.{caller-found, reference-passed}
use Rattle.hep_step.specs.ArgumentAgreement.{CallerOf, IsCaller, IsPassedAs, storage_passed, variables_calling}
use Rattle.hep_step.specs.ArgumentPassing.{passed_at}
use Rattle.hep_step.specs.Cells.{HasFrame}
use Rattle.hep_step.specs.PurgedRanges.{is_whole, range_in}
use Rattle.hep_step.specs.ReadyToPass.{IsPassable}
use Rattle.hep_step.specs.Simulation.{unit_arrays}
use Rattle.hep_step.specs.StepReady.{frame_in_arena}
use Rattle.hep_step.specs.declared.closed_range.ClosedRange.{ClosedRange}
use Rattle.hep_step.specs.declared.frame.Frame as declared
use Rattle.hep_trace.specs.References.{IsAhead, top_after}
use Rattle.hep_trace.specs.declared.reference.LiveProcess.{LiveProcess}
use Rattle.hep_views.specs.CellOwners.{IsSought}

-- the cell of a storage unit that is sought is out
pub sought-out : (program : Units) (cells : ℕ) (choices : List ℕ) (m : CoreState) (key cell : ℕ) (at : Location)
    → IsSought program cells choices m key cell at
    → (cell < length m.frames.arena.contents) × IsOut cell m.frames.arena.holes
sought-out program cells choices m key cell at h =
    let memory = h.after.shows.keeps.memory in
    let found = address-out program (run program choices) (length m.frames.arena.contents) h.after.layout at cell memory.laid h.kept in
    (found.0, subst (IsOut cell) (sym memory.holes_are) found.1)

-- ---- whose storage units are

module _ (s : State) (a : ℕ) where
  -- of the same owner as one before it
  pub owned-behind : (at : Location) (k : ℕ) → IsOwnedAbove s a at → IsOwnedAbove s a (further at k)
  owned-behind (local b x i) k above = above
  owned-behind (common b i) k above = tt

module _ (program : Units) (s : State) (a : ℕ) (above : (k : ℕ) → IsOwnedAbove s a (dummy_at (activation_of s a).dummies k).start) where
  abbrev scope : Scope
  scope = scope_of program s a

  -- the first one of a name
  pub start-above : (x : Name) → IsOwnedAbove s a (storage_of scope x).start
  start-above x = by (index_among x (dummies_of scope.unit)) (common_block scope.unit x) refl
    where
      own : (b : Option BlockName) → IsOwnedAbove s a (start_by_block scope x b)
      own None = λ among here closed. here
      own (Some block) = tt

      by : (o : Option ℕ) (b : Option BlockName) → common_block scope.unit x ≡ b → IsOwnedAbove s a (storage_by_dummy scope x o).start
      by (Some k) b e = above k
      by None b e = own (common_block scope.unit x)

-- ---- a target

-- its storage units, by the storage of its name, which is purged as a whole or not
abbrev pub units_by : StorageSequence → Bool → Result ℕ Kind → List Location
units_by e whole element = if whole then locations_from e.rest e.start else located (location_in e element)

module _ (cells : ℕ) (choices : List ℕ) (ahead : LiveProcess) (top : Level × Process) (h : IsAhead cells choices ahead top)
    (known : AreRunning ahead.image.now) where
  abbrev program : Units
  program = ahead.image.now

  abbrev m : CoreState
  m = ahead.machine.now

  abbrev s : State
  s = run program choices

  abbrev levels : HasLevels (snapshot_of m) ahead.process
  levels = levels-of h.lives

  abbrev t : TurnOf
  t = settled-turn m h.lives.after h.lives.running levels ahead.coming.now (h.coming levels)

  at : IsAtStep t ahead.coming.now.line ahead.coming.now.operation
  at =
      record {
        turning = settled-there m h.lives.after h.lives.running levels ahead.coming.now (h.coming levels);
        behind = ahead.coming.now.behind.now;
        ahead = (h.coming levels).ahead;
      }

  abbrev caller : CallerOf
  caller = caller_at at

  calls : IsCaller caller
  calls = calls-so at known

  running : IsTopRunning t at.turning
  running = runs at known

  same : t.top ≡ top
  same = same-top h.lives levels

  unit-same : unit_of s t.top.0.activation ≡ levels.level.unit
  unit-same = unit-is at.turning

  abbrev pub frame : declared.Frame
  frame = frame_in_arena (frame_under (nodes_of m.frames.nodes) levels.level.key)

  -- ---- what the code asks for

  pub frame-there : HasFrame m.frames.arena frame
  frame-there = caller-framed caller calls running.memory (omega (arith, h.lives.after.after.size, h.lives.after.few))

  module _ (placed : ArePlacedArrays program (unit_at program levels.level.unit)) (x : Name) (v : Variable)
      (named : IsVariableOf program (unit_at program (unit_of s top.0.activation)) x v) (vs : List Value) where
    named-there : variable_of program (unit_at program (unit_of s t.top.0.activation)) x ≡ v
    named-there = ap (λ (z : Level × Process). variable_of program (unit_at program (unit_of s z.0.activation)) x) same ∙ named.0

    there : variables_calling caller x ≢ Absent
    there absent = named.1 (sym named-there ∙ absent)

    pub passable-there : IsPassable m.frames.arena (unit_arrays program levels.level.unit) frame v vs
    passable-there =
        let arrays = subst (λ u. ArePlacedArrays program (unit_at program u)) (sym unit-same) placed in
        subst (λ w. IsPassable m.frames.arena (unit_arrays program levels.level.unit) frame w vs) named-there (
        subst (λ u. IsPassable m.frames.arena (unit_arrays program u) frame (variables_calling caller x) vs) unit-same (
        variable-passable caller calls running.memory arrays x vs))

    -- ---- its range

    abbrev scope_there : Scope
    scope_there = scope_of program s t.top.0.activation

    -- the cells of a range have just these storage units; a target that doesn't exist has none
    abbrev pub AreUnitsBy : Result ClosedRange Kind → List Location → Type 0
    AreUnitsBy (Err k) units = units ≡ []
    AreUnitsBy (Ok r) units = AreUnitsAt program cells choices m levels.level.key r units

    -- the layout is the one that there is
    same-layout : at.turning.after.layout ≡ h.lives.after.after.layout
    same-layout = same_Some at.turning.after.layout h.lives.after.after.layout (sym at.turning.after.laid ∙ h.lives.after.after.laid)

    -- one storage unit of them
    found : (begins : Location) (n first : ℕ) → IsOwnedAbove s t.top.0.activation begins
        → RunsFrom program s at.turning.after.layout begins n first
        → (k : ℕ) → k < n → IsSought program cells choices m levels.level.key (first + k) (further begins k)
    found begins n first above kept k less =
        record {
          after = h.lives.after.after;
          few = h.lives.after.few;
          kept = subst (λ (l : Layout). address program s l (further begins k) ≡ Some (first + k)) same-layout (kept k less);
          node = node_under (nodes_of m.frames.nodes) levels.level.key;
          there = (level-there m h.lives.after h.lives.running levels).1;
          owned = subst (λ b. IsOwnedAbove s b (further begins k)) (sym (top-activation at.turning))
              (owned-behind s t.top.0.activation begins k above);
        }

    abbrev e : StorageSequence
    e = storage_of scope_there x

    begins-above : IsOwnedAbove s t.top.0.activation e.start
    begins-above = start-above program s t.top.0.activation (references program choices t.top.0.activation) x

    units-found : (whole : Bool) (element : Result ℕ Kind) (units : Result (ℕ × ℕ) Kind)
        → IsPassedAs program s at.turning.after.layout units (from_element e (if whole then Ok 1 else element))
        → AreUnitsBy (range_in whole units) (units_by e whole element)
    units-found true element (Err k) is = absurd is
    units-found true element (Ok units) is =
        let begins : further e.start (1 - 1) ≡ e.start = further-none e.start in
        let all : e.rest ≡ units.1 = let rest = is.rest in omega (arith, rest) in
        let counted : (e.rest + 1) - 1 ≡ units.1 = is.rest in
        let kept = subst (λ n. RunsFrom program s at.turning.after.layout e.start n units.0) counted
        (subst (λ l. RunsFrom program s at.turning.after.layout l ((e.rest + 1) - 1) units.0) begins is.run) in
        record {
          start = e.start;
          listed = ap (λ n. locations_from n e.start) all;
          sought = found e.start units.1 units.0 begins-above kept;
        }
    units-found false (Err k) (Err l) is = refl
    units-found false (Err k) (Ok units) is = absurd is
    units-found false (Ok n) (Err k) is = absurd is
    units-found false (Ok n) (Ok units) is =
        let begins = further e.start (n - 1) in
        let some : 1 ≤ (e.rest + 1) - n = let rest = is.rest in let one = is.some in omega (arith, rest, one) in
        record {
          start = begins;
          listed = refl;
          sought = found begins 1 units.0 (owned-behind s t.top.0.activation e.start (n - 1) begins-above)
              (λ k less. is.run k (omega (arith, less, some)));
        }

    -- the code tells whole arrays as the source machine does
    whole-there : is_whole (variables_calling caller x) vs ≡ (is_array scope_there.unit x && not (is_nonempty vs))
    whole-there =
        let z = caller-found caller calls x there in
        by-kind program scope_there.unit x z.0 (λ w. is_whole w vs ≡ (is_array scope_there.unit x && not (is_nonempty vs))) z.1.starts
        (λ is. array vs ∙ sym (ap (λ b. b && not (is_nonempty vs)) is))
        (λ is. plain z.0 ∙ sym (ap (λ b. b && not (is_nonempty vs)) is))
      where
        array : (ws : List Value) → is_whole (variable.Array x.asynchronous (unwrap_or (index_among x (arrays_of scope_there.unit)) 0)) ws
            ≡ not (is_nonempty ws)
        array [] = refl
        array (w ∷ ws) = refl

        plain : (z : Start) → is_whole (scalar x.asynchronous z) vs ≡ false
        plain (start.Dummy c) = refl
        plain (start.Common c) = refl
        plain (start.Local c) = refl

    pub target-found : AreUnitsBy (range_in (is_whole v vs) (passed_at (cells_in m.frames.arena.contents) frame.first
        (unit_arrays program levels.level.unit) v vs))
        (units_of_target program (top_after program choices ahead.process top) (x, vs))
    target-found =
        let one = reference-passed caller calls x vs 0 x there in
        let own = units-found (is_array scope_there.unit x && not (is_nonempty vs)) (element_of e vs) (storage_passed caller x vs) one in
        let wide = subst (λ b. AreUnitsBy (range_in b (storage_passed caller x vs))
        (units_by e (is_array scope_there.unit x && not (is_nonempty vs)) (element_of e vs))) (sym whole-there) own in
        let placed_so = subst (λ u. AreUnitsBy (range_in (is_whole (variables_calling caller x) vs)
        (passed_at (cells_in m.frames.arena.contents) frame.first (unit_arrays program u) (variables_calling caller x) vs))
        (units_by e (is_array scope_there.unit x && not (is_nonempty vs)) (element_of e vs))) unit-same wide in
        let named_so = subst (λ w. AreUnitsBy (range_in (is_whole w vs)
        (passed_at (cells_in m.frames.arena.contents) frame.first (unit_arrays program levels.level.unit) w vs))
        (units_by e (is_array scope_there.unit x && not (is_nonempty vs)) (element_of e vs))) named-there placed_so in
        subst (λ (z : Level × Process). AreUnitsBy (range_in (is_whole v vs)
        (passed_at (cells_in m.frames.arena.contents) frame.first (unit_arrays program levels.level.unit) v vs))
        (units_of_target program (top_after program choices ahead.process z) (x, vs))) same named_so
