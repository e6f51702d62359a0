-- A variable of the top activation of a process is found, and its cell tells whose it is.
use Rattle.std.proofs.Common.{◌≡◌, ◌≢◌, ◌+◌, ◌<◌, ◌≤◌, ℕ, false, length, List, Option, Some, None, Result, Ok, Err, refl, sym, ◌∙◌, subst, arith, IsSome, is_some, true}
use Rattle.std.proofs.lemmas.Option.{same_Some}
use Rattle.hep_arena.specs.Holes.{IsOut}
use Rattle.hep_code.specs.declared.variable.Variable.{Variable}
use Rattle.hep_code.specs.declared.variable.Variable.TheVariants.{Absent}
use Rattle.hep_code.specs.Words.{Addressing, IsSame}
use Rattle.hep_conditions.specs.Words.{IsAccepted}
use Rattle.hep_image.specs.Arrays.{ArePlacedArrays}
use Rattle.hep_image.specs.Addressing.{address_of, cells_in}
use Rattle.hep_image.specs.Places.{variable_of}
use Rattle.hep_image.specs.FrameBounds.{LiesIn}
use Rattle.hep_image.proofs.Variables.{frame-reached, reached}
use Rattle.hep_image.proofs.FrameBounds.{variable-within}
use Rattle.hep_layout.specs.Words.{IsOwnedAbove, address}
use Rattle.hep_layout.proofs.References.{references}
use Rattle.hep_machine.specs.declared.event.Kind.{Kind}
use Rattle.hep_machine.specs.Words.{Layout, Level, Location, Name, Process, State, Units, Value, frame_of, location_of_name, main_among, run, scope_of, unit_at, unit_of}
use Rattle.hep_proc.specs.Nodes.{nodes_of}
use Rattle.hep_step.specs.Cells.{HasFrame, IsReached}
use Rattle.hep_step.specs.declared.frame.Frame as declared
use Rattle.hep_step.specs.StepReady.{frame_in_arena}
use Rattle.hep_step.specs.Simulation.{RunningTop, arrays_running, unit_arrays, unit_running}
use Rattle.hep_step.proofs.RunningActivations.{found_running, scope_running}
use Rattle.hep_state.specs.declared.core_state.CoreState.{CoreState}
use Rattle.hep_state.specs.Words.{HasLevels, IsMachineAfter, IsTopRunning, IsTurning, TurnOf, frame_under, node_under, running_top, snapshot_of, turn_with}
use Rattle.hep_state.proofs.SilentTurns.{top-activation, unit-is}
use Rattle.hep_views.specs.declared.place.Place.{Place}
use Rattle.hep_views.specs.CellOwners.{IsPlaceSought, IsSought}
use Rattle.hep_views.proofs.UpwardOwners.{named-above}
use Rattle.hep_event.proofs.TopPositions.{level-there, turn}
use Rattle.hep_views.proofs.WaitingPlaces.{living-top}
use Rattle.hep_event.specs.Sites.{IsSite, IsVariableOf, LivesAfter, IsSiteAfter}
use Rattle.hep_event.specs.declared.sites.Site.{Site}
use Rattle.hep_layout.proofs.Addresses.{address-out}

module _ {program : Units} {cells : ℕ} {choices : List ℕ} {p : ℕ} (m : CoreState) (after : IsMachineAfter program cells choices m) (running : m.halted ≡ false)
    (levels : HasLevels (snapshot_of m) p) where
  abbrev pub itself : TurnOf
  itself = turn_with program cells choices levels (turn m after running levels).0

  abbrev pub turns : IsTurning itself
  turns = (turn m after running levels).1

  abbrev s : State
  s = run program choices

  abbrev a : ℕ
  a = (turn m after running levels).0.0.activation

  abbrev addressing : Addressing
  addressing = address program s after.after.layout

  -- ---- whose a cell is

  -- what a name stands for is of COMMON, of the top activation or of one above that
  pub sought : (x : Name) (vs : List Value) (at : Location) (cell : ℕ) → location_of_name (scope_of program s a) x vs ≡ Ok at → addressing at ≡ Some cell
      → IsSought program cells choices m levels.level.key cell at
  sought x vs at cell named kept =
      record {
        after = after.after;
        few = after.few;
        kept = kept;
        node = node_under (nodes_of m.frames.nodes) levels.level.key;
        there = (level-there m after running levels).1;
        owned = subst (λ b. IsOwnedAbove s b at) (sym (top-activation turns)) (named-above program s a (references program choices a) x vs at named);
      }

  -- the layout is the one that there is
  same-layout : turns.after.layout ≡ after.after.layout
  same-layout = same_Some turns.after.layout after.after.layout (sym turns.after.laid ∙ after.after.laid)

  -- ---- where a variable is found

  module _ (runs : IsTopRunning itself turns) (arrays : ArePlacedArrays program (unit_at program levels.level.unit)) (x : Name) (v : Variable)
      (named : IsVariableOf program (unit_at program (unit_of s a)) x v) (vs : List Value) where
    abbrev r : RunningTop
    r = running_top itself turns

    same-unit : unit_of s a ≡ levels.level.unit
    same-unit = unit-is turns

    placed : variable_of program (unit_running r) x ≢ Absent
    placed absent = named.1 (sym named.0 ∙ absent)

    abbrev frame : declared.Frame
    frame = frame_in_arena (frame_under (nodes_of m.frames.nodes) levels.level.key)

    abbrev found : Result ℕ Kind
    found = address_of (cells_in m.frames.arena.contents) frame.first (unit_arrays program levels.level.unit) v vs

    found-same : found_running r (variable_of program (unit_running r) x) vs ≡ found
    found-same i = address_of (cells_in m.frames.arena.contents) frame.first (unit_arrays program (same-unit i)) (named.0 i) vs

    reach : (r.frame.cells ≡ frame_of program s a) × (r.frame.first + r.frame.cells ≤ length m.frames.arena.contents) × ((k : ℕ) → r.frame.first ≤ k → k < r.frame.first + r.frame.cells → IsOut k m.frames.arena.holes)
    reach = frame-reached program s turns.after.layout m.frames.arena.contents m.frames.arena.holes a r.frame runs.memory runs.framed

    pub has-frame : HasFrame m.frames.arena frame
    has-frame = record { inside = reach.1; out = reach.2; few = omega (arith, after.after.size, after.few) }

    pub lies : LiesIn frame.cells (unit_arrays program levels.level.unit) v
    lies =
        let own : ArePlacedArrays program (unit_running r) = subst (λ u. ArePlacedArrays program (unit_at program u)) (sym same-unit) arrays in
        let here = subst (λ n. LiesIn n (arrays_running r) (variable_of program (unit_running r) x)) (sym reach.0) (variable-within program (unit_running r) own x) in
        (subst (λ u. LiesIn frame.cells (unit_arrays program u) v) same-unit (subst (λ w. LiesIn frame.cells (arrays_running r) w) named.0 here))

    by-address : (q : Result ℕ Kind) → found_running r (variable_of program (unit_running r) x) vs ≡ q → IsReached m.frames.arena q
    by-address (Err k) e = tt
    by-address (Ok cell) e =
        reached program s turns.after.layout m.frames.arena.contents m.frames.arena.holes (scope_running r) (found_running r) (variable_of program (unit_running r)) x vs cell runs.memory (runs.addressed x vs placed) e

    pub is-reached : IsReached m.frames.arena found
    is-reached = by-address found found-same

    addressed : IsSame addressing found (location_of_name (scope_of program s a) x vs)
    addressed =
        subst (λ (l : Layout). IsSame (address program s l) found (location_of_name (scope_of program s a) x vs)) same-layout (
        subst (λ q. IsSame (address program s turns.after.layout) q (location_of_name (scope_of program s a) x vs)) found-same (runs.addressed x vs placed).1)

    -- ---- its site

    -- the location of a cell that was found
    pub cell-sought : (cell : ℕ) → found ≡ Ok cell → (at : Location) × IsSought program cells choices m levels.level.key cell at
    cell-sought cell is = by (location_of_name (scope_of program s a) x vs) refl (subst (λ q. IsSame addressing q (location_of_name (scope_of program s a) x vs)) is addressed) where
      by : (o : Result Location Kind) → location_of_name (scope_of program s a) x vs ≡ o → IsSame addressing (Ok cell) o → (at : Location) × IsSought program cells choices m levels.level.key cell at
      by (Ok at) e kept = (at, sought x vs at cell e kept)
      by (Err k) e kept = absurd kept

    pub site-there : (cell : ℕ) (place : Place) → found ≡ Ok cell → IsPlaceSought program m levels.level.key cell place
        → IsSite program s addressing (Some (record { cell = cell; place = place })) (location_of_name (scope_of program s a) x vs)
    site-there cell place is is_place = by (location_of_name (scope_of program s a) x vs) refl (subst (λ q. IsSame addressing q (location_of_name (scope_of program s a) x vs)) is addressed) where
      by : (o : Result Location Kind) → location_of_name (scope_of program s a) x vs ≡ o → IsSame addressing (Ok cell) o
          → IsSite program s addressing (Some (record { cell = cell; place = place })) o
      by (Ok at) e kept = (kept, is_place cells choices at (sought x vs at cell e kept))
      by (Err k) e kept = absurd kept

    pub no-site : (k : Kind) → found ≡ Err k → IsSite program s addressing None (location_of_name (scope_of program s a) x vs)
    no-site k is = by (location_of_name (scope_of program s a) x vs) (subst (λ q. IsSame addressing q (location_of_name (scope_of program s a) x vs)) is addressed) where
      by : (o : Result Location Kind) → IsSame addressing (Err k) o → IsSite program s addressing None o
      by (Ok at) kept = absurd kept
      by (Err l) kept = tt

-- ---- a process that lives

-- what a machine keeps of it
pub levels-of : {program : Units} {cells : ℕ} {choices : List ℕ} {m : CoreState} {p : ℕ} {top : Level × Process} → LivesAfter program cells choices m p top → HasLevels (snapshot_of m) p
levels-of {program} {cells} {choices} {m} {p} {top} lives =
    (living-top program cells choices m lives.after p (subst IsSome (sym lives.lives) refl)).is_top.levels

-- its top level is that one
pub same-top : {program : Units} {cells : ℕ} {choices : List ℕ} {m : CoreState} {p : ℕ} {top : Level × Process} (lives : LivesAfter program cells choices m p top) (levels : HasLevels (snapshot_of m) p)
    → (turn m lives.after lives.running levels).0 ≡ top
same-top {program} {cells} {choices} {m} {p} {top} lives levels =
    let t = turn m lives.after lives.running levels in
    same_Some t.0 top (sym t.1.lives ∙ lives.lives)

-- with what is known of processes that live
module _ {program : Units} {cells : ℕ} {choices : List ℕ} {p : ℕ} {top : Level × Process} (m : CoreState) (lives : LivesAfter program cells choices m p top)
    (accepted : IsAccepted program) (main : is_some (main_among program) ≡ true)
    (running : (t : TurnOf) → IsAccepted t.program → is_some (main_among t.program) ≡ true → (turning : IsTurning t) → IsTopRunning t turning)
    (placed : (t : TurnOf) → IsAccepted t.program → is_some (main_among t.program) ≡ true → IsTurning t → ArePlacedArrays t.program (unit_at t.program t.level.unit))
    (levels : HasLevels (snapshot_of m) p) (x : Name) (v : Variable) (named : IsVariableOf program (unit_at program (unit_of (run program choices) top.0.activation)) x v) (vs : List Value) where
  same : (turn m lives.after lives.running levels).0 ≡ top
  same = same-top lives levels

  runs : IsTopRunning (itself m lives.after lives.running levels) (turns m lives.after lives.running levels)
  runs = running (itself m lives.after lives.running levels) accepted main (turns m lives.after lives.running levels)

  arrays : ArePlacedArrays program (unit_at program levels.level.unit)
  arrays = placed (itself m lives.after lives.running levels) accepted main (turns m lives.after lives.running levels)

  named-there : IsVariableOf program (unit_at program (unit_of (run program choices) (turn m lives.after lives.running levels).0.0.activation)) x v
  named-there = subst (λ (z : Level × Process). IsVariableOf program (unit_at program (unit_of (run program choices) z.0.activation)) x v) (sym same) named

  abbrev pub frame-in : declared.Frame
  frame-in = frame_in_arena (frame_under (nodes_of m.frames.nodes) levels.level.key)

  abbrev pub found-in : Result ℕ Kind
  found-in = address_of (cells_in m.frames.arena.contents) frame-in.first (unit_arrays program levels.level.unit) v vs

  pub frame-there : HasFrame m.frames.arena frame-in
  frame-there = has-frame m lives.after lives.running levels runs arrays x v named-there vs

  pub lies-there : LiesIn frame-in.cells (unit_arrays program levels.level.unit) v
  lies-there = lies m lives.after lives.running levels runs arrays x v named-there vs

  pub reached-there : IsReached m.frames.arena found-in
  reached-there = is-reached m lives.after lives.running levels runs arrays x v named-there vs

  pub sought-there : (cell : ℕ) → found-in ≡ Ok cell → (at : Location) × IsSought program cells choices m levels.level.key cell at
  sought-there = cell-sought m lives.after lives.running levels runs arrays x v named-there vs

  abbrev IsSiteOf : Option Site → Level × Process → Type 0
  IsSiteOf site z = IsSite program (run program choices) (address program (run program choices) lives.after.after.layout) site (location_of_name (scope_of program (run program choices) z.0.activation) x vs)

  pub site-is : (cell : ℕ) (place : Place) → found-in ≡ Ok cell → IsPlaceSought program m levels.level.key cell place → IsSiteOf (Some (record { cell = cell; place = place })) top
  site-is cell place is sought_so =
      subst (IsSiteOf (Some (record { cell = cell; place = place }))) same (site-there m lives.after lives.running levels runs arrays x v named-there vs cell place is sought_so)

  pub none-is : (k : Kind) → found-in ≡ Err k → IsSiteOf None top
  none-is k is = subst (IsSiteOf None) same (no-site m lives.after lives.running levels runs arrays x v named-there vs k is)

-- the cell of a site is out
pub site-out : (program : Units) (cells : ℕ) (choices : List ℕ) (m : CoreState) (site : Site) (at : Result Location Kind) → IsSiteAfter program cells choices m (Some site) at
    → (site.cell < length m.frames.arena.contents) × IsOut site.cell m.frames.arena.holes
site-out program cells choices m site (Ok at) h =
    let memory = h.after.after.shows.keeps.memory in
    let found = address-out program (run program choices) (length m.frames.arena.contents) h.after.after.layout at site.cell memory.laid h.site_is.0 in
    (found.0, subst (IsOut site.cell) (sym memory.holes_are) found.1)
site-out program cells choices m site (Err k) h = absurd h.site_is
