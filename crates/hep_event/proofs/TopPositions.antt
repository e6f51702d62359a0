-- Where the top activation of a process stands, by what a core keeps, and that the operation that comes next can be looked at.
use Rattle.std.proofs.Common.{◌≡◌, ℕ, ◌+◌, ◌<◌, ◌≤◌, false, List, [], ◌∷◌, drop, length, Some, sym, ap, ◌∙◌, subst, arith}
use Rattle.hep_machine.specs.Words.{Process, Units, living, numbered, run, top_of, Level as SourceLevel, unit_at}
use Rattle.hep_code.proofs.OperandCounts.{room_for}
use Rattle.hep_code.specs.Words.{deepest, values_ahead}
use Rattle.hep_image.specs.Arrays.{ArePlacedArrays}
use Rattle.hep_proc.specs.Nodes.{nodes_of}
use Rattle.hep_proc.specs.Stacks.{stack_with}
use Rattle.hep_step.specs.Cells.{HasFrame}
use Rattle.hep_step.specs.StepReady.{IsAheadReady, IsOperationReady, frame_in_arena}
use Rattle.hep_step.specs.Simulation.{unit_addressed, unit_arrays, unit_code}
use Rattle.hep_state.specs.declared.core_state.CoreState.{CoreState}
use Rattle.hep_state.specs.Words.{HasLevels, IsMachineAfter, IsThere, IsTopRunning, IsTurning, TurnOf, frame_under, snapshot_of, turn_settled, turn_with}
use Rattle.hep_state.proofs.SilentTurns.{top-node}
use Rattle.hep_state.proofs.SettledPositions.{AreStanding, StandsOnTop, stack-standing}
use Rattle.hep_state.proofs.TakenTurns.{inside, ready}
use Rattle.hep_state.proofs.TopActivations.{settled, turning, numbered-there}
use Rattle.hep_event.specs.declared.next_operation.NextOperation.{NextOperation}
use Rattle.hep_event.specs.NextOperations.{IsNextOperation}

-- ---- whether the processes were stopped or not

module _ {program : Units} {cells : ℕ} {choices : List ℕ} {p : ℕ} (m : CoreState) (after : IsMachineAfter program cells choices m) (levels : HasLevels (snapshot_of m) p) where
  -- the top activation of the source machine stands where the machine's is
  pub record HasTop : Type 0 where
    pub top : SourceLevel × Process
    pub lives : living (run program choices) p ≡ Some top
    pub stands : StandsOnTop program (run program choices) (nodes_of m.frames.nodes) levels.operands levels.level top.0

  pub on-top : HasTop
  on-top =
      let shows = after.after.shows in
      let k = stack_with levels.level levels.below levels.operands levels.pending in
      let q = numbered-there (snapshot_of m).processes (run program choices).processes p k shows.processes levels.kept in
      by q.0 q.1 (stack-standing program (run program choices) (nodes_of m.frames.nodes) m.frames.arena.contents k q.0 (shows.stacks p k q.0 levels.kept q.1))
    where
      by : (q : Process) → numbered (run program choices).processes p ≡ Some q → AreStanding program (run program choices) (nodes_of m.frames.nodes) levels.operands levels.pending (levels.level ∷ levels.below) q
          → HasTop
      by [] there stands = absurd stands
      by (level ∷ above) there stands = record { top = (level, above); lives = ap top_of there; stands = stands.0 }

  pub unit-inside : levels.level.unit < length program
  unit-inside = on-top.stands.here.inside

  pub room-there : length levels.operands + values_ahead (drop levels.level.index (unit_code program levels.level.unit)) ≤ deepest (unit_code program levels.level.unit)
  room-there = room_for (unit_addressed program levels.level.unit) on-top.top.0.statement on-top.top.0.work levels.operands levels.level.index on-top.stands.stands

-- ---- where they weren't

module _ {program : Units} {cells : ℕ} {choices : List ℕ} {p : ℕ} (m : CoreState) (after : IsMachineAfter program cells choices m) (running : m.halted ≡ false)
    (levels : HasLevels (snapshot_of m) p) where
  pub turn : (top : SourceLevel × Process) × IsTurning (turn_with program cells choices levels top)
  turn = turning p after.after levels running

  pub level-there : IsThere program (nodes_of m.frames.nodes) levels.level
  level-there = (inside turn.1, top-node turn.1)

  -- what comes next, once the values in front of it are operands
  module _ (c : NextOperation) (k : IsNextOperation (unit_addressed program levels.level.unit) levels.operands levels.level.index c) where
    abbrev pub settled-turn : TurnOf
    settled-turn = turn_settled (turn_with program cells choices levels turn.0) c.operands.items k.index

    pub settled-there : IsTurning settled-turn
    settled-there = settled turn.1 c.operands.items k.index (λ n work stands. record { fits = stands.fits; rest = stands.rest; same = stands.same ∙ sym k.same })

    pub ready-there : IsTopRunning settled-turn settled-there → ArePlacedArrays program (unit_at program levels.level.unit)
        → HasFrame m.frames.arena (frame_in_arena (frame_under (nodes_of m.frames.nodes) levels.level.key))
        × IsOperationReady m.frames.arena (unit_arrays program levels.level.unit) (frame_in_arena (frame_under (nodes_of m.frames.nodes) levels.level.key)) (deepest (unit_code program levels.level.unit)) c.operands.items c.operation
    ready-there runs arrays =
        let r = ready settled-there runs (deepest (unit_code program levels.level.unit)) arrays after.few (omega arith) in (
          r.framed,
          subst (IsAheadReady m.frames.arena (unit_arrays program levels.level.unit) (frame_in_arena (frame_under (nodes_of m.frames.nodes) levels.level.key)) (deepest (unit_code program levels.level.unit)) c.operands.items) k.ahead r.ahead,
        )
