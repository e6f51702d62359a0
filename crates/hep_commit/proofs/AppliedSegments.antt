-- The steps of a segment in a machine are so many turns of its process.
use Rattle.std.proofs.Common.{◌≡◌, ℕ, ◌≤◌, ◌++◌, List, ◌∷◌, length, replicate, Some, refl, subst, arith, false}
use Rattle.std.specs.Vec.{with_item}
use Rattle.hep_machine.specs.Words.{Units, Value, unit_at}
use Rattle.hep_machine.specs.declared.slot.Slot.{Slot}
use Rattle.hep_state.proofs.BindingCalls.{set-numbered}
use Rattle.hep_code.specs.Words.{deepest}
use Rattle.hep_image.specs.Image.{most_cells}
use Rattle.hep_image.specs.Private.{private_cells}
use Rattle.hep_step.specs.Simulation.{unit_code}
use Rattle.hep_private.specs.declared.record.Record.{Record}
use Rattle.hep_private.specs.OwnState.{OwnState, begun}
use Rattle.hep_private.specs.StepRecords.{recorded}
use Rattle.hep_commit.specs.PrivateTurns.{HaveGone, own_of}
use Rattle.hep_proc.specs.Nodes.{nodes_of}
use Rattle.hep_proc.specs.Stacks.{Stack, stack_of, stack_with}
use Rattle.hep_proc.specs.declared.frames.Frames.{Frames}
use Rattle.hep_proc.specs.declared.process.Local.{Local}
use Rattle.hep_proc.specs.declared.process.Process.{Process}
use Rattle.hep_private.specs.Segments.{IsMadeFrom, SegmentValue}
use Rattle.hep_state.specs.declared.core_state.CoreState.{CoreState}
use Rattle.hep_state.specs.Words.{AreNumbered, HasLevels, IsAfter, IsTurning, Snapshot, TurnOf, snapshot_moved, snapshot_of, turn_with, with_contents, with_stack}
use Rattle.hep_state.proofs.Processes.{IsAt, stacks-set}
use Rattle.hep_state.proofs.TakenTurns.{room-ahead}
use Rattle.hep_state.proofs.TopActivations.{turning}
use Rattle.hep_commit.specs.SegmentStarts.{first_of, snapshot_taken, start_in}
use Rattle.hep_private.specs.InPlace.{stored_with}

-- what the law of private steps says of turns of a program
abbrev pub AreTurnsIn : Units → Type 0
AreTurnsIn program =
    (t : TurnOf) (n : ℕ) (records : List Record) (end : OwnState) → t.program ≡ program → t.cells ≤ most_cells → IsTurning t
    → recorded (private_cells (unit_at t.program t.level.unit)) (unit_code t.program t.level.unit) n (own_of t) ≡ Some (records, end)
    → HaveGone t n records end

module _ {program : Units} (laws : AreTurnsIn program) {cells : ℕ} {choices : List ℕ} {m : Snapshot} {p : ℕ} (few : cells ≤ most_cells) (after : IsAfter program cells choices m) (running : m.halted ≡ false) (levels : HasLevels m p) (s : SegmentValue)
    (made : IsMadeFrom program (start_in levels) s) where
  abbrev t : TurnOf
  t = turn_with program cells choices levels (turning p after levels running).0

  turns : IsTurning t
  turns = (turning p after levels running).1

  steps : recorded (private_cells (unit_at program levels.level.unit)) (unit_code program levels.level.unit) (length s.records) (own_of t) ≡ Some (s.records, made.1.end)
  steps =
      subst (λ (is : Type 0). is) (λ i. recorded (private_cells (unit_at program (made.0.unit i))) (unit_code program (made.0.unit i)) (length s.records) (begun (made.0.index i) (made.0.operands i) (start_in levels).values) ≡ Some (s.records, made.1.end)) made.1.made

  pub gone : HaveGone t (length s.records) s.records made.1.end
  gone = laws t (length s.records) s.records made.1.end refl few turns steps

  -- the state after them is kept
  pub kept : IsAfter program cells (choices ++ replicate (length s.records) p) (snapshot_taken levels s)
  kept =
      subst (λ (is : Type 0). is) (λ i. IsAfter program cells (choices ++ replicate (length s.records) p) (snapshot_moved t (stored_with (first_of levels) m.arena.contents s.records) (made.1.operands i) (made.1.index i))) gone.after

  -- and there is room for the operands
  pub few-at-end : length s.end_operands ≤ deepest (unit_code program levels.level.unit)
  few-at-end =
      let at : HasLevels (snapshot_taken levels s) p = record {
        level = record levels.level { index = s.end_index };
        below = levels.below;
        operands = s.end_operands;
        pending = levels.pending;
        kept = set-numbered m.processes p (stack_with levels.level levels.below levels.operands levels.pending) (stack_with (record levels.level { index = s.end_index }) levels.below s.end_operands levels.pending) levels.kept;
      } in
      let there = turning p kept at running in
      omega (arith, room-ahead there.1)

-- what a machine shows, where a process has another stack and cells of the arena have changed
pub shown-now : (m : CoreState) (p : ℕ) {at : ℕ} {before : Stack} {q : Process} (r : Process) (frames : Frames) (contents : List Slot) (l : Local) (ls : List Local) (left pending : List Value) (next : ℕ) → AreNumbered m
    → IsAt m.processes.items p at before q → r.number ≡ q.number → stack_of r ≡ stack_with (record l { index = next }) ls left pending → frames.arena.contents ≡ contents → frames.arena.holes ≡ m.frames.arena.holes → frames.nodes ≡ m.frames.nodes
    → snapshot_of (record m { frames = frames; processes = with_item m.processes at r }) ≡ with_stack (with_contents (snapshot_of m) contents) p (record l { index = next } ∷ ls) left pending
shown-now m p r frames contents l ls left pending next numbers it same stack changed holes nodes =
    let stacks = stacks-set m p r (stack_with (record l { index = next }) ls left pending) numbers it same stack in
    λ i. record (with_stack (with_contents (snapshot_of m) contents) p (record l { index = next } ∷ ls) left pending) {
      arena = record { contents = changed i; holes = holes i };
      nodes = nodes_of (nodes i);
      processes = stacks i;
    }
