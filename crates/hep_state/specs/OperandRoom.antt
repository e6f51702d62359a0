-- Room for operands in a machine, and the numbers of processes: docs/ARCHITECTURE.md, "Forms".
use Rattle.std.specs.Prelude.{◌≡◌, ◌<◌, ◌≤◌, ℕ, List, length, Some, slice_get, vec_capacity}
use Rattle.hep_machine.specs.Words.{Units, dummies_of, unit_at}
use Rattle.hep_code.specs.declared.instruction.Instruction.TheVariants.{Step}
use Rattle.hep_code.specs.declared.instruction.Operation.TheVariants.{Purge}
use Rattle.hep_code.specs.Words.{deepest}
use Rattle.hep_image.specs.Dummies.{dummy_arguments}
use Rattle.hep_image.specs.Image.{most_cells}
use Rattle.hep_binding.specs.DummyShapes.{longest_code}
use Rattle.hep_step.specs.TargetCount.{most_of, most_targets}
use Rattle.hep_step.specs.Simulation.{unit_code}
use Rattle.hep_proc.specs.declared.process.Local.{Local}
use Rattle.hep_state.specs.declared.core_state.CoreState.{CoreState}
use Rattle.hep_state.specs.declared.core_state.ArgumentBuffers.{ArgumentBuffers}
use Rattle.hep_proc.specs.declared.process.Process.{Process}
use Rattle.hep_state.specs.Snapshots.{AreNumbered, snapshot_of}
use Rattle.hep_state.specs.Turns.{IsAfter}

-- the operands of a process have room for the deepest stack of each unit that it runs, so no step takes memory for them
abbrev pub HasRoom : Units → Process → Type 0
HasRoom program q = (i : ℕ) (l : Local) → slice_get q.levels.items i ≡ Some l → deepest (unit_code program l.unit) ≤ vec_capacity q.operands

-- there is room for what the dummy arguments of each unit are given, for their shapes, and for the values of their
-- bounds, so that no CALL takes memory for them; and for the targets of each PURGE
pub record HasRoomToPass (program : Units) (r : ArgumentBuffers) : Type 0 where
  pub given : (u : ℕ) → length (dummies_of (unit_at program u)) ≤ vec_capacity r.given
  pub shapes : (u : ℕ) → length (dummies_of (unit_at program u)) ≤ vec_capacity r.shapes
  pub values : (u : ℕ) → u < length program → longest_code (dummy_arguments program (unit_at program u)) ≤ vec_capacity r.values
  pub ranges : (u index line count next : ℕ) → u < length program → slice_get (unit_code program u) index ≡ Some (Step line (Purge count next)) → count ≤ vec_capacity r.ranges

-- just the room that a core asks for: the greatest number of dummy arguments of a unit, the longest code of a shape,
-- and the greatest number of targets of a PURGE
pub record IsRoomToPass (program : Units) (r : ArgumentBuffers) : Type 0 where
  pub given : vec_capacity r.given ≡ most_of (λ u. length (dummies_of (unit_at program u))) (length program)
  pub shapes : vec_capacity r.shapes ≡ most_of (λ u. length (dummies_of (unit_at program u))) (length program)
  pub values : vec_capacity r.values ≡ most_of (λ u. longest_code (dummy_arguments program (unit_at program u))) (length program)
  pub ranges : vec_capacity r.ranges ≡ most_of (λ u. most_targets (unit_code program u)) (length program)

-- a statement holds of process p, if it is kept
abbrev pub HoldsOfProcess : CoreState → ℕ → (Process → Type 0) → Type 0
HoldsOfProcess m p IsSo = (i : ℕ) (q : Process) → slice_get m.processes.items i ≡ Some q → q.number ≡ p → IsSo q

-- the operands of process p have room for the deepest stack of unit u
abbrev pub HasRoomAt : Units → ℕ → ℕ → CoreState → Type 0
HasRoomAt program p u m = HoldsOfProcess m p (λ q. deepest (unit_code program u) ≤ vec_capacity q.operands)

-- each kept process has room for its operands, and their numbers rise; there is room to pass arguments, and the arena
-- has no more cells than it may have
pub record HaveRoom (program : Units) (cells : ℕ) (m : CoreState) : Type 0 where
  pub few : cells ≤ most_cells
  pub to_pass : HasRoomToPass program m.passing
  pub room : (i : ℕ) (q : Process) → slice_get m.processes.items i ≡ Some q → HasRoom program q
  pub numbers : AreNumbered m

-- a machine keeps the state after turns of these processes, with that room
pub record IsMachineAfter (program : Units) (cells : ℕ) (choices : List ℕ) (m : CoreState) : Type 0 where
  pub after : IsAfter program cells choices (snapshot_of m)
  pub few : cells ≤ most_cells
  pub to_pass : HasRoomToPass program m.passing
  pub room : (i : ℕ) (q : Process) → slice_get m.processes.items i ≡ Some q → HasRoom program q
  pub numbers : AreNumbered m
