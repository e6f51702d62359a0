-- That private steps are turns of their process: docs/MACHINE.md, "Private steps".
use Rattle.std.specs.Prelude.{◌≡◌, ℕ, suc, Bool, List, ◌++◌, is_some, replicate}
use Rattle.hep_machine.specs.Words.{AreSteps, run, unit_at}
use Rattle.hep_machine.specs.declared.slot.Slot.{Slot}
use Rattle.hep_image.specs.Private.{private_cells}
use Rattle.hep_step.specs.Simulation.{unit_code}
use Rattle.hep_state.specs.Words.{IsAfter, TurnOf, snapshot_moved, top_frame}
use Rattle.hep_advance.specs.SilentRuns.{HasGone}
use Rattle.hep_private.specs.declared.record.Record.{Record}
use Rattle.hep_private.specs.OwnState.{OwnState, begun, values_at}
use Rattle.hep_private.specs.StepRecords.{next_made, recorded}
use Rattle.hep_private.specs.InPlace.{stored_with}

-- the private state of the top activation of a process, before its steps
abbrev pub own_of : TurnOf → OwnState
own_of t = begun t.level.index t.operands (values_at t.machine.arena.contents (top_frame t).first)

-- the turns that follow
abbrev pub turns_after : TurnOf → ℕ → List ℕ
turns_after t n = t.choices ++ replicate n t.process

-- the next n steps of the process are private
abbrev pub are_private : TurnOf → ℕ → Bool
are_private t n = is_some (recorded (private_cells (unit_at t.program t.level.unit)) (unit_code t.program t.level.unit) n (own_of t))

-- so is the next one, with this private state and these cells of the arena
abbrev pub is_private_behind : TurnOf → OwnState → List Slot → Bool
is_private_behind t end contents =
    is_some (next_made (private_cells (unit_at t.program t.level.unit)) (unit_code t.program t.level.unit) (begun end.index end.operands (values_at contents (top_frame t).first)))

-- the process has made n private steps, which fill and empty nothing; the machine after them has the values that they
-- lead to, and decides whether the next step is private
pub record HaveGone (t : TurnOf) (n : ℕ) (records : List Record) (end : OwnState) : Type 0 where
  pub gone : HasGone t.program t.cells t.process t.choices n (turns_after t n)
  pub steps : AreSteps t.program (run t.program t.choices) (replicate n t.process)
  pub after : IsAfter t.program t.cells (turns_after t n) (snapshot_moved t (stored_with (top_frame t).first t.machine.arena.contents records) end.operands end.index)
  pub values : (c : ℕ) → values_at (stored_with (top_frame t).first t.machine.arena.contents records) (top_frame t).first c ≡ end.values c
  pub next : is_private_behind t end (stored_with (top_frame t).first t.machine.arena.contents records) ≡ are_private t (suc n)
