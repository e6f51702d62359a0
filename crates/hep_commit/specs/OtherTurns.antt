-- A process that hasn't moved while others had turns: docs/MACHINE.md, "Private steps".
use Rattle.std.specs.Prelude.{◌≡◌, ℕ, false, List, ◌++◌, Some}
use Rattle.hep_machine.specs.Words.{is_number_among, numbered}
use Rattle.hep_private.specs.OwnState.{Values, values_at}
use Rattle.hep_proc.specs.Stacks.{stack_with}
use Rattle.hep_state.specs.Words.{IsAfter, Snapshot, TurnOf, frame_under}

-- m is the machine after turns of these other processes: the process has the same stack, and no STOP was executed
pub record IsBeside (t : TurnOf) (others : List ℕ) (m : Snapshot) : Type 0 where
  pub other : is_number_among t.process others ≡ false
  pub after : IsAfter t.program t.cells (t.choices ++ others) m
  pub going : m.halted ≡ false
  pub kept : numbered m.processes t.process ≡ Some (stack_with t.level t.below t.operands t.pending)

-- the values in the frame of its top activation then
abbrev pub values_beside : TurnOf → Snapshot → Values
values_beside t m = values_at m.arena.contents (frame_under m.nodes t.level.key).first
