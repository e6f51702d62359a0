-- RESUME as the next operation of an activation: docs/MACHINE.md, "Steps".
use Rattle.std.specs.Prelude.{◌≡◌, ℕ, []}
use Rattle.hep_machine.specs.Words.{does, level_after_statement, next_of, resuming, state_resumed, stepped}
use Rattle.hep_code.specs.Words.{Moves}
use Rattle.hep_step.specs.Simulation.{RunningTop, addressed_on_top, counts_in, step_result_running, unit_running}

-- the source machine lets the one below go on, if there is one; the activation goes on at an index, and has no operands
pub record IsResumeAhead (r : RunningTop) (next : ℕ) : Type 0 where
  pub does_so : next_of (unit_running r) r.top.level.work ≡ does resuming
  pub made : step_result_running r ≡ stepped (state_resumed r.program r.top r.top.below)
  pub alone : r.operands ≡ []
  pub onward : Moves (addressed_on_top r.program r.top) r.top.level (level_after_statement (unit_running r) r.top.level) (counts_in (unit_running r) r.arena.contents r.frame.first) next
