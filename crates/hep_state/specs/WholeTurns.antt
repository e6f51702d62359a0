-- One turn of a process, whichever turns led to its machine: docs/MACHINE.md, "Steps" and "The opening and runs".
use Rattle.std.specs.Prelude.{◌≡◌, ◌<◌, ◌≤◌, ◌+◌, ◌^◌, ℕ}
use Rattle.hep_machine.specs.Words.{Units}
use Rattle.hep_blocked.specs.Rosters.{RosterValue}
use Rattle.hep_state.specs.declared.core_state.CoreState.{CoreState}
use Rattle.hep_state.specs.declared.turn.TurnFault.{TurnFault}
use Rattle.hep_state.specs.declared.turn.TurnOutcome.{TurnOutcome}
use Rattle.hep_state.specs.declared.next_step.NextCall.{NextCall}
use Rattle.hep_state.specs.TurnOutcomes.{HasTurned}
use Rattle.hep_state.specs.Snapshots.{snapshot_of}
use Rattle.hep_state.specs.TurnTaking.{IsSameButTop, IsSeenSame}
use Rattle.hep_state.specs.TurnFaults.{IsUnturned}
use Rattle.hep_state.specs.TurnParts.{AfterTurns, IsAtCallAhead, IsAtResumeAhead, IsItsTurn, KeepsState}

-- ---- the conditions of a turn

-- it is the turn of process p, and a process that a CREATE or a RESUME makes has a number
pub record CanTurn (program : Units) (p : ℕ) (m : CoreState) (roster : RosterValue) : Type 0 where
  pub turn : IsItsTurn program p m
  pub countable : m.activations + 1 < 2 ^ 64
  pub numerable : m.made + 1 < 2 ^ 64
  pub numbers : m.made ≤ roster.room

-- process p is at a CALL, CREATE or reference
pub record CanTakeCall (program : Units) (p : ℕ) (m : CoreState) (call : NextCall) (roster : RosterValue) : Type 0 where
  pub at : IsAtCallAhead program p m call
  pub countable : m.activations + 1 < 2 ^ 64
  pub numerable : m.made + 1 < 2 ^ 64
  pub numbers : m.made ≤ roster.room

-- process p is at RESUME, after which it goes on at an index
pub record CanTakeResume (program : Units) (p : ℕ) (m : CoreState) (next : ℕ) (roster : RosterValue) : Type 0 where
  pub at : IsAtResumeAhead program p m next
  pub numerable : m.made + 1 < 2 ^ 64
  pub numbers : m.made ≤ roster.room

-- ---- the results of a turn

-- a turn of process p led from a machine to another one, with this result
abbrev pub IsTurn : Units → ℕ → CoreState → TurnOutcome → CoreState → Type 0
IsTurn program p old turned new = AfterTurns program old (λ cells choices. HasTurned program cells choices p turned new)

-- the turn isn't taken, for this reason
abbrev pub IsUntaken : Units → ℕ → CoreState → TurnFault → Type 0
IsUntaken program p m fault = AfterTurns program m (λ cells choices. IsUnturned fault program cells choices p)

-- the machine still keeps each state that it kept, with the same view; leading constants of process p may have been
-- pushed
pub record LeavesAlone (program : Units) (p : ℕ) (old new : CoreState) : Type 0 where
  pub after : KeepsState program old new
  pub same : IsSeenSame (snapshot_of old) (snapshot_of new)
  pub top : IsSameButTop program p (snapshot_of old) (snapshot_of new)
  pub made : new.made ≡ old.made

-- the turn isn't taken, for this reason, and the state is kept
abbrev pub IsRefused : Units → ℕ → CoreState → CoreState → TurnFault → Type 0
IsRefused program p old new fault = IsUntaken program p old fault × LeavesAlone program p old new
