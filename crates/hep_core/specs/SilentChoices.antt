-- Choices in a row, each of which only moves its process: docs/MACHINE.md, "Histories" and "Which process comes
-- next".
use Rattle.std.specs.Prelude.{◌≡◌, ◌≢◌, ◌⊎◌, ℕ, zero, suc, Bool, true, false, List, [], ◌∷◌, ◌++◌, length, Ok, Some, None}
use Rattle.hep_machine.specs.declared.event.Entry.{Entry}
use Rattle.hep_machine.specs.Words.{living, schedule_of}
use Rattle.hep_state.specs.Words.{Changes, IsAfter, Snapshot}
use Rattle.hep_commit.specs.Going.{HasNoMoveAhead}
use Rattle.hep_core.specs.declared.stop.Turn.{Turn}
use Rattle.hep_core.specs.declared.stop.Turns.{Turns}
use Rattle.hep_core.specs.Tickets.{is_out}
use Rattle.hep_core.specs.CoreValues.{CoreValue, IsChoice, next_ready_of, ready_of, state_of}

-- p was chosen and made a step, which filled and emptied no storage unit; then the core has no stop, and the same
-- processes are ready
pub record IsPlainChoice (old : CoreValue) (p : ℕ) (new : CoreValue) : Type 0 where
  pub chosen : IsChoice old p (Ok (record { steps = 1; blocked = false })) new
  pub unchanged : Changes old.program old.cells (schedule_of old.history) p None
  pub going : new.stop ≡ None
  pub ready : ready_of new ≡ ready_of old

-- p was chosen a number of times, one after another
pub data AreChoices (p : ℕ) : CoreValue → ℕ → CoreValue → Type 0 where
  begun : (core : CoreValue) → AreChoices p core 0 core
  again : (old : CoreValue) (n : ℕ) (core new : CoreValue) → AreChoices p old n core → IsPlainChoice core p new → AreChoices p old (suc n) new

-- the process that comes next by itself was chosen, a number of times, one after another
pub data AreRounds : CoreValue → ℕ → CoreValue → Type 0 where
  started : (core : CoreValue) → AreRounds core 0 core
  goes_round : (old : CoreValue) (n : ℕ) (core new : CoreValue) (p : ℕ) → AreRounds old n core → next_ready_of core ≡ Some p → IsPlainChoice core p new → AreRounds old (suc n) new

-- p can be chosen; in rounds, so can whichever process comes next
abbrev pub CanMove : Bool → ℕ → CoreValue → Type 0
CanMove true p core = (core.out ≡ []) × (next_ready_of core ≡ Some p)
CanMove false p core = is_out p core.out ≡ false

-- the choices were made, of p or in rounds
abbrev pub AreMoves : Bool → ℕ → CoreValue → ℕ → CoreValue → Type 0
AreMoves true p old n new = AreRounds old n new
AreMoves false p old n new = AreChoices p old n new

-- p was chosen once, and made a step or was found waiting
abbrev pub IsTurnOnce : CoreValue → ℕ → Turns → CoreValue → Type 0
IsTurnOnce old p turns new = (turns.made ≡ 1) × ((turn : Turn) × (turn.blocked ≡ turns.blocked) × IsChoice old p (Ok turn) new)

-- p was chosen that often and only moved; or it was chosen once
abbrev pub AreTurns : CoreValue → ℕ → Turns → CoreValue → Type 0
AreTurns old p turns new = ((turns.blocked ≡ false) × AreChoices p old turns.made new) ⊎ IsTurnOnce old p turns new

-- the core has a stop, or p doesn't live, or the history is full, or no plain operation that moves p comes next
abbrev pub IsAtRest : CoreValue → ℕ → Type 0
IsAtRest core p =
    (core.stop ≢ None) ⊎ (living (state_of core) p ≡ None) ⊎ (length core.history ≡ core.limit)
    ⊎ ((m : Snapshot) × IsAfter core.program core.cells (schedule_of core.history) m × HasNoMoveAhead core.program p m)

-- a history with more entries of p, each of one step
abbrev pub entries_along : List Entry → ℕ → ℕ → List Entry
entries_along history p zero = history
entries_along history p (suc n) = entries_along history p n ++ record { process = p; steps = 1 } ∷ []
