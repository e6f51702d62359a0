-- The processes that wait, and the process that the scheduler chooses next: docs/MACHINE.md, "Which process comes next".
use Rattle.std.specs.Prelude.{ℕ, zero, suc, not, nat_eq, nat_lt, if◌then◌else◌, List, [], ◌∷◌, Option, Some, slice_get}
use Rattle.std.specs.List.{filter}
use Rattle.hep_machine.specs.declared.event.Entry.{Entry}
use Rattle.hep_machine.specs.Opening.{opening}
use Rattle.hep_machine.specs.Processes.{is_number_among}
use Rattle.hep_machine.specs.Run.{state_after_turn}
use Rattle.hep_machine.specs.State.{Process, State}
use Rattle.hep_machine.specs.Step.{is_waiting}
use Rattle.hep_source.specs.Units.{Units}

-- ---- listed processes: "Which process comes next"

-- the state after a history, and the listed processes: those that the history found waiting and that have waited in every state since
pub record Progress : Type 0 where
  pub state : State
  pub listed : List ℕ

abbrev pub without : ℕ → List ℕ → List ℕ
without p ps = filter (λ q. not (nat_eq p q)) ps

abbrev pub waiting_among : Units → State → List ℕ → List ℕ
waiting_among program s ps = filter (is_waiting program s) ps

-- the progress after a step of p to a state
abbrev pub progress_after_step : Units → Progress → ℕ → State → Progress
progress_after_step program x p s = record { state = s; listed = waiting_among program s (without p x.listed) }

abbrev pub progress_after_steps : Units → Progress → ℕ → ℕ → Progress
progress_after_steps program x p zero = x
progress_after_steps program x p (suc n) = progress_after_steps program (progress_after_step program x p (state_after_turn program p x.state)) p n

-- the progress after an entry; an entry without a step lists its process
abbrev pub progress_after_entry : Units → Progress → Entry → ℕ → Progress
progress_after_entry program x e zero = record x { listed = e.process ∷ without e.process x.listed }
progress_after_entry program x e (suc n) = progress_after_steps program x e.process (suc n)

unfoldable pub progress_from : Units → Progress → List Entry → Progress
progress_from program x [] = x
progress_from program x (e ∷ es) = progress_from program (progress_after_entry program x e e.steps) es

abbrev pub progress_after : Units → List Entry → Progress
progress_after program history = progress_from program (record { state = opening program; listed = [] }) history

-- ---- the process that the scheduler chooses: "Which process comes next"

abbrev pub living_from : ℕ → List Process → List ℕ
living_from k [] = []
living_from k ([] ∷ qs) = living_from (suc k) qs
living_from k ((level ∷ levels) ∷ qs) = k ∷ living_from (suc k) qs

-- the ready processes: the living processes that aren't listed, in the order of their numbers
abbrev pub ready_in : Progress → List ℕ
ready_in x = filter (λ p. not (is_number_among p x.listed)) (living_from 1 x.state.processes)

abbrev pub last_process : List Entry → ℕ
last_process [] = 0
last_process (e ∷ []) = e.process
last_process (e ∷ f ∷ es) = last_process (f ∷ es)

-- the first number above n in a rising list, or else the other one
abbrev pub first_above : ℕ → List ℕ → Option ℕ → Option ℕ
first_above n [] other = other
first_above n (p ∷ ps) other = if nat_lt n p then Some p else first_above n ps other

abbrev pub next_of_ready : ℕ → List ℕ → Option ℕ
next_of_ready n ready = first_above n ready (slice_get ready 0)

-- the process that the scheduler chooses after a history: the least ready one above that of the last entry, or else the least ready one
abbrev pub next_ready : Units → List Entry → Option ℕ
next_ready program history = next_of_ready (last_process history) (ready_in (progress_after program history))
