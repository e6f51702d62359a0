-- The processes that a state has: one at least, since none is ever taken away.
use Rattle.std.proofs.Common.{ℕ, ◌≤◌, List, [], ◌∷◌, inl, inr, arith, length}
use Rattle.hep_machine.specs.declared.event.Entry.{Entry}
use Rattle.hep_machine.specs.Words.{Units, State, opening, run, run_from, schedule_of, state_after, state_after_turn}
use Rattle.hep_machine.proofs.Others.{processes_after}

some-from : (program : Units) (s : State) (choices : List ℕ) → 1 ≤ length s.processes → 1 ≤ length (run_from program s choices).processes
unfolding run_from
some-from program s [] some = some
some-from program s (p ∷ ps) some = some-from program (state_after_turn program p s) ps (elim (processes_after program p s) [
  | inl same ↦ omega (arith, same, some)
  | inr more ↦ omega (arith, more, some)
])

some-run : (program : Units) (choices : List ℕ) → 1 ≤ length (run program choices).processes
unfolding run opening
some-run program choices = some-from program (opening program) choices (omega arith)

pub some-made : (program : Units) (history : List Entry) → 1 ≤ length (state_after program history).processes
unfolding state_after
some-made program history = some-run program (schedule_of history)
