-- Whole runs: docs/MACHINE.md, "The opening and runs".
use Rattle.std.specs.Prelude.{◌≢◌, ℕ, List, [], ◌∷◌, ◌++◌, replicate, None}
use Rattle.std.specs.Option.{unwrap_or}
use Rattle.hep_machine.specs.declared.event.Entry.{Entry}
use Rattle.hep_machine.specs.Opening.{opening}
use Rattle.hep_machine.specs.State.{State}
use Rattle.hep_machine.specs.Step.{step}
use Rattle.hep_source.specs.Units.{Units}

-- the state after a turn of p: the state after its step, or the same state where p has no step
abbrev pub state_after_turn : Units → ℕ → State → State
state_after_turn program p s = unwrap_or (step program p s) s

unfoldable pub run_from : Units → State → List ℕ → State
run_from program s [] = s
run_from program s (p ∷ ps) = run_from program (state_after_turn program p s) ps

-- Each of these turns, in order, makes a step.
abbrev pub AreSteps : Units → State → List ℕ → Type 0
AreSteps program s [] = Unit {0}
AreSteps program s (p ∷ ps) = (step program p s ≢ None) × AreSteps program (state_after_turn program p s) ps

-- the state after turns of these processes, from the opening
unfoldable pub run : Units → List ℕ → State
run program processes = run_from program (opening program) processes

-- the turns of an entry: its process, once for each step
abbrev pub schedule_of_entry : Entry → List ℕ
schedule_of_entry e = replicate e.steps e.process

-- the turns of a history: those of its entries, in order
unfoldable pub schedule_of : List Entry → List ℕ
schedule_of [] = []
schedule_of (e ∷ es) = schedule_of_entry e ++ schedule_of es

-- the state after a history
unfoldable pub state_after : Units → List Entry → State
state_after program history = run program (schedule_of history)
