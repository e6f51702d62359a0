use Rattle.std.proofs.Common.{◌≡◌, suc, ◌++◌, drop}
use Rattle.hep_core.specs.CoreValues.{state_of}
use Rattle.hep_machine.specs.Words.{progress_after}
use Rattle.hep_state_text.specs.LineDisplay.{line_shown}
use Rattle.hep_state_text.specs.States as words
use Rattle.hep_page.proofs.state_view.append_processes.Given as goal

abbrev pub invariant-loop-index : goal.invariant-loop-index
invariant-loop-index l =
    l.text.items ++ words.processes_text l.core.core.program (state_of l.core.core) (line_shown l.lines) (progress_after l.core.core.program l.core.core.history).listed (suc l.index) (drop l.index (state_of l.core.core).processes)
    ≡ l.initial.text.items ++ words.processes_text l.core.core.program (state_of l.core.core) (line_shown l.lines) (progress_after l.core.core.program l.core.core.history).listed 1 (state_of l.core.core).processes
