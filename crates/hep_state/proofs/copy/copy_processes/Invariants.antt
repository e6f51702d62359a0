use Rattle.std.proofs.Common.{◌++◌, List, drop}
use Rattle.std.specs.List.{AllZip}
use Rattle.hep_proc.specs.declared.process.Process.{Process}
use Rattle.hep_state.specs.Words.{IsProcessCopy}
use Rattle.hep_state.proofs.copy.copy_processes.Given as goal

-- with copies of the processes that are left they are copies of all
abbrev pub invariant-loop-process : goal.invariant-loop-process
invariant-loop-process l =
    (rest : List Process) → AllZip IsProcessCopy (drop l.process-index l.processes) rest
    → AllZip IsProcessCopy l.processes (l.copies.items ++ rest)
