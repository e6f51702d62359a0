use Rattle.std.proofs.Common.{◌≡◌, ℕ, ◌+◌, ◌≤◌, List, drop, suc}
use Rattle.hep_replay.specs.CoreValues.{state_of}
use Rattle.hep_machine.specs.Words.{Process, progress_after}
use Rattle.hep_why.proofs.ReadyCounts.{ready_from}
use Rattle.hep_why.proofs.why.able_of.Given as goal

-- those before the index are counted, and with those from it on they are all
pub record IsCounted (listed : List ℕ) (processes : List Process) (index able : ℕ) : Type 0 where
  pub few : able ≤ index
  pub all : able + ready_from listed (suc index) (drop index processes) ≡ ready_from listed 1 processes

abbrev pub invariant-loop-index : goal.invariant-loop-index
invariant-loop-index l =
    IsCounted (progress_after l.core.core.program l.core.core.history).listed (state_of l.core.core).processes l.index l.able
