use Rattle.std.proofs.Common.{◌≡◌, ◌++◌, ◌-◌, suc, length, map}
use Rattle.hep_replay.specs.CoreValues.{state_of}
use Rattle.hep_machine.specs.Words.{schedule_of}
use Rattle.hep_why.specs.declared.watch.Watch.{Watch}
use Rattle.hep_why.specs.Watches.{AreNewWatches, listed_from}
use Rattle.hep_why.proofs.watch_updates.all_watches.Given as goal

abbrev pub invariant-loop-index : goal.invariant-loop-index
invariant-loop-index l =
    record {
      listed : map (λ (w : Watch). w.listed) l.watches.items ++ listed_from l.core.core.program l.core.core.history (suc l.index) (length (state_of l.core.core).processes - l.index)
          ≡ listed_from l.core.core.program l.core.core.history 1 (length (state_of l.core.core).processes);
      each : AreNewWatches l.core.core.program l.core.core.cells (schedule_of l.core.core.history) l.watches.items;
    }
