-- Reports, and why there is none: docs/MACHINE.md, "Workers".
use Rattle.std.specs.Prelude.{◌≡◌, ◌≢◌, true, false, List}
use Rattle.hep_machine.specs.Words.{Units}
use Rattle.hep_core.specs.CoreValues.{CoreValue, verdict_of}
use Rattle.hep_core.specs.declared.stop.Verdict.TheVariants.{Running}
use Rattle.hep_workers.specs.declared.close_fault.CloseFault.{CloseFault}
use Rattle.hep_workers.specs.declared.close_fault.CloseFault.TheVariants.{NoMemory, NotTheEntries, NotRising, NotTheRun, StillRunning}
use Rattle.hep_workers.specs.declared.options.WorkOptions.{WorkOptions}
use Rattle.hep_workers.specs.declared.receipt.Receipt.{Receipt}
use Rattle.hep_workers.specs.Receipts.{AreEntries, all_rise, receipts_of}

-- the core is of this program and these options
abbrev pub IsOfRun : CoreValue → Units → WorkOptions → Type 0
IsOfRun core program options = (core.program ≡ program) × (core.cells ≡ options.arena) × (core.limit ≡ options.steps)

-- a report as its callers see it
pub record ReportValue : Type 0 where
  pub core : CoreValue
  pub logs : List (List Receipt)

-- the receipts are the core's entries, each once, those of each log rise, and the run is over
pub record IsClosed (report : ReportValue) : Type 0 where
  pub entries : AreEntries report.core.history (receipts_of report.logs)
  pub rising : all_rise report.logs ≡ true
  pub over : verdict_of report.core ≢ Running

-- the same, and the core is of this program and these options
pub record IsReport (core : CoreValue) (program : Units) (options : WorkOptions) (logs : List (List Receipt)) : Type 0 where
  pub entries : AreEntries core.history (receipts_of logs)
  pub rising : all_rise logs ≡ true
  pub run : IsOfRun core program options
  pub over : verdict_of core ≢ Running

-- why there is no report: a fault is reported where none before it holds
abbrev pub IsUnclosed : CloseFault → CoreValue → Units → WorkOptions → List (List Receipt) → Type 0
IsUnclosed NoMemory core program options logs = Unit {0}
IsUnclosed NotTheEntries core program options logs = AreEntries core.history (receipts_of logs) → ⊥
IsUnclosed NotRising core program options logs = AreEntries core.history (receipts_of logs) × (all_rise logs ≡ false)
IsUnclosed NotTheRun core program options logs =
    AreEntries core.history (receipts_of logs) × (all_rise logs ≡ true) × (IsOfRun core program options → ⊥)
IsUnclosed StillRunning core program options logs =
    AreEntries core.history (receipts_of logs) × (all_rise logs ≡ true) × IsOfRun core program options × (verdict_of core ≡ Running)
