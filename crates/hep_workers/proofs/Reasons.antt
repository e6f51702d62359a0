-- Why a run by workers leaves no report, by what they have left.
use Rattle.std.proofs.Common.{◌≡◌, ◌≢◌, ℕ, IsSome, List, ap, refl, subst, sym, ◌∙◌, true, true≢false}
use Rattle.std.proofs.Math.Bool.{Bool-set}
use Rattle.std.proofs.Math.Logic.{∥∥₁_elim}
use Rattle.std.specs.Global.{Vec}
use Rattle.hep_machine.specs.Words.{opening_layout, Units}
use Rattle.hep_machine.specs.declared.event.Entry.{Entry}
use Rattle.hep_core.specs.CoreValues.{CoreValue, opening_of, verdict_of}
use Rattle.hep_core.specs.declared.stop.Verdict.TheVariants.{Running}
use Rattle.hep_workers.specs.SharedCores.{IsOfOneRun}
use Rattle.hep_workers.specs.declared.receipt.Receipt.{Receipt}
use Rattle.hep_workers.specs.Receipts.{are_of_workers}
use Rattle.hep_workers.specs.Reports.{IsOfRun, IsUnclosed}
use Rattle.hep_workers.specs.declared.close_fault.CloseFault.{CloseFault}
use Rattle.hep_workers.specs.declared.close_fault.CloseFault.TheVariants as close
use Rattle.hep_workers.specs.declared.options.WorkOptions.{WorkOptions}
use Rattle.hep_workers.specs.Faults.{IsWorkFault, of_crew}
use Rattle.hep_workers.specs.EntrySpans.{AreLogsOf, lists_of, logs_of}
use Rattle.hep_workers.specs.declared.spans.EntrySpan.{EntrySpan}
use Rattle.hep_workers.specs.declared.work_fault.CrewFault.{CrewFault}
use Rattle.hep_workers.specs.declared.work_fault.CrewFault.TheVariants.{NoMemory, NoThread}

abbrev pub opening_for : Units → WorkOptions → CoreValue
opening_for program options = opening_of program options.arena options.steps

pub crew-met : (fault : CrewFault) (program : Units) (options : WorkOptions) → IsSome (opening_layout program options.arena) → IsWorkFault (of_crew fault) program options
crew-met NoMemory program options fits = fits
crew-met NoThread program options fits = fits

-- a core of the run that an opening begins is of its program and its options
pub of-run : (opening core : CoreValue) (program : Units) (options : WorkOptions) → opening ≡ opening_for program options → IsOfOneRun opening core → IsOfRun core program options
of-run opening core program options is one =
    (one.program ∙ ap (λ (v : CoreValue). v.program) is, one.cells ∙ ap (λ (v : CoreValue). v.cells) is, one.limit ∙ ap (λ (v : CoreValue). v.limit) is)

-- ---- what workers leave

-- logs that are made by where the entries are
pub logs-made : (workers : ℕ) (h es : List Entry) (lists ls : List (Vec EntrySpan)) (logs : List (List Receipt)) → logs ≡ logs_of es 1 (lists_of ls) → es ≡ h → ls ≡ lists
    → ∥ AreLogsOf workers h (logs_of h 1 (lists_of lists)) ∥₁ → ∥ AreLogsOf workers h logs ∥₁
logs-made workers h es lists ls logs is same all logged =
    subst (λ (rs : List (List Receipt)). ∥ AreLogsOf workers h rs ∥₁)
    (sym (is ∙ ap (λ (xs : List Entry). logs_of xs 1 (lists_of ls)) same ∙ ap (λ (vs : List (Vec EntrySpan)). logs_of h 1 (lists_of vs)) all)) logged

-- logs under the lock are of their workers
pub of-workers : (core : CoreValue) (options : WorkOptions) (logs : List (List Receipt)) → ∥ AreLogsOf options.workers core.history logs ∥₁ → are_of_workers options.workers logs ≡ true
of-workers core options logs logged = ∥∥₁_elim logged (Bool-set _ _) (λ are. are.numbered)

-- so of a run that is over they make a report, if memory isn't refused
pub unreported : (fault : CloseFault) (core : CoreValue) (program : Units) (options : WorkOptions) (logs : List (List Receipt)) → IsOfRun core program options
    → verdict_of core ≢ Running → ∥ AreLogsOf options.workers core.history logs ∥₁ → IsUnclosed fault core program options logs → fault ≡ close.NoMemory
unreported close.NoMemory core program options logs run over logged un = refl
unreported close.NotTheEntries core program options logs run over logged un = absurd (∥∥₁_elim logged (λ a b. absurd a) (λ are. un are.entries))
unreported close.NotRising core program options logs run over logged un = absurd (∥∥₁_elim logged (λ a b. absurd a) (λ are. true≢false (sym are.rising ∙ un.1)))
unreported close.NotTheRun core program options logs run over logged un = absurd (un.2 run)
unreported close.StillRunning core program options logs run over logged un = absurd (over un.3)
