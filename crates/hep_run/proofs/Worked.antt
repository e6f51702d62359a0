-- What workers leave.
use Rattle.std.proofs.Common.{◌≡◌, ◌≢◌, ℕ, Bool, Some, IsSome, inr, refl, sym, ap, ◌∙◌, subst}
use Rattle.std.proofs.lemmas.Option.{none-some}
use Rattle.hep_machine.specs.Words.{IsLegal, opening_layout, Units}
use Rattle.hep_outcome.specs.CoreValues.{CoreValue, IsStop}
use Rattle.hep_workers.specs.declared.close_fault.CloseFault.{CloseFault}
use Rattle.hep_workers.specs.declared.work_fault.WorkFault.{WorkFault}
use Rattle.hep_workers.specs.declared.work_fault.WorkFault.TheVariants.{NoMemory, ArenaFull, NoTicket, NoThread, Close}
use Rattle.hep_workers.specs.declared.options.WorkOptions.{WorkOptions}
use Rattle.hep_workers.specs.Reports.{IsOfRun}
use Rattle.hep_workers.specs.Faults.{IsSharedBy, IsWorkFault, number_of}
use Rattle.hep_outcome.specs.Verdict.TheVariants.{Running}
use Rattle.hep_outcome.specs.Outcome.{Outcome, outcome_of_end, verdict_after}
use Rattle.hep_run.specs.Workers.{IsImageWorked}

pub outcome-worked : (long : Bool) (program : Units) (options : WorkOptions) (core : CoreValue) (o : Outcome)
    → IsOfRun core program options → verdict_after core.program core.history core.stop ≢ Running → IsSharedBy program options core → IsLegal core.program core.cells core.limit core.history → IsStop core.program core.cells core.limit core.history core.stop
    → o ≡ outcome_of_end long core.program core.cells core.history core.stop → IsImageWorked long program options o
outcome-worked long program options core o run over shared legal named is =
    let h = core.history in
    let (same, cells, limit) = run in
    inr (inr (
      h,
      core.stop,
      record {
        turns = (core, shared, refl, refl);
        legal = subst (λ (p : Units). IsLegal p options.arena options.steps h) same (subst (λ n. IsLegal core.program options.arena n h) limit (subst (λ n. IsLegal core.program n core.limit h) cells legal));
        stopped = subst (λ (p : Units). IsStop p options.arena options.steps h core.stop) same (subst (λ n. IsStop core.program options.arena n h core.stop) limit (subst (λ n. IsStop core.program n core.limit h core.stop) cells named));
        over = λ running. over (ap (λ (p : Units). verdict_after p h core.stop) same ∙ running);
      },
      is ∙ (ap (λ (p : Units). outcome_of_end long p core.cells h core.stop) same ∙ ap (λ n. outcome_of_end long program n h core.stop) cells),
    ))

-- a thread couldn't be started where a number is told
pub by-number : (fault : WorkFault) (number : ℕ) (program : Units) (options : WorkOptions) → IsWorkFault fault program options → number_of fault ≡ Some number → number ≡ 704
by-number NoMemory number program options met is = absurd (none-some number is)
by-number ArenaFull number program options met is = absurd (none-some number is)
by-number NoTicket number program options met is = absurd met
by-number NoThread number program options met is = cc
by-number (Close fault) number program options (memory, fits) is = absurd (none-some number (ap (λ (f : CloseFault). number_of (Close f)) (sym memory) ∙ is))

-- where anything else than a full arena is the reason, the main program's frame has a gap
pub fits-else : (fault : WorkFault) (program : Units) (options : WorkOptions) → fault ≢ ArenaFull → IsWorkFault fault program options → IsSome (opening_layout program options.arena)
fits-else NoMemory program options other fits = fits
fits-else ArenaFull program options other fits = absurd (other refl)
fits-else NoTicket program options other met = absurd met
fits-else NoThread program options other fits = fits
fits-else (Close fault) program options other met = met.1

pub fits-by-number : (fault : WorkFault) (number : ℕ) (program : Units) (options : WorkOptions) → number_of fault ≡ Some number → IsWorkFault fault program options → IsSome (opening_layout program options.arena)
fits-by-number fault number program options is fits = fits-else fault program options (λ full. none-some number (ap number_of (sym full) ∙ is)) fits
