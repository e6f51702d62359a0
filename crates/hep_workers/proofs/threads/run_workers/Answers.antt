use Rattle.std.proofs.Common.{◌≡◌, true, List, ap, arith, length, refl, subst, sym}
use Rattle.hep_core.specs.CoreValues.{CoreValue}
use Rattle.hep_machine.specs.Words.{Units}
use Rattle.hep_workers.specs.SharedCores.{IsSharedFrom}
use Rattle.hep_workers.proofs.Committed.{fault-so}
use Rattle.hep_workers.specs.declared.receipt.Receipt.{Receipt}
use Rattle.hep_workers.specs.Receipts.{are_of_workers}
use Rattle.hep_workers.specs.Reports.{IsReport, IsUnclosed}
use Rattle.hep_workers.specs.Faults.{IsWorkFault}
use Rattle.hep_workers.specs.declared.work_fault.WorkFault.TheVariants.{Close}
use Rattle.hep_workers.proofs.Reasons.{logs-made, of-run, of-workers, opening_for, unreported}
use Rattle.hep_workers.proofs.threads.run_workers.Goals as goal

-- there is a list for each worker
pub logs_of-requires : goal.logs_of-requires
logs_of-requires g c =
    let same = ap length c.deref.ensures.value in
    omega (arith, same, c.in_ok-core.ensures.many, c.in_ok-core.field-0.lists.ok.0, c.args.options.now.hands)

pub returns-in_err-close-clause-fault : goal.returns-in_err-close-clause-fault
returns-in_err-close-clause-fault g c =
    let options = c.args.options.now in
    let left = c.in_ok-core.field-0.core in
    let logs = c.in_ok-logs.logs.items in
    let fault = c.in_err-close.field-0.0 in
    let logged = logs-made options.workers left.core.history _ c.in_ok-core.field-0.lists.items _ logs c.in_ok-logs.ensures c.history.ensures c.deref.ensures.value c.in_ok-core.ensures.left.logged in
    let run = of-run (opening_for c.args.image options) left.core c.args.image options refl c.in_ok-core.ensures.left.run in
    let unclosed = subst (λ (u : Units). IsUnclosed fault left.core u options logs) c.in_ok-core.ensures.image c.in_err-close.ensures.unclosed in
    fault-so c.from_residual-in_err-close.result (Close fault) (λ f. IsWorkFault f c.args.image options) c.from_residual-in_err-close.ensures.1 (
      unreported fault left.core c.args.image options logs run c.in_ok-core.ensures.left.over logged unclosed,
      c.in_ok-core.ensures.fits,
    )

pub returns-clause-report : goal.returns-clause-report
returns-clause-report g c =
    let options = c.args.options.now in
    let report = c.in_ok-close.field-0 in
    let kept = c.in_ok-close.ensures.kept in
    subst (λ (v : CoreValue). IsReport v c.args.image options report.logs) (sym kept.0) (
    subst (λ (ls : List (List Receipt)). IsReport c.in_ok-core.field-0.core.core c.args.image options ls) (sym kept.1) (
    subst (λ (u : Units). IsReport c.in_ok-core.field-0.core.core u options c.in_ok-logs.logs.items) c.in_ok-core.ensures.image c.in_ok-close.ensures.closed))

pub returns-clause-numbered : goal.returns-clause-numbered
returns-clause-numbered g c =
    let options = c.args.options.now in
    let left = c.in_ok-core.field-0.core in
    let logs = c.in_ok-logs.logs.items in
    let logged = logs-made options.workers left.core.history _ c.in_ok-core.field-0.lists.items _ logs c.in_ok-logs.ensures c.history.ensures c.deref.ensures.value c.in_ok-core.ensures.left.logged in
    subst (λ (ls : List (List Receipt)). are_of_workers options.workers ls ≡ true) (sym c.in_ok-close.ensures.kept.1) (of-workers left.core options logs logged)

pub returns-clause-turns : goal.returns-clause-turns
returns-clause-turns g c =
    let options = c.args.options.now in
    let left = c.in_ok-core.field-0.core in (
      left.places,
      subst (λ (v : CoreValue). ∥ IsSharedFrom (opening_for c.args.image options) (record { core = v; places = left.places }) ∥₁) (sym c.in_ok-close.ensures.kept.0) c.in_ok-core.ensures.left.shared,
    )
