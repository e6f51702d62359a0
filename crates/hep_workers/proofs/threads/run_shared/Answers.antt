use Rattle.std.proofs.Common.{ap, subst, ◌∙◌}
use Rattle.hep_core.specs.CoreValues.{CoreValue}
use Rattle.hep_workers.proofs.Committed.{fault-so}
use Rattle.hep_workers.specs.Faults.{IsWorkFault, of_crew}
use Rattle.hep_workers.specs.EntrySpans.{HasLeftLists}
use Rattle.hep_workers.proofs.Reasons.{crew-met}
use Rattle.hep_workers.proofs.threads.run_shared.Goals as goal

pub returns-in_err-core-2-clause-fault : goal.returns-in_err-core-2-clause-fault
returns-in_err-core-2-clause-fault g c =
    let options = c.args.options.now in
    let met = c.in_err-core-2.field-0.0 in
    fault-so c.from_residual-in_err-core-2.result (of_crew met) (λ fault. IsWorkFault fault c.args.image options) c.from_residual-in_err-core-2.ensures.1 (
    crew-met met c.args.image options c.in_ok-core.ensures.fits)

pub returns-clause-image : goal.returns-clause-image
returns-clause-image g c = c.in_ok-image.ensures ∙ c.image.ensures ∙ ap (λ (v : CoreValue). v.program) c.in_ok-core.ensures.made

pub returns-clause-left : goal.returns-clause-left
returns-clause-left g c =
    subst (λ (v : CoreValue). HasLeftLists v c.args.options.now.workers c.in_ok-core-2.core c.in_ok-core-2.lists.items) c.in_ok-core.ensures.made c.in_ok-core-2.ensures.left
