use Rattle.std.proofs.Common.{◌∙◌, sym, ap, ℕ, List}
use Rattle.hep_machine.specs.Words.{run}
use Rattle.hep_fold.proofs.Folding.{seen-none}
use Rattle.hep_fold.proofs.MachineTurns.{makes-none}
use Rattle.hep_diff.specs.StepLogs.{steps_after}
use Rattle.hep_diff.specs.declared.process_step.ProcessStep.{ProcessStep}
use Rattle.hep_diff.proofs.logged_replay.StepLogObserver.go_on.Goals as goal

pub returns-clause-gone : goal.returns-clause-gone
returns-clause-gone c = makes-none c.args.tabled.now.image.now c.args.row.process c.args.machine.now

pub returns-clause-seen : goal.returns-clause-seen
returns-clause-seen c at q =
    let program = c.args.tabled.now.image.now in
    at.known q
    ∙ ap (λ (steps : ℕ → List ProcessStep). steps q) (sym (seen-none program (steps_after program) (run program at.made) at.seen))
