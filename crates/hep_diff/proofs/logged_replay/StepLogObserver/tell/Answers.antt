use Rattle.std.proofs.Common.{◌∙◌, ◌++◌, sym}
use Rattle.hep_diff.specs.ProcessSteps.{of_process}
use Rattle.hep_diff.proofs.logged_replay.StepLogObserver.tell.Goals as goal

pub returns : goal.returns
returns c at q = c.in_ok-note.ensures q ∙ (λ i. at.known q i ++ of_process q c.args.p (sym at.noted i))
