use Rattle.std.proofs.Common.{inr}
use Rattle.std.proofs.lemmas.Result.{IfOk-weaker}
use Rattle.hep_run.specs.Sources.{IsRefusedProgram, IsRunnable}
use Rattle.hep_outcome.proofs.Wanted.{on-err-anyway, on-err-so}
use Rattle.hep_run.proofs.Wanted.{may-read-on, program-small}
use Rattle.hep_run.proofs.run_by_workers.work_transcript.Goals as goal

pub returns-in-Ok-clause-made : goal.returns-in-Ok-clause-made
returns-in-Ok-clause-made g c =
    IfOk-weaker c.image_transcript.result _ _ (λ r is. inr (c.in-Ok.image, c.in-Ok.ensures.made, is)) c.image_transcript.ensures.made

pub returns-in-Ok-clause-unmade : goal.returns-in-Ok-clause-unmade
returns-in-Ok-clause-unmade g c = on-err-anyway c.image_transcript.result (inr (program-small IsRunnable _ _ c.in-Ok.ensures.made))

pub returns-in-Err-clause-unmade : goal.returns-in-Err-clause-unmade
returns-in-Err-clause-unmade g c =
    let wanted = may-read-on c.args.asked.now.long IsRefusedProgram c.args.source.now c.in-Err.fault c.in-Err.ensures.refused in
    on-err-so c.fault_transcript.result (wanted c.in-Err.ensures.wanted) c.fault_transcript.ensures.unmade
