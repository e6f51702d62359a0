use Rattle.std.proofs.Common.{inr}
use Rattle.std.proofs.lemmas.Result.{IfOk-weaker}
use Rattle.hep_outcome.proofs.Wanted.{on-err-anyway, on-err-so}
use Rattle.hep_run.proofs.Wanted.{may-read-on, program-small}
use Rattle.hep_run.proofs.command.transcript_of.Goals as goal

pub returns-in-Ok-clause-made : goal.returns-in-Ok-clause-made
returns-in-Ok-clause-made g c =
    IfOk-weaker c.transcript.result _ _ (λ r is. inr (g.C.Front.Front.program c.in-Ok.front, c.in-Ok.ensures.made, is)) c.transcript.ensures

pub returns-in-Ok-clause-unmade : goal.returns-in-Ok-clause-unmade
returns-in-Ok-clause-unmade g c =
    let front = g.C.Front.Front in
    on-err-anyway c.transcript.result (inr (program-small front.holds _ (front.program c.in-Ok.front) c.in-Ok.ensures.made))

pub returns-in-Err-clause-unmade : goal.returns-in-Err-clause-unmade
returns-in-Err-clause-unmade g c =
    let wanted = may-read-on c.args.asked.now.long g.C.Front.Front.is_refused c.args.source.now c.in-Err.fault c.in-Err.ensures.refused in
    on-err-so c.fault_transcript.result (wanted c.in-Err.ensures.wanted) c.fault_transcript.ensures.unmade
