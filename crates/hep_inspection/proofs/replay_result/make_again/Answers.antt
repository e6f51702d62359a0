use Rattle.std.proofs.Common.{inl, subst}
use Rattle.std.proofs.lemmas.Result.{IfOk-weaker}
use Rattle.hep_machine.specs.Words.{Units}
use Rattle.hep_inspection.specs.Recorded.{IsRecorded}
use Rattle.hep_inspection.specs.ReplayResults.{AreMadeOrRefused}
use Rattle.hep_inspection.proofs.Remaking.{made-of-origin}
use Rattle.hep_inspection.proofs.replay_result.make_again.Goals as goal

pub returns-in_ok-copy-in-Made : goal.returns-in_ok-copy-in-Made
returns-in_ok-copy-in-Made c =
    let entries = c.in-Made.entries.items in
    let has = subst (IsRecorded c.args.image.now c.args.origin.now) c.in-Made.is c.in_ok-entries.ensures in
    IfOk-weaker c.make_entries.result _ _ (λ r made. made-of-origin c.args.long c.args.arena c.args.image.now c.args.origin.now entries r has (
    subst (λ (us : Units). AreMadeOrRefused c.args.long c.args.arena us entries r) c.in_ok-copy-in-Made.ensures made)) c.make_entries.ensures.made

pub returns-in-Refused : goal.returns-in-Refused
returns-in-Refused c = inl (subst (IsRecorded c.args.image.now c.args.origin.now) c.in-Refused.is c.in_ok-entries.ensures)
