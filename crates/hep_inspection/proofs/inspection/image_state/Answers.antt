use Rattle.std.proofs.Common.{inr, inl, subst}
use Rattle.std.proofs.lemmas.Result.{IfOk-weaker}
use Rattle.hep_inspection.specs.Recorded.{IsRecorded}
use Rattle.hep_inspection.proofs.inspection.image_state.Goals as goal

pub returns-in-Made : goal.returns-in-Made
returns-in-Made c =
    let has = subst (IsRecorded c.args.image c.args.asked.now.options.now.origin) c.in-Made.is c.in_ok-entries.ensures in
    IfOk-weaker c.entries_state.result _ _ (λ r told. inr (c.in-Made.entries.items, has, told)) c.entries_state.ensures.made

pub returns-in-Refused : goal.returns-in-Refused
returns-in-Refused c = inl (subst (IsRecorded c.args.image c.args.asked.now.options.now.origin) c.in-Refused.is c.in_ok-entries.ensures)
