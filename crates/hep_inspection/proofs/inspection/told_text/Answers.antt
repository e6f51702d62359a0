use Rattle.std.proofs.Common.{◌≡◌, ◌∙◌, ℕ, List, IfOk, subst, sym}
use Rattle.hep_replay.specs.HistoryPrefix.{first_of}
use Rattle.hep_inspection.specs.declared.inspection.Inspection.{Inspection}
use Rattle.hep_inspection.specs.Inspections.{told}
use Rattle.hep_formats.specs.Lanes.{lanes_of}
use Rattle.hep_formats.specs.TraceEvents.{events_of}
use Rattle.hep_inspection.proofs.inspection.told_text.Goals as goal

pub returns-in-State-clause-told : goal.returns-in-State-clause-told
returns-in-State-clause-told c =
    let entries = first_of c.args.entries.now in
    subst (λ (t : Inspection). IfOk c.state_told.result (λ text. text.items ≡ told t c.args.source.now c.args.image entries))
    (sym c.in-State.is) c.state_told.ensures.told

pub returns-in-Trace-clause-told : goal.returns-in-Trace-clause-told
returns-in-Trace-clause-told c =
    let entries = first_of c.args.entries.now in
    subst (λ (t : Inspection). IfOk c.trace_history.result (λ text. text.items ≡ told t c.args.source.now c.args.image entries))
    (sym c.in-Trace.is) c.trace_history.ensures.told

pub returns-in-Why-clause-told : goal.returns-in-Why-clause-told
returns-in-Why-clause-told c =
    let entries = first_of c.args.entries.now in
    subst (λ (t : Inspection). IfOk c.why_told.result (λ text. text.items ≡ told t c.args.source.now c.args.image entries))
    (sym c.in-Why.is) c.why_told.ensures.told

pub returns-in-Page-clause-told : goal.returns-in-Page-clause-told
returns-in-Page-clause-told c =
    let entries = first_of c.args.entries.now in
    subst (λ (t : Inspection). IfOk c.page_text.result (λ text. text.items ≡ told t c.args.source.now c.args.image entries))
    (sym c.in-Page.is) c.page_text.ensures.told

pub returns-in-Picture-clause-told : goal.returns-in-Picture-clause-told
returns-in-Picture-clause-told c =
    let entries = first_of c.args.entries.now in
    subst (λ (t : Inspection). IfOk c.picture_text.result (λ text. text.items ≡ told t c.args.source.now c.args.image entries))
    (sym c.in-Picture.is) c.picture_text.ensures.told

pub returns-in_ok-trace-in-Lanes-clause-told : goal.returns-in_ok-trace-in-Lanes-clause-told
returns-in_ok-trace-in-Lanes-clause-told c =
    let entries = first_of c.args.entries.now in
    subst (λ (t : Inspection). IfOk c.lanes_told.result (λ text. text.items ≡ told t c.args.source.now c.args.image entries)) (sym c.in-Lanes.is) (
    subst (λ (trace : List ℕ). IfOk c.lanes_told.result (λ text. text.items ≡ lanes_of c.in-Lanes.columns trace))
    (c.deref.ensures.value ∙ c.in_ok-trace-in-Lanes.ensures.told) c.lanes_told.ensures.told)

pub returns-in_ok-trace-in-TraceJson-clause-told : goal.returns-in_ok-trace-in-TraceJson-clause-told
returns-in_ok-trace-in-TraceJson-clause-told c =
    let entries = first_of c.args.entries.now in
    subst (λ (t : Inspection). IfOk c.events_told.result (λ text. text.items ≡ told t c.args.source.now c.args.image entries)) (sym c.in-TraceJson.is) (
    subst (λ (trace : List ℕ). IfOk c.events_told.result (λ text. text.items ≡ events_of trace))
    (c.deref-in-TraceJson.ensures.value ∙ c.in_ok-trace-in-TraceJson.ensures.told) c.events_told.ensures.told)

pub returns-in-StateJson-clause-told : goal.returns-in-StateJson-clause-told
returns-in-StateJson-clause-told c =
    let entries = first_of c.args.entries.now in
    subst (λ (t : Inspection). IfOk c.state_objects_told.result (λ text. text.items ≡ told t c.args.source.now c.args.image entries))
    (sym c.in-StateJson.is) c.state_objects_told.ensures.told

pub returns-in-WhyJson-clause-told : goal.returns-in-WhyJson-clause-told
returns-in-WhyJson-clause-told c =
    let entries = first_of c.args.entries.now in
    subst (λ (t : Inspection). IfOk c.why_objects_told.result (λ text. text.items ≡ told t c.args.source.now c.args.image entries))
    (sym c.in-WhyJson.is) c.why_objects_told.ensures.told
