use Rattle.std.proofs.Common.{inl}
use Rattle.std.proofs.KnownBytes.{Keeps-refl}
use Rattle.hep_run.specs.Diagnostics.{IsDiagnosticsOutcome}
use Rattle.hep_run.proofs.Fronts.{read_left}
use Rattle.hep_run.proofs.DiagnosedRefusals.{same_lines}
use Rattle.hep_run.proofs.Outcomes.{made_left}
use Rattle.hep_run.proofs.diagnostics.diagnostics_source.Goals as goal

pub returns-in-Ok : goal.returns-in-Ok
returns-in-Ok g c =
    let asked = c.args.asked.now in
    let is = IsDiagnosticsOutcome asked.format asked.warn asked.file.now in
    read_left is (same_lines asked.format asked.file.now asked.warn) _ _
    c.in-Ok.bytes.items _ c.deliver_made.result _ _ _ _ c.deref.ensures.value c.in-Ok.ensures.first c.in-Ok.ensures.all (
    made_left (is c.deref.result.now) c.diagnostics_transcript-made.result _ _ _ _ _ c.diagnostics_transcript-made.ensures c.deliver_made.ensures)

pub returns-in-Err : goal.returns-in-Err
returns-in-Err g c = inl (Keeps-refl _, c.new.ensures.items, (c.in-Err.ensures.lost, _, c.say_unread.ensures))
