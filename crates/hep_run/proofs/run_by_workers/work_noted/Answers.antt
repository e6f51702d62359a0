use Rattle.std.proofs.Common.{inl}
use Rattle.std.proofs.KnownBytes.{Keeps-refl}
use Rattle.hep_run.specs.Sources.{IsRefusedProgram, IsRunnable}
use Rattle.hep_run.specs.Workers.{IsImageWorked, IsWorkOutcome}
use Rattle.hep_run.proofs.Fronts.{read_left, same_outcome}
use Rattle.hep_run.proofs.LargeSources.{large-left, large-source}
use Rattle.hep_run.proofs.Outcomes.{made_left}
use Rattle.hep_run.proofs.run_by_workers.work_noted.Goals as goal

pub returns-in-Ok-clause-left : goal.returns-in-Ok-clause-left
returns-in-Ok-clause-left g c =
    let long = c.args.asked.now.long in
    let options = c.args.asked.now.options.now.options.now in
    read_left (IsWorkOutcome long options) (same_outcome long IsRefusedProgram IsRunnable (λ source program. IsImageWorked long program options)) _ _
    c.in-Ok.bytes.items _ c.deliver_made.result _ _ _ _ c.deref.ensures.value c.in-Ok.ensures.first c.in-Ok.ensures.all (
    made_left (IsWorkOutcome long options c.deref.result.now) c.work_transcript-made.result _ _ _ _ _
    c.work_transcript-made.ensures.made c.deliver_made.ensures)

pub returns-in-Err-clause-left : goal.returns-in-Err-clause-left
returns-in-Err-clause-left g c = inl (Keeps-refl _, c.new.ensures.items, (c.in-Err.ensures.lost, _, c.say_unread.ensures))

pub returns-in-Ok-clause-large : goal.returns-in-Ok-clause-large
returns-in-Ok-clause-large g c =
    let long = c.args.asked.now.long in
    let options = c.args.asked.now.options.now.options.now in
    large-source long _ _ c.in-Ok.bytes.items c.deref.result.now _ _ _ _ _ c.deref.ensures.value c.in-Ok.ensures.first c.in-Ok.ensures.all (
    large-left long IsRefusedProgram IsRunnable (λ program. IsImageWorked long program options) c.deref.result.now
    c.work_transcript-made.result _ _ _ _ _ c.work_transcript-made.ensures.made c.work_transcript-made.ensures.unmade c.deliver_made.ensures)

pub returns-in-Err-clause-large : goal.returns-in-Err-clause-large
returns-in-Err-clause-large g c = λ short large. inl (Keeps-refl _, (c.in-Err.ensures.lost, _, c.say_unread.ensures))
