use Rattle.std.proofs.Common.{◌∙◌, ap, length, subst, take}
use Rattle.hep_private.specs.BaseValues.{values_of}
use Rattle.hep_private.specs.StepProgress.{HasFound, own_of}
use Rattle.hep_private.specs.declared.progress.StepProgress.{StepProgress}
use Rattle.hep_private.proofs.Steps.{found-then, none-found}
use Rattle.hep_private.proofs.progress.advance.Goals as goal

pub returns-in-None : goal.returns-in-None
returns-in-None c =
    let source = c.args.source.now in
    let p = c.args.progress.now in
    let found = c.next_deed.new.progress in
    let after : StepProgress = record { records = found.records; operands = c.truncate.new.self; index = found.index } in
    none-found source.private.now source.code.now (values_of source.base) p found.operands after (
    subst (λ o. HasFound source.private.now source.code.now (own_of (values_of source.base) p) o found.operands) c.in-None.is c.next_deed.ensures.found)
    c.next_deed.ensures.records c.next_deed.ensures.index (c.truncate.ensures ∙ ap (λ vs. take (length vs) found.operands) c.as_slice-kept.ensures.operands)

pub returns-in-Some : goal.returns-in-Some
returns-in-Some c =
    let source = c.args.source.now in
    let p = c.args.progress.now in
    let found = c.next_deed.new.progress in
    found-then source.private.now source.code.now (values_of source.base) p c.in-Some.deed found (
    subst (λ o. HasFound source.private.now source.code.now (own_of (values_of source.base) p) o found.operands) c.in-Some.is c.next_deed.ensures.found)
    c.next_deed.ensures.records c.next_deed.ensures.index (length c.as_slice-kept.result.now) c.make.result c.make.new.progress (ap length c.as_slice-kept.ensures.operands) c.make.ensures
