use Rattle.std.proofs.Common.{◌≡◌, ◌≤◌, drop, length, subst}
use Rattle.std.specs.Option.{option_map}
use Rattle.hep_code.specs.Words.{most_operands}
use Rattle.hep_private.specs.StepRecords.{made_ahead}
use Rattle.hep_private.specs.BaseValues.{values_of}
use Rattle.hep_private.specs.Stores.{records_among}
use Rattle.hep_private.specs.PrivateSteps.{HasSettled, made_of_deed}
use Rattle.hep_private.specs.StepProgress.{own_behind}
use Rattle.hep_private.proofs.Steps.{found-by, unsettled}
use Rattle.hep_private.proofs.progress.deed_behind.Goals as goal

pub returns-in-None : goal.returns-in-None
returns-in-None c =
    let source = c.args.source.now in
    unsettled source.private.now source.code.now (own_behind (values_of source.base) (records_among c.args.records) c.args.operands.now c.args.index) c.settle.new.operands (
    subst (λ o. HasSettled source.code.now c.args.operands.now c.args.index o c.settle.new.operands) c.in-None.is c.settle.ensures)

pub returns-in-Some : goal.returns-in-Some
returns-in-Some c =
    let source = c.args.source.now in
    let operands = c.settle.new.operands in
    let at = c.in-Some.index in
    let vs = c.as_slice.ensures.operands in
    found-by source.private.now source.code.now (own_behind (values_of source.base) (records_among c.args.records) c.args.operands.now c.args.index) operands at (
    subst (λ o. HasSettled source.code.now c.args.operands.now c.args.index o operands) c.in-Some.is c.settle.ensures)
    (subst (λ ws. length ws ≤ most_operands) vs c.as_slice.ensures.few) c.deed_ahead.result (
    subst (λ (is : Type 0). is) (λ i. option_map (made_of_deed (vs i)) c.deed_ahead.result
    ≡ made_ahead source.private.now (own_behind (values_of source.base) (records_among c.args.records) (vs i) at) (drop at source.code.now)) c.deed_ahead.ensures)
