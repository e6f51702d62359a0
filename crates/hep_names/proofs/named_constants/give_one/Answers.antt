use Rattle.std.proofs.Common.{◌∙◌, sym}
use Rattle.hep_machine.specs.Words.{value_among, value_of}
use Rattle.hep_names.proofs.ConstantsInOrder.{added-here}
use Rattle.hep_names.proofs.named_constants.give_one.Goals as goal
use Rattle.std.proofs.lemmas.Result.{on_ok_weaker}

pub returns-in-Some : goal.returns-in-Some
returns-in-Some c =
    let k = c.args.constants.now in
    let x = c.args.constant.now.occurrence.name in
    on_ok_weaker c.add.result
    (added-here k c.add.new.self x c.in-Some.value (value_of c.args.table.now (value_among k) c.args.constant.now.value) (sym c.in_ok-value.ensures ∙ c.in-Some.is)) c.add.ensures
