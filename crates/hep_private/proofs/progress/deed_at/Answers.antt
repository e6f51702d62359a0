use Rattle.std.proofs.Common.{◌∙◌, ◌++◌, [], ap, arith, drop, sym}
use Rattle.std.proofs.lemmas.List.{append-nil}
use Rattle.hep_private.specs.BaseValues.{values_of}
use Rattle.hep_private.specs.StepProgress.{own_behind}
use Rattle.hep_private.proofs.Constants.{none-ahead}
use Rattle.hep_private.proofs.Steps.{found-by}
use Rattle.hep_private.proofs.progress.deed_at.Goals as goal

pub returns : goal.returns
returns c =
    let source = c.args.source.now in
    let operands = c.args.operands.now in
    let none = none-ahead (drop c.args.index source.code.now) c.requires.none in
    found-by source.private.now source.code.now (own_behind (values_of source.base) [] operands c.args.index) operands c.args.index (
      sym (ap (λ vs. operands ++ vs) none.0 ∙ append-nil operands),
      omega (arith, none.1),
    ) c.requires.few c.deed_ahead.result c.deed_ahead.ensures
