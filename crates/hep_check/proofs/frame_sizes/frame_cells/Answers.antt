use Rattle.std.proofs.Common.{ap, ◌∙◌}
use Rattle.hep_machine.specs.Words.{cells_of_all, do_statements}
use Rattle.hep_check.proofs.FrameSizes.{frame, dummies-counted}
use Rattle.hep_check.proofs.frame_sizes.frame_cells.Goals as goal

pub returns : goal.returns
returns c =
    let unit = c.args.symbols.now in
    frame unit _ _ _ _ (dummies-counted unit c.dummies.result.now c.dummies.ensures) (c.in_ok-locals.ensures.counted ∙ ap (cells_of_all unit) c.locals.ensures)
    (c.do_statements-loops.ensures ∙ ap do_statements c.statements.ensures) c.in_ok-dimensions.ensures.counted
