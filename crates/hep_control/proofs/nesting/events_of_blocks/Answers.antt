use Rattle.std.proofs.Common.{◌+◌, [], ◌∷◌, ◌++◌, ap, drop, ◌∙◌}
use Rattle.hep_control.specs.declared.sweep.Event.TheVariants.{Question}
use Rattle.hep_control.specs.Nesting.{question_of_block}
use Rattle.hep_control.proofs.AddedLines.{pushed}
use Rattle.hep_control.proofs.nesting.events_of_blocks.Goals as goal
use Rattle.hep_source.proofs.Tests.{drop_at}

pub loop-block-preserved : goal.loop-block-preserved
loop-block-preserved c =
    let xs = c.args.blocks.now in
    let i = c.loop-block.block-index in
    let x = c.block-item.result in
    let found = c.loop-block.events.items in
    pushed (question_of_block c.args.unit.now) found c.push.new.self.items _ x (drop i xs) (drop (i + 1) xs) c.loop-block.invariant
    (c.in_ok-push.ensures.items ∙ ap (λ e. found ++ (e ∷ [])) (c.question.ensures ∙ (λ j. Question x.start x.start (c.unwrap_or-end.ensures j) (c.line_at.ensures j))))
    (drop_at xs i x c.loop-block-test.true c.block-item.is)
