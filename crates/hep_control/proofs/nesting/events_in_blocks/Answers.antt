use Rattle.std.proofs.Common.{◌+◌, [], ◌∷◌, ◌++◌, add-one, ap, drop, ◌∙◌}
use Rattle.hep_control.specs.declared.sweep.Event.TheVariants.{Question}
use Rattle.hep_control.specs.Nesting.{question_in_range}
use Rattle.hep_control.proofs.AddedLines.{pushed}
use Rattle.hep_control.proofs.nesting.events_in_blocks.Goals as goal
use Rattle.hep_source.proofs.Tests.{drop_at}

pub loop-range-preserved : goal.loop-range-preserved
loop-range-preserved c =
    let xs = c.args.ranges.now in
    let i = c.loop-range.range-index in
    let x = c.range-item.result in
    let found = c.loop-range.events.items in
    pushed (question_in_range c.args.unit.now) found c.push.new.self.items _ x (drop i xs) (drop (i + 1) xs) c.loop-range.invariant
    (c.in_ok-push.ensures.items ∙ ap (λ e. found ++ (e ∷ [])) (c.question.ensures ∙ (λ j. Question x.start (add-one x.start j) (add-one x.terminal j) (c.line_at.ensures j))))
    (drop_at xs i x c.loop-range-test.true c.range-item.is)
