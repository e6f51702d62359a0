use Rattle.std.proofs.Common.{◌+◌, [], ◌∷◌, ◌++◌, add-one, ap, drop, ◌∙◌}
use Rattle.hep_control.specs.Jumps.{question_by_start}
use Rattle.hep_control.specs.declared.sweep.Event.TheVariants.{Question}
use Rattle.hep_control.proofs.AddedLines.{pushed}
use Rattle.hep_control.proofs.labels.events_by_start.Goals as goal
use Rattle.hep_source.proofs.Tests.{drop_at}

pub loop-jump-preserved : goal.loop-jump-preserved
loop-jump-preserved c =
    let xs = c.args.jumps.now in
    let i = c.loop-jump.jump-index in
    let x = c.jump-item.result in
    let found = c.loop-jump.events.items in
    pushed question_by_start found c.push.new.self.items _ x (drop i xs) (drop (i + 1) xs) c.loop-jump.invariant
    (c.in_ok-push.ensures.items ∙ ap (λ e. found ++ (e ∷ [])) (c.question.ensures ∙ (λ j. Question x.to (add-one x.to j) (add-one x.from j) x.line)))
    (drop_at xs i x c.loop-jump-test.true c.jump-item.is)
