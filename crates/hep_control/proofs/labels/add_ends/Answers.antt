use Rattle.std.proofs.Common.{◌+◌, [], ◌∷◌, ◌++◌, ap, drop, ◌∙◌}
use Rattle.hep_control.specs.Jumps.{value_by_end}
use Rattle.hep_control.proofs.AddedLines.{pushed}
use Rattle.hep_control.proofs.labels.add_ends.Goals as goal
use Rattle.hep_source.proofs.Tests.{drop_at}

pub loop-region-preserved : goal.loop-region-preserved
loop-region-preserved c =
    let xs = c.args.regions.now in
    let i = c.loop-region.region-index in
    let x = c.region-item.result in
    let found = c.loop-region.events.items in
    pushed value_by_end found c.push.new.self.items _ x (drop i xs) (drop (i + 1) xs) c.loop-region.invariant
    (c.in_ok-push.ensures.items ∙ ap (λ e. found ++ (e ∷ [])) c.value.ensures)
    (drop_at xs i x c.loop-region-test.true c.region-item.is)
