use Rattle.std.proofs.Common.{◌∙◌}
use Rattle.hep_machine.specs.Words.{run}
use Rattle.hep_cover.specs.Counts.{counted}
use Rattle.hep_cover.specs.StatementStarts.{begun}
use Rattle.hep_cover.proofs.coverage.LineCoverageObserver.tell.Goals as goal

pub returns : goal.returns
returns c at =
    let s = run c.args.image.now at.made in (
      at.known.0,
      at.known.1,
      c.count.ensures ∙ (λ i. counted ((at.noted ∙ (λ j. begun c.args.image.now (at.known.1 j) c.args.p s)) i) (at.known.2 i)),
    )
