use Rattle.std.proofs.Common.{◌∙◌, subst, sym}
use Rattle.hep_fold.specs.Turns.{seen_along, turns_in_row}
use Rattle.hep_machine.specs.Words.{run}
use Rattle.hep_cover.specs.Counts.{counts_after}
use Rattle.hep_cover.specs.StartMarks.{AreMarks}
use Rattle.hep_cover.proofs.CountedSteps.{counts-along, operations-kept}
use Rattle.hep_cover.proofs.coverage.LineCoverageObserver.go_on.Goals as goal

pub count_on-requires-clause-marks : goal.count_on-requires-clause-marks
count_on-requires-clause-marks c =
    let known = c.requires.ahead.known in
    subst (λ os. AreMarks c.args.tabled.now.image.now os c.args.self.now.marks.now) (sym known.1) known.0

pub returns-clause-seen : goal.returns-clause-seen
returns-clause-seen c at =
    let program = c.args.tabled.now.image.now in
    let row = c.args.row in
    let s = run program at.made in
    let turns = turns_in_row row.apart row.entry row.process c.count_on.result in
    let operations = c.args.self.now.operations.now in
    let kept = operations-kept program operations s turns at.seen in (
      subst (λ os. AreMarks program os c.args.self.now.marks.now) (sym kept) at.known.0,
      at.known.1 ∙ sym kept,
      c.count_on.ensures.counted at.replay.cells at.made at.under_way.after row.apart row.entry
          ∙ sym (counts-along program operations s turns c.args.self.now.counts.items)
          ∙ (λ i. (seen_along program (counts_after program) s turns (at.known.1 i, at.known.2 i)).1),
    )
