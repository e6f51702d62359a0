use Rattle.std.proofs.Common.{◌∙◌, refl, ap, arith, subst, sym}
use Rattle.hep_fold.specs.declared.history_range.HistoryRange.{HistoryRange}
use Rattle.hep_fold.specs.Folds.{CanBeMade, entries_before, turns_within}
use Rattle.hep_fold.proofs.Folding.{seen-whole}
use Rattle.hep_machine.specs.Words.{Units, run, schedule_of}
use Rattle.hep_cover.specs.Counts.{counted_after}
use Rattle.hep_cover.specs.Coverage.{counted_in}
use Rattle.hep_cover.specs.StartMarks.{AreMarks}
use Rattle.hep_cover.proofs.CountedSteps.{counts-along}
use Rattle.hep_why.proofs.ReplayedRanges.{all-entries, can-be-made}
use Rattle.hep_cover.proofs.coverage.count_history.Goals as goal

pub fold_history-requires-clause-size : goal.fold_history-requires-clause-size
fold_history-requires-clause-size c =
    (omega (arith, c.requires.some, c.cells-cells.ensures), omega (arith, c.requires.few, c.cells-cells.ensures))

pub fold_history-requires-clause-possible : goal.fold_history-requires-clause-possible
fold_history-requires-clause-possible c =
    let core = c.args.core.now.core in
    let range : HistoryRange = record { history = c.args.entries; start = 0; end = c.len-end.result } in
    subst (λ (us : Units). CanBeMade us c.cells-cells.result range) (sym c.image-image.ensures) (
    subst (λ n. CanBeMade core.program n range) (sym c.cells-cells.ensures) (
    can-be-made core range c.requires c.headline.ensures.legal (omega arith) c.len-end.ensures.count))

pub fold_history-requires-clause-known : goal.fold_history-requires-clause-known
fold_history-requires-clause-known c = (
  (c.args.operations.now, c.args.counts.now.items),
  (
    subst (AreMarks c.image-image.result.now c.args.operations.now) (sym c.deref.ensures.value) c.in_ok-marks.ensures,
    refl,
    (λ i. (c.replace-before.ensures.value i).items),
  ),
)

pub returns : goal.returns
returns c =
    let program = c.image-image.result.now in
    let operations = c.args.operations.now in
    let counts = c.args.counts.now.items in
    let entries = c.args.entries.now.items in
    let range : HistoryRange = record { history = c.args.entries; start = 0; end = c.len-end.result } in
    let marks = subst (AreMarks program operations) (sym c.deref.ensures.value) c.in_ok-marks.ensures in
    let known = c.in_ok-fold_history.ensures.seen (operations, counts) (marks, refl, (λ i. (c.replace-before.ensures.value i).items)) in
    known.2
    ∙ counts-along program operations (run program (schedule_of (entries_before range))) (turns_within range) counts
    ∙ seen-whole program (counted_after program operations) range entries counts refl (all-entries range c.len-end.ensures.count)
    ∙ ap (λ (us : Units). counted_in us operations entries counts) c.image-image.ensures
