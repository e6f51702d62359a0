use Rattle.std.proofs.Common.{◌∙◌, [], ap, arith, subst, sym}
use Rattle.hep_fold.specs.declared.history_range.HistoryRange.{HistoryRange}
use Rattle.hep_fold.specs.Folds.{CanBeMade}
use Rattle.hep_machine.specs.Words.{Units}
use Rattle.hep_diff.specs.ProcessSteps as words
use Rattle.hep_diff.specs.StepLogs.{kept_of}
use Rattle.hep_why.proofs.ReplayedRanges.{can-be-made}
use Rattle.hep_diff.proofs.StepLogs.{steps-behind}
use Rattle.hep_diff.proofs.logged_replay.deeds_behind.Goals as goal

pub fold_history-requires-clause-size : goal.fold_history-requires-clause-size
fold_history-requires-clause-size c =
    (omega (arith, c.requires.replayed.some, c.cells-cells.ensures), omega (arith, c.requires.replayed.few, c.cells-cells.ensures))

pub fold_history-requires-clause-possible : goal.fold_history-requires-clause-possible
fold_history-requires-clause-possible c =
    let core = c.args.core.now.core in
    let range : HistoryRange = record { history = c.args.entries; start = c.args.front; end = c.len-end.result } in
    subst (λ (us : Units). CanBeMade us c.cells-cells.result range) (sym c.image-image.ensures) (
    subst (λ n. CanBeMade core.program n range) (sym c.cells-cells.ensures) (
    can-be-made core range c.requires.replayed c.headline.ensures.legal c.requires.few c.len-end.ensures.count))

pub fold_history-requires-clause-known : goal.fold_history-requires-clause-known
fold_history-requires-clause-known c = (λ q. [], λ q. ap (λ rows. kept_of rows q) c.new-logs.ensures.items)

pub returns : goal.returns
returns c q =
    let range : HistoryRange = record { history = c.args.entries; start = c.args.front; end = c.len-end.result } in
    c.in_ok-fold_history.ensures.seen (λ p. []) (λ p. ap (λ rows. kept_of rows p) c.new-logs.ensures.items) q
    ∙ steps-behind c.image-image.result.now range q c.len-end.ensures.count
    ∙ ap (λ (us : Units). words.deeds_behind us c.args.front c.args.entries.now.items q) c.image-image.ensures
