use Rattle.std.proofs.Common.{◌∙◌, ap, min, sym}
use Rattle.std.proofs.lemmas.List.{length-take}
use Rattle.hep_replay.proofs.history_prefix.HistoryPrefix.len.Goals as goal

pub returns-clause-count : goal.returns-clause-count
returns-clause-count c =
    let first = c.args.self.now in
    c.min.ensures ∙ ap (λ n. min first.count n) c.len.ensures.count ∙ sym (length-take first.count first.history.now.items)
