use Rattle.std.proofs.Common.{◌∙◌, ◌-◌, ap, min, length}
use Rattle.hep_replay.specs.HistoryPrefix.{first_of}
use Rattle.hep_page.proofs.PagesOfCores.{first-front}
use Rattle.hep_page.proofs.run_page.entries_before.Goals as goal

pub returns : goal.returns
returns c =
    let shown = c.args.shown.now in
    first-front shown.entries.count shown.first c.min.result shown.entries.history.now.items (
    c.min.ensures ∙ (λ i. min (c.saturating_sub.ensures i) (c.len.ensures.count i)))
