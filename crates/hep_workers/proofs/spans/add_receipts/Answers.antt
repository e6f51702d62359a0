use Rattle.std.proofs.Common.{◌≡◌, ◌-◌, ◌++◌, length, min, ap, ◌∙◌, arith}
use Rattle.hep_workers.proofs.GrowingHistories.{receipts_in-cut}
use Rattle.hep_workers.proofs.spans.add_receipts.Goals as goal

pub returns-clause-items : goal.returns-clause-items
returns-clause-items c =
    let h = c.args.finder.now in
    let past = c.loop-past.past in
    let cut : past ≡ min c.args.span.count (length h - c.args.span.first) = omega (arith, c.loop-past-test.false, c.loop-past.auto.past-end, c.min-count.ensures, c.saturating_sub.ensures, c.len.ensures.count) in
    c.loop-past.invariant.items ∙ ap (λ rs. c.args.receipts.now.items ++ rs) (receipts_in-cut h c.args.worker c.args.span.first c.args.span.count past cut)
