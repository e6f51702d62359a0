use Rattle.std.proofs.Common.{◌≡◌, ◌+◌, None, Some, drop, ap, sym, ◌∙◌, rules, option_and_then}
use Rattle.hep_workers.specs.ReceiptMarks.{marked}
use Rattle.hep_workers.specs.Receipts.{receipts_of}
use Rattle.hep_workers.proofs.Marks.{next-log}
use Rattle.hep_workers.proofs.report.mark_logs.Goals as goal

pub returns-then-not-mark_log : goal.returns-then-not-mark_log
returns-then-not-mark_log c =
    let h = c.args.history.now.items in
    let log = c.log-item.result in
    let rest = receipts_of (drop (c.loop-log.log-index + 1) c.args.logs.now) in
    let here : marked h c.loop-log.named.items log ≡ None = search rules in
    sym c.loop-log.invariant ∙ next-log h c.loop-log.named.items c.args.logs.now c.loop-log.log-index log c.loop-log-test.true c.log-item.is ∙ ap (option_and_then (λ u. marked h u rest)) here

pub loop-log-preserved : goal.loop-log-preserved
loop-log-preserved c =
    let h = c.args.history.now.items in
    let log = c.log-item.result in
    let rest = receipts_of (drop (c.loop-log.log-index + 1) c.args.logs.now) in
    let here : marked h c.loop-log.named.items log ≡ Some c.mark_log.new.named.items = search rules in
    sym (sym c.loop-log.invariant ∙ next-log h c.loop-log.named.items c.args.logs.now c.loop-log.log-index log c.loop-log-test.true c.log-item.is ∙ ap (option_and_then (λ u. marked h u rest)) here)
