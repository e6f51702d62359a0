use Rattle.std.proofs.Common.{◌≡◌, false, replicate, length, rules}
use Rattle.hep_workers.specs.Receipts.{receipts_of}
use Rattle.hep_workers.proofs.Marks.{refused, told}
use Rattle.hep_workers.proofs.report.are_entries.Goals as goal

pub returns-then-not-mark_logs : goal.returns-then-not-mark_logs
returns-then-not-mark_logs c =
    let new : c.in_ok-named.named.items ≡ replicate (length c.args.history.now.items) false = search rules in
    refused c.args.history.now.items (receipts_of c.args.logs.now) c.in_ok-named.named.items new (search rules)

pub returns : goal.returns
returns c =
    let new : c.in_ok-named.named.items ≡ replicate (length c.args.history.now.items) false = search rules in
    told c.args.history.now.items (receipts_of c.args.logs.now) c.in_ok-named.named.items new c.mark_logs.new.named.items c.all_named.result (search rules) (search rules)
