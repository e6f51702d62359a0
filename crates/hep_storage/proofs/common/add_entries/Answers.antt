use Rattle.std.proofs.Common.{◌+◌, ◌++◌, ◌∙◌, ap, drop}
use Rattle.hep_storage.specs.Lengths.{entries_in_lists}
use Rattle.hep_storage.proofs.Entries.{entries-turn}
use Rattle.hep_storage.proofs.common.add_entries.Goals as goal
use Rattle.hep_source.proofs.Tests.{drop_at}

pub loop-statement-preserved : goal.loop-statement-preserved
loop-statement-preserved c =
    let ss = c.args.statements.now in
    let i = c.loop-statement.statement-index in
    let found = c.loop-statement.entries.items in
    entries-turn found c.add_lists.new.entries.items _ c.statement-item.result (drop i ss) (drop (i + 1) ss) c.loop-statement.invariant
    (c.in_ok-add_lists.ensures ∙ ap (λ cs. found ++ entries_in_lists cs) c.blocks_in.ensures)
    (drop_at ss i c.statement-item.result c.loop-statement-test.true c.statement-item.is)
