use Rattle.std.proofs.Common.{◌+◌, ◌++◌, ◌∙◌, ap, sym, drop}
use Rattle.hep_machine.specs.Words.{entries_of_blocks}
use Rattle.hep_names.specs.Statements.{rest_after}
use Rattle.hep_names.specs.Tables.{arrays_among}
use Rattle.hep_names.proofs.ArraysAmong.{arrays-turn}
use Rattle.hep_names.proofs.specification.add_entries.Goals as goal
use Rattle.hep_source.proofs.Tests.{drop_at}

pub loop-block-preserved : goal.loop-block-preserved
loop-block-preserved c =
    let bs = c.args.blocks.now in
    let i = c.loop-block.block-index in
    let b = c.block-item.result in
    let rest = entries_of_blocks (drop (i + 1) bs) in
    let found = rest_after c.loop-block.found.items in
    ap (λ more. more ++ arrays_among rest) (c.in_ok-add_each.ensures ∙ ap (λ ds. found ++ arrays_among ds) c.as_slice.ensures)
    ∙ (arrays-turn found b.entries rest
    ∙ (ap (λ more. found ++ arrays_among (entries_of_blocks more)) (sym (drop_at bs i b c.loop-block-test.true c.block-item.is)) ∙ c.loop-block.invariant))
