use Rattle.std.proofs.Common.{◌≤◌, ◌+◌, ◌∙◌, None, get_or, drop, length, arith}
use Rattle.std.proofs.lemmas.List.{drop_more}
use Rattle.hep_storage.proofs.Beginnings.{begun-first, begun-next, begun-all}
use Rattle.hep_storage.proofs.starts.CommonStarts.of_blocks.Goals as goal

pub loop-block-init : goal.loop-block-init
loop-block-init c = λ program h. begun-first program c.new-starts.result c.blocks-block-items.result.now (c.blocks-block-items.ensures ∙ h.blocks_are) c.new-starts.ensures.cells

pub loop-block-preserved : goal.loop-block-preserved
loop-block-preserved c = λ program h.
    let bs = c.blocks-block-items.result.now in
    let i = c.loop-block.block-index in
    begun-next program c.loop-block.starts c.add.new.self (get_or bs i None) c.cells.result (drop i bs) (drop (i + 1) bs) (c.loop-block.invariant program h) (drop_more bs i None c.loop-block-test.true)
    (c.cells.ensures ∙ h.lengths_are (get_or bs i None)) c.in_ok-add.ensures.cells c.in_ok-add.ensures.starts

pub returns : goal.returns
returns c = λ program h.
    let bs = c.blocks-block-items.result.now in
    let k : length bs ≤ c.loop-block.block-index = omega arith in
    begun-all program c.loop-block.starts c.loop-block.block-index bs k (c.loop-block.invariant program h)
