use Rattle.std.proofs.Common.{◌+◌, ◌++◌, ◌∙◌, None, ap, drop, get_or}
use Rattle.std.proofs.lemmas.List.{drop_more}
use Rattle.hep_machine.specs.Words.{block_cells}
use Rattle.hep_names.proofs.Firsts.{grow}
use Rattle.hep_check.specs.Listing.{block_line, block_text}
use Rattle.hep_check.proofs.listing.append_blocks.Goals as goal

pub loop-block-preserved : goal.loop-block-preserved
loop-block-preserved c =
    let bs = c.blocks-block-items.result.now in
    let i = c.loop-block.block-index in
    let b = get_or bs i None in
    let found = c.loop-block.text.items in
    let program = c.in_ok-program.ensures ∙ (c.as_slice.ensures ∙ c.program.ensures) in
    let name = c.as_slice-in-loop-block.ensures ∙ c.in_ok-name.ensures in
    let cells = c.cells.ensures ∙ (c.in_ok-common.ensures.lengths b ∙ ap (λ p. block_cells p b) program) in
    grow (block_line c.args.checked.now) found c.append_block.new.text.items _ b (drop i bs) (drop (i + 1) bs) c.loop-block.invariant
    (c.in_ok-append_block.ensures ∙ (λ j. found ++ block_text (name j) (cells j)))
    (drop_more bs i None c.loop-block-test.true)
