use Rattle.std.proofs.Common.{◌+◌, drop}
use Rattle.hep_explore.specs.Contents.{cells_from}
use Rattle.hep_explore.specs.Keys.{slot_words}
use Rattle.hep_explore.proofs.KeyLists.{appended, cell-next}
use Rattle.hep_explore.proofs.key_parts.append_cells.Goals as goal

pub get-requires-clause-out : goal.get-requires-clause-out
get-requires-clause-out c = c.requires.out c.loop-index.index c.loop-index-test.true

pub loop-index-preserved : goal.loop-index-preserved
loop-index-preserved c =
    let contents = c.args.frames.now.arena.contents in
    let cells = cells_from contents c.args.first c.args.count in
    let at = c.loop-index.index in
    let next = cell-next contents c.args.first c.args.count at c.get.result c.requires.inside c.loop-index-test.true c.get.ensures.slot in
    appended slot_words _ c.loop-index.words.items c.append_slot.new.words.items cells (drop at cells) (drop (at + 1) cells)
    c.get.result next c.loop-index.invariant c.in_ok-append_slot.ensures
