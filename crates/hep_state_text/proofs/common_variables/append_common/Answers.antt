use Rattle.std.proofs.Common.{◌≡◌, ◌+◌, ◌<◌, ◌≤◌, ◌++◌, ◌∷◌, ◌∙◌, List, None, Some, true, ap, sym, subst, drop, length, slice_get, get_or, append-nil, arith}
use Rattle.std.specs.List.{flat_map}
use Rattle.std.proofs.lemmas.List.{drop_all, drop_more}
use Rattle.std.proofs.lemmas.Option.{slice_get-get_or}
use Rattle.hep_storage.specs.Starts.{AreBlocks}
use Rattle.hep_machine.specs.Words.{BlockName, Units, block_cells, blocks_of, common_cells, is_block_among, run}
use Rattle.hep_names.proofs.Firsts.{grow}
use Rattle.hep_state_text.specs.States as words
use Rattle.hep_state_text.proofs.Extents.{block-named}
use Rattle.hep_state_text.proofs.common_variables.append_common.Goals as goal

pub append_block-requires-clause-extent : goal.append_block-requires-clause-extent
append_block-requires-clause-extent c =
    let program = c.args.storage.now.image.now in
    let symbols = c.requires.storage.symbols in
    let list = c.blocks-block-items.result.now in
    let i = c.loop-block.block-index in
    let b = get_or list i None in
    let made = c.in_ok-blocks.ensures in
    let all : list ≡ blocks_of program = c.blocks-block-items.ensures ∙ made.blocks ∙ ap blocks_of symbols in
    let here : slice_get (blocks_of program) i ≡ Some b = ap (λ (bs : List BlockName). slice_get bs i) (sym all) ∙ slice_get-get_or list i None c.loop-block-test.true in
    let named : is_block_among b (blocks_of program) ≡ true = block-named (blocks_of program) i b here in
    let blocks : AreBlocks program c.in_ok-blocks.blocks =
    subst (λ (p : Units). AreBlocks p c.in_ok-blocks.blocks) symbols (record { blocks_are = made.blocks; lengths_are = made.lengths; bounded = made.bounded }) in
    let few : common_cells program ≤ 16777216 = omega (arith, c.common-common.ensures.common, c.common-common.ensures.few) in
    record {
      cells = c.cells.ensures ∙ made.lengths b ∙ ap (λ (p : Units). block_cells p b) symbols;
      first = c.start.ensures ∙ c.starts_are_first_cells.ensures program c.in_ok-starts.starts b few (c.in_ok-starts.ensures program blocks) named;
      named = named;
    }

pub loop-block-preserved : goal.loop-block-preserved
loop-block-preserved c cells choices h =
    let program = c.args.storage.now.image.now in
    let list = c.blocks-block-items.result.now in
    let i = c.loop-block.block-index in
    let all : list ≡ blocks_of program = c.blocks-block-items.ensures ∙ c.in_ok-blocks.ensures.blocks ∙ ap blocks_of c.requires.storage.symbols in
    let less : i < length (blocks_of program) = omega (arith, c.loop-block-test.true, ap length all) in
    grow (words.block_text program (run program choices)) c.loop-block.text.items c.append_block.new.text.items _ (get_or list i None) (drop i (blocks_of program)) (drop (i + 1) (blocks_of program)) (c.loop-block.invariant cells choices h)
    (c.in_ok-append_block.ensures cells choices h)
    (drop_more (blocks_of program) i None less ∙ ap (λ (bs : List BlockName). get_or bs i None ∷ drop (i + 1) (blocks_of program)) (sym all))

pub returns : goal.returns
returns c cells choices h =
    let program = c.args.storage.now.image.now in
    let all = c.blocks-block-items.ensures ∙ c.in_ok-blocks.ensures.blocks ∙ ap blocks_of c.requires.storage.symbols in
    let few : length (blocks_of program) ≤ c.loop-block.block-index = omega (arith, c.loop-block-test.false, ap length all) in
    sym (append-nil c.loop-block.text.items)
    ∙ ap (λ (bs : List BlockName). c.loop-block.text.items ++ flat_map (words.block_text program (run program choices)) bs) (sym (drop_all c.loop-block.block-index (blocks_of program) few))
    ∙ c.loop-block.invariant cells choices h
