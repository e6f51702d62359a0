use Rattle.std.proofs.Common.{◌<◌, ◌∙◌, ap, length, subst, sym}
use Rattle.hep_image.proofs.Numbers.{block-inside}
use Rattle.hep_machine.specs.Words.{blocks_of, index_where, same_block}
use Rattle.std.specs.Option.{unwrap_or}
use Rattle.hep_races.proofs.BlocksNamed.{block-named}
use Rattle.hep_races.proofs.bound_names.common_place.Goals as goal

pub block_number-requires : goal.block_number-requires
block_number-requires c =
    let program = c.args.unit.now.image.now in
    let tables = c.requires.tables in
    let inside = block-inside program c.args.block (
    block-named program c.args.unit.now.symbols.now tables.among c.args.name c.args.block c.requires.held) in
    subst (λ n. n < length (blocks_of program)) (sym
    (c.index-index.ensures ∙ ap (λ bs. unwrap_or (index_where (same_block c.args.block) bs) 0)
    tables.blocks.blocks_are)) inside
