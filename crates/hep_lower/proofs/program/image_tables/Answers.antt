use Rattle.std.proofs.Common.{◌∙◌, ap, arith, subst, sym}
use Rattle.hep_machine.specs.Words.{is_main, procedure_name, blocks_of}
use Rattle.hep_image.specs.Data.{AreInitial, AreOfUnits}
use Rattle.hep_image.specs.Names.{AreNames}
use Rattle.hep_lower.proofs.BlocksBegun.{begun-are}
use Rattle.hep_lower.proofs.RefusalReasons.{image-is}
use Rattle.hep_lower.proofs.program.image_tables.Goals as goal
use Rattle.hep_source.proofs.Tests.{index-below}

pub overflow_cast-result : goal.overflow_cast-result
overflow_cast-result c =
    omega (arith, index-below (λ unit. is_main (procedure_name unit)) c.args.checked.now c.args.main c.requires.main, c.requires.few)

pub names_in_order-requires-clause-blocks : goal.names_in_order-requires-clause-blocks
names_in_order-requires-clause-blocks c =
    let source = c.as_slice-source.ensures ∙ c.program.ensures in
    c.blocks-2.ensures ∙ (c.requires.blocks.blocks_are ∙ ap blocks_of (sym source))

pub returns : goal.returns
returns c =
    let program = c.args.checked.now in
    let source = c.as_slice-source.ensures ∙ c.program.ensures in
    let names = c.in_ok-names.names in
    let begun = begun-are program c.args.blocks.now c.args.common.now c.requires.blocks.blocks_are c.from-3.result c.requires.starts c.requires.small_common (c.from-3.ensures ∙ c.in_ok-starts.ensures) in
    image-is program c.args.lowered.units c.requires.units c.requires.small_common c.requires.small_frames c.is_accepted.ensures c.requires.shallow
    c.from.result c.args.main c.cells.result c.from-2.result names c.from-3.result c.from.ensures c.requires.main (c.cells.ensures.common program c.requires.starts)
    (subst (AreInitial program) (sym c.from-2.ensures) c.requires.rows.initial) (subst (AreOfUnits program) (sym c.from-2.ensures) c.requires.rows.of_units)
    (subst (λ us. AreNames us names) source c.in_ok-names.ensures) begun
