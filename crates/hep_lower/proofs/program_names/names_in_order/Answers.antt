use Rattle.std.proofs.Common.{◌++◌, ap, length, map, ◌∙◌}
use Rattle.std.specs.List.{flat_map}
use Rattle.hep_machine.specs.Words.{unit_name, block_spelling}
use Rattle.hep_image.specs.Names.{spellings_of}
use Rattle.hep_lower.specs.Numbers.{numbers_from}
use Rattle.hep_lower.proofs.Numbers.{names-are}
use Rattle.hep_lower.proofs.program_names.names_in_order.Goals as goal

pub returns : goal.returns
returns c =
    let program = c.args.list.now in
    let units = c.add_unit_names.new.names.items in
    let variables = c.add_variables.new.names.items in
    let same = c.units.ensures ∙ c.requires.program in
    names-are program (record { spelled = c.from.result; variables = c.from-2.result; blocks = c.in_ok-first_block.first_block }) units variables c.add_blocks.new.names.items
    (c.in_ok-add_unit_names.ensures ∙ ap (λ ns. ns ++ map unit_name program) c.in_ok-names.ensures.items)
    (c.in_ok-variables.ensures.names ∙ ap (λ us. units ++ flat_map spellings_of us) same)
    (c.in_ok-add_blocks.ensures ∙ ap (λ bs. variables ++ map block_spelling bs) c.requires.blocks) c.from.ensures
    (c.from-2.ensures ∙ (c.in_ok-variables.ensures.numbers ∙ ap (numbers_from (length units)) same)) c.in_ok-first_block.ensures.number c.in_ok-next_number.ensures.few
