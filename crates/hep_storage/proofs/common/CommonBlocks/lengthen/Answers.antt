use Rattle.std.proofs.Common.{◌∙◌, ap, sym, Some, if◌then◌else◌}
use Rattle.std.specs.Option.{option_eq}
use Rattle.indexmap.specs.IndexMap.{get}
use Rattle.hep_machine.specs.Words.{name_eq, same_block}
use Rattle.hep_storage.specs.Lengths.{lengthened}
use Rattle.hep_storage.proofs.LengthTables.{kept-next, known-block}
use Rattle.hep_storage.proofs.common.CommonBlocks.lengthen.Goals as goal

pub returns-in_ok-set_length-clause-kept : goal.returns-in_ok-set_length-clause-kept
returns-in_ok-set_length-clause-kept c = λ b.
    let k = c.args.block in
    let old = get (option_eq name_eq) c.args.self.now.lengths in
    kept-next c.args.self.now.blocks.keys c.add_block.new.blocks.keys k b c.lengthened.result old (get (option_eq name_eq) c.set_length.new.lengths b) c.requires.kept c.in_ok-add_block.ensures
    (c.in_ok-set_length.ensures b ∙ ap (λ o. if same_block k b then Some c.lengthened.result else o) (c.if-not-is_lengthened.ensures.lengths b))

pub returns-else-not-is_lengthened-clause-kept : goal.returns-else-not-is_lengthened-clause-kept
returns-else-not-is_lengthened-clause-kept c = λ b.
    let k = c.args.block in
    let keys = c.args.self.now.blocks.keys in
    let old = get (option_eq name_eq) c.args.self.now.lengths in
    kept-next keys keys k b (lengthened (old k) c.args.unit c.args.count) old (get (option_eq name_eq) c.is_lengthened.new.lengths b) c.requires.kept
    (known-block keys k (c.requires.kept k (sym c.if-not-is_lengthened.ensures.there))) (c.if-not-is_lengthened.ensures.lengths b)
