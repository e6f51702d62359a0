use Rattle.std.proofs.Common.{◌+◌, ◌&&◌, ◌||◌, is_some, refl, ◌∙◌, ap, sym, drop}
use Rattle.indexmap.specs.IndexMap.{get}
use Rattle.hep_machine.specs.Words.{is_among, name_eq, entries_of_blocks, names_declared}
use Rattle.hep_names.specs.Tables.{are_new}
use Rattle.hep_names.proofs.News.{declared-append, holding-turn, new-turn, seen-declared}
use Rattle.hep_names.proofs.specification.note_blocks.Goals as goal
use Rattle.hep_source.proofs.Tests.{drop_at}

pub loop-block-preserved : goal.loop-block-preserved
loop-block-preserved c =
    let bs = c.args.named.now in
    let i = c.loop-block.block-index in
    let b = c.block-item.result in
    let rest = drop (i + 1) bs in
    let next = drop_at bs i b c.loop-block-test.true c.block-item.is in
    let old = get name_eq c.loop-block.blocks in
    let new = get name_eq c.note_block.new.blocks in
    record {
      noted = λ x.
          holding-turn x c.block_of.result b c.as_slice.result.now rest (drop i bs) (old x) (new x) _ c.block_of.ensures c.as_slice.ensures next (c.loop-block.invariant.noted x) (c.in_ok-is_new.ensures.noted x);
      new =
          new-turn (names_declared b.entries) (names_declared (entries_of_blocks rest)) c.loop-block.are_new c.in_ok-is_new.is_new _ (λ x. is_some (old x)) (λ x. is_some (new x)) _
          (ap (λ ns. c.loop-block.are_new && are_new (λ x. is_some (old x)) ns) (sym (ap (λ cs. names_declared (entries_of_blocks cs)) next ∙ declared-append b.entries (entries_of_blocks rest))) ∙ c.loop-block.invariant.new)
          (c.in_ok-is_new.ensures.new ∙ ap (λ ds. are_new (λ x. is_some (old x)) (names_declared ds)) c.as_slice.ensures) refl
          (λ x. seen-declared c.block_of.result c.as_slice.result.now old new c.in_ok-is_new.ensures.noted x ∙ ap (λ ds. is_among x (names_declared ds) || is_some (old x)) c.as_slice.ensures);
    }
