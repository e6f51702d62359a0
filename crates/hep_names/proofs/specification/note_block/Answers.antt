use Rattle.std.proofs.Common.{[], ◌∷◌, ◌+◌, ◌&&◌, is_some, refl, ◌∙◌, ap, sym, drop}
use Rattle.indexmap.specs.IndexMap.{get}
use Rattle.hep_machine.specs.Words.{name_eq, names_declared}
use Rattle.hep_names.specs.Tables.{are_new}
use Rattle.hep_names.proofs.News.{declared-turn, new-turn, one-new, seen-one}
use Rattle.hep_names.proofs.specification.note_block.Goals as goal
use Rattle.hep_source.proofs.Tests.{drop_at}

pub loop-entry-preserved : goal.loop-entry-preserved
loop-entry-preserved c =
    let ds = c.args.entries.now in
    let i = c.loop-entry.entry-index in
    let d = c.entry-item.result in
    let next = drop_at ds i d c.loop-entry-test.true c.entry-item.is in
    let old = get name_eq c.loop-entry.blocks in
    let new = get name_eq c.note_first.new.table in
    record {
      noted = λ x.
          declared-turn x c.args.block d (drop (i + 1) ds) (drop i ds) (old x) (new x) _ next (c.loop-entry.invariant.noted x) (c.in_ok-is_new.ensures.noted x);
      new =
          new-turn (d.occurrence.name ∷ []) (names_declared (drop (i + 1) ds)) c.loop-entry.are_new c.in_ok-is_new.is_new _ (λ x. is_some (old x)) (λ x. is_some (new x)) _
          (ap (λ es. c.loop-entry.are_new && are_new (λ x. is_some (old x)) (names_declared es)) (sym next) ∙ c.loop-entry.invariant.new)
          (c.in_ok-is_new.ensures.new ∙ sym (one-new d.occurrence.name (λ x. is_some (old x)))) refl
          (seen-one d.occurrence.name c.args.block old new c.in_ok-is_new.ensures.noted);
    }
