use Rattle.std.proofs.Common.{◌≤◌, ◌+◌, ◌&&◌, ◌||◌, is_some, refl, ◌∙◌, ap, sym, length, drop, arith}
use Rattle.std.proofs.lemmas.List.{drop_all}
use Rattle.std.specs.Option.{option_or}
use Rattle.indexmap.specs.IndexMap.{get}
use Rattle.hep_machine.specs.Words.{is_among, name_eq, block_holding, blocks_in, entries_of_blocks, names_declared}
use Rattle.hep_names.specs.Tables as tables
use Rattle.hep_names.proofs.News.{new-turn, seen-held}
use Rattle.hep_names.proofs.Notes.{or-assoc, or-none}
use Rattle.hep_names.proofs.specification.common_names.Goals as goal
use Rattle.hep_source.proofs.Tests.{drop_at, and-true}

pub loop-statement-preserved : goal.loop-statement-preserved
loop-statement-preserved c =
    let ss = c.args.unit.now in
    let i = c.loop-statement.statement-index in
    let s = c.statement-item.result in
    let rest = drop (i + 1) ss in
    let next = drop_at ss i s c.loop-statement-test.true c.statement-item.is in
    let old = get name_eq c.loop-statement.blocks.map in
    let new = get name_eq c.note_blocks.new.blocks in
    let named = c.blocks_in.result.now in
    record {
      noted = λ x.
          ap (λ o. option_or o (tables.first_in (tables.block_by_form x) rest)) (c.in_ok-are_new.ensures.noted x ∙ ap (λ bs. option_or (old x) (block_holding x bs)) c.blocks_in.ensures)
          ∙ (or-assoc (old x) (tables.block_by_form x s.form) (tables.first_in (tables.block_by_form x) rest)
          ∙ (ap (λ us. option_or (old x) (tables.first_in (tables.block_by_form x) us)) (sym next) ∙ c.loop-statement.invariant.noted x));
      new =
          new-turn (names_declared (entries_of_blocks (blocks_in s.form))) (tables.names_in_common rest) c.loop-statement.are_once c.in_ok-are_new.are_new _ (λ x. is_some (old x)) (λ x. is_some (new x)) _
          (ap (λ us. c.loop-statement.are_once && tables.are_new (λ x. is_some (old x)) (tables.names_in_common us)) (sym next) ∙ c.loop-statement.invariant.new)
          (c.in_ok-are_new.ensures.new ∙ ap (λ bs. tables.are_new (λ x. is_some (old x)) (names_declared (entries_of_blocks bs))) c.blocks_in.ensures) refl
          (λ x. seen-held named old new c.in_ok-are_new.ensures.noted x ∙ ap (λ bs. is_among x (names_declared (entries_of_blocks bs)) || is_some (old x)) c.blocks_in.ensures);
    }

pub returns-clause-blocks : goal.returns-clause-blocks
returns-clause-blocks c = λ x.
    let e = c.loop-statement-test.false in
    let k : length c.args.unit.now ≤ c.loop-statement.statement-index = omega arith in
    let found = get name_eq c.loop-statement.blocks.map x in
    sym (or-none found)
    ∙ (ap (λ ss. option_or found (tables.first_in (tables.block_by_form x) ss)) (sym (drop_all c.loop-statement.statement-index c.args.unit.now k)) ∙ c.loop-statement.invariant.noted x)

pub returns-clause-once : goal.returns-clause-once
returns-clause-once c =
    let e = c.loop-statement-test.false in
    let k : length c.args.unit.now ≤ c.loop-statement.statement-index = omega arith in
    let seen = get name_eq c.loop-statement.blocks.map in
    sym (and-true c.loop-statement.are_once)
    ∙ (ap (λ ss. c.loop-statement.are_once && tables.are_new (λ x. is_some (seen x)) (tables.names_in_common ss)) (sym (drop_all c.loop-statement.statement-index c.args.unit.now k)) ∙ c.loop-statement.invariant.new)
