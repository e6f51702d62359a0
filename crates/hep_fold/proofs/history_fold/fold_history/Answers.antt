use Rattle.std.proofs.Common.{◌++◌, subst, sym}
use Rattle.hep_fast.specs.declared.decoded_image.DecodedImage.{DecodedImage}
use Rattle.hep_fast.specs.DecodedImages.{AreTables}
use Rattle.hep_machine.specs.Words.{run}
use Rattle.hep_fold.specs.Folds.{IsAtStart, entries_before, replay_of, turns_within}
use Rattle.hep_fold.specs.ReplayMachines.{made_by}
use Rattle.hep_fold.specs.Turns.{turns_from}
use Rattle.hep_fold.specs.Unobserved.{knows_nothing, sees_nothing}
use Rattle.hep_fold.proofs.Beginnings.{folding-begins, start-reached, total_of}
use Rattle.hep_fold.proofs.history_fold.fold_history.Goals as goal

pub open-requires-clause-some : goal.open-requires-clause-some
open-requires-clause-some g c = c.requires.size.0

pub open-requires-clause-few : goal.open-requires-clause-few
open-requires-clause-few g c = c.requires.size.1

pub make_range-requires-clause-ahead : goal.make_range-requires-clause-ahead
make_range-requires-clause-ahead g c =
    let range = c.args.range.now in
    let program = c.args.image.now in
    let opened = c.in_ok-again.ensures in
    let tabled : DecodedImage = record { image = c.args.image; tables = c.deref.result } in (
      replay_of c.args.cells range,
      total_of sees_nothing program (run program (made_by c.in_ok-again.again))
          (turns_from 1 (entries_before range) ++ turns_within range) tt,
      turns_within range,
      folding-begins knows_nothing sees_nothing tabled c.args.cells range c.requires.possible c.in_ok-again.again _ tt
          (subst (AreTables program) (sym c.deref.ensures.value) c.in_ok-tables.ensures) opened.begun opened.opened opened.room tt,
    )

pub fold_range-requires : goal.fold_range-requires
fold_range-requires g c =
    let opened = c.in_ok-again.ensures in
    let tabled : DecodedImage = record { image = c.args.image; tables = c.deref.result } in
    let tables = subst (AreTables c.args.image.now) (sym c.deref.ensures.value) c.in_ok-tables.ensures in
    let start : IsAtStart tabled c.args.cells c.args.range.now c.make_range.new.again =
    start-reached knows_nothing sees_nothing tabled c.args.cells c.args.range.now
    c.requires.possible c.in_ok-again.again c.make_range.new.again
    _ c.make_range.new.observer tt tables opened.begun opened.opened opened.room tt c.in_ok-make_range.ensures in
    (c.args.cells, c.requires.known.0, record { start = start; known = c.requires.known.1 })

pub returns-clause-made : goal.returns-clause-made
returns-clause-made g c =
    let opened = c.in_ok-again.ensures in
    let tabled : DecodedImage = record { image = c.args.image; tables = c.deref.result } in
    let tables = subst (AreTables c.args.image.now) (sym c.deref.ensures.value) c.in_ok-tables.ensures in
    let start : IsAtStart tabled c.args.cells c.args.range.now c.make_range.new.again =
    start-reached knows_nothing sees_nothing tabled c.args.cells c.args.range.now
    c.requires.possible c.in_ok-again.again c.make_range.new.again
    _ c.make_range.new.observer tt tables opened.begun opened.opened opened.room tt c.in_ok-make_range.ensures in
    c.in_ok-fold_range.ensures.made c.args.cells c.requires.known.0 (record { start = start; known = c.requires.known.1 })

pub returns-clause-seen : goal.returns-clause-seen
returns-clause-seen g c seen known =
    let opened = c.in_ok-again.ensures in
    let tabled : DecodedImage = record { image = c.args.image; tables = c.deref.result } in
    let tables = subst (AreTables c.args.image.now) (sym c.deref.ensures.value) c.in_ok-tables.ensures in
    let start : IsAtStart tabled c.args.cells c.args.range.now c.make_range.new.again =
    start-reached knows_nothing sees_nothing tabled c.args.cells c.args.range.now
    c.requires.possible c.in_ok-again.again c.make_range.new.again
    _ c.make_range.new.observer tt tables opened.begun opened.opened opened.room tt c.in_ok-make_range.ensures in
    c.in_ok-fold_range.ensures.seen c.args.cells seen (record { start = start; known = known })
