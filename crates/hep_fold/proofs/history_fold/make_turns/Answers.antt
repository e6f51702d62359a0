use Rattle.hep_fold.proofs.Folding.{left_of_row, row-unmade, same-left}
use Rattle.hep_fold.proofs.history_fold.make_turns.Goals as goal

pub make_turn-requires : goal.make_turn-requires
make_turn-requires g c =
    let row = c.args.row in
    let there = c.requires.ahead in (
      there.0,
      there.1,
      left_of_row row there.2 1,
      same-left (row-unmade row there.2 c.in_ok-made.made c.if-made-eq0.true c.requires.some)
          (c.in_ok-made.ensures.made there.0 there.1 there.2 there.3),
    )

pub returns-then-made-eq0-clause-made : goal.returns-then-made-eq0-clause-made
returns-then-made-eq0-clause-made g c replay total left h =
    let row = c.args.row in
    c.in_ok-make_turn.ensures replay total (left_of_row row left 1) (
    same-left (row-unmade row left c.in_ok-made.made c.if-made-eq0.true c.requires.some) (c.in_ok-made.ensures.made replay total left h))
