use Rattle.std.proofs.Common.{subst, sym}
use Rattle.hep_fold.proofs.MachineTurns.{turn-ahead}
use Rattle.hep_cover.specs.StartMarks.{AreMarks}
use Rattle.hep_cover.proofs.coverage.LineCoverageObserver.look.Goals as goal

pub begun-requires-clause-turn : goal.begun-requires-clause-turn
begun-requires-clause-turn c =
    let at = c.requires in
    turn-ahead c.args.image.now at.replay at.made c.args.entry c.args.p at.left c.args.machine.now at.under_way

pub begun-requires-clause-marks : goal.begun-requires-clause-marks
begun-requires-clause-marks c = (c.requires.seen.0, c.requires.known.0)

pub returns : goal.returns
returns c at =
    let marks = subst (λ os. AreMarks c.args.image.now os c.args.self.now.marks.now) (sym at.known.1) at.known.0 in
    c.begun.ensures c.args.self.now.operations.now marks at.replay.cells at.made at.under_way.after
