use Rattle.std.proofs.Common.{◌∙◌, ap, refl, subst}
use Rattle.hep_machine.specs.Words.{Units}
use Rattle.hep_proc.proofs.Levels.{operands-are, some-levels}
use Rattle.hep_step.specs.PerformedSteps.{snapshot}
use Rattle.hep_private.specs.InPlace.{IsMadeInPlace, stored_with}
use Rattle.hep_private.specs.Segments.{IsMadeFrom}
use Rattle.hep_commit.specs.TopSegments.{segment_from}
use Rattle.hep_commit.proofs.InPlace.{made-many, made-from, stored-with}
use Rattle.hep_commit.proofs.StandingProcesses.{start-same}
use Rattle.hep_commit.proofs.top_activation.make_private.Goals as goal

pub place-index-requires : goal.place-index-requires
place-index-requires c = let r = c.requires.standing in (r.l, r.ls, r.operands, r.pending, r.stack, r.there)

pub stand_at-requires : goal.stand_at-requires
stand_at-requires c = let r = c.requires.standing in some-levels c.args.process.now r.l r.ls r.operands r.pending r.stack

pub returns-clause-made : goal.returns-clause-made
returns-clause-made c =
    let program = c.args.owned.now.image.now in
    let q = c.args.process.now in
    let unit = c.top.result.unit in
    let first = c.place-index.result.1.first in
    let new = c.make_over.new in
    let s = snapshot c.args.frames.now.arena.contents q.operands.items c.place-index.result.2 in
    let t = snapshot new.arena.contents new.operands.items new.index in
    let n = c.in-Some.made in
    let h = subst (λ (units : Units). IsMadeInPlace units unit first s n t) c.requires.ahead c.in-Some.ensures.made in
    record {
      records = h.records;
      left = new.operands.items;
      index = new.index;
      count = made-many program unit first s n t h;
      made = λ id l ls operands pending is.
          let at = c.place-index.ensures l ls operands pending is in
          subst (λ start. IsMadeFrom program start (segment_from id start h.records new.index new.operands.items)) (
          start-same c.args.frames.now l c.top.result operands q.operands.items c.place-index.result.2 first c.args.frames.now.arena.contents (c.top.ensures l ls operands pending is) at.at (
          operands-are q l ls operands pending is) refl (ap (λ f. f.first) at.framed)) (made-from program unit first s n t h id);
      stack = λ l ls operands pending is.
          c.stand_at.ensures.stack l ls new.operands.items pending (λ i. record { levels = (is i).levels; operands = new.operands.items; pending = (is i).pending });
      cells = λ l ls operands pending is.
          let at = c.place-index.ensures l ls operands pending is in
          h.stored ∙ (stored-with first c.args.frames.now.arena.contents h.records ∙ (λ i. stored_with (at.framed i).first c.args.frames.now.arena.contents h.records));
    }
