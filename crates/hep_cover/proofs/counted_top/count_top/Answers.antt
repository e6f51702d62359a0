use Rattle.std.proofs.Common.{◌≡◌, ◌<◌, ◌≤◌, ℕ, sym, ap, ◌∙◌, subst, arith, length, vec_capacity}
use Rattle.hep_step.specs.PerformedSteps.{Snapshot, snapshot}
use Rattle.hep_proc.specs.declared.process.Local.{Local}
use Rattle.hep_proc.proofs.Levels.{operands-are, some-levels}
use Rattle.hep_state.proofs.UnchangedStates.{carry}
use Rattle.hep_step.specs.SilentSteps.{CanGoOn, Goes, HasNoMove, stays}
use Rattle.hep_fast.specs.DecodedCode.{AreKnown}
use Rattle.hep_fast.specs.DecodedImages.{IsTable}
use Rattle.hep_step.specs.Simulation.{unit_code}
use Rattle.hep_cover.specs.StartMarks.{marks}
use Rattle.hep_cover.specs.CountedRuns.{Tallies}
use Rattle.hep_cover.proofs.counted_top.count_top.Goals as goal

pub place-index-requires : goal.place-index-requires
place-index-requires c = let r = c.requires.can.1 in (r.l, r.ls, r.operands, r.pending, r.stack, (r.inside, r.there))

pub top-level-requires : goal.top-level-requires
top-level-requires c =
    let r = c.requires.can.1 in
    some-levels c.args.process.now r.l r.ls r.operands r.pending r.stack

pub table-table-requires-clause-inside : goal.table-table-requires-clause-inside
table-table-requires-clause-inside c =
    let r = c.requires.can.1 in
    subst (λ (l : Local). l.unit < length c.args.marked.now.tabled.image.now)
    (sym (c.top-level.ensures r.l r.ls r.operands r.pending r.stack)) r.inside

pub lines_of-lines-requires : goal.lines_of-lines-requires
lines_of-lines-requires c =
    let r = c.requires.can.1 in
    let unit : c.top-level.result.unit ≡ r.l.unit =
    ap (λ (l : Local). l.unit) (c.top-level.ensures r.l r.ls r.operands r.pending r.stack) in
    omega (arith, unit, r.inside, c.requires.marks.count)

pub walk_on-made-requires : goal.walk_on-made-requires
walk_on-made-requires c =
    let r = c.requires.can.1 in
    let program = c.args.marked.now.tabled.image.now in
    let q = c.args.process.now in
    let at = c.place-index.ensures r.l r.ls r.operands r.pending r.stack in
    let code = sym (c.as_slice.ensures ∙ at.code.code) in
    let arrays = sym (c.as_slice-2.ensures ∙ at.code.arrays) in
    let vs = sym (operands-are q r.l r.ls r.operands r.pending r.stack) in
    let arena = c.args.frames.now.arena in
    let table = c.table-table.result.now in
    let is =
    subst (λ (l : Local). IsTable program l.unit table) (c.top-level.ensures r.l r.ls r.operands r.pending r.stack) c.table-table.ensures in
    let cells = sym (ap (λ f. f.cells) at.framed ∙ r.sized) in
    let ready = carry (λ i. (n : ℕ) (t : Snapshot) → Goes (code i) (arrays i) (sym at.framed i).first (snapshot arena.contents (vs i) (sym at.at i)) n t
    → CanGoOn (code i) (arrays i) arena.holes (sym at.framed i) (vec_capacity q.operands) t) r.ready in
    let unit = ap (λ (l : Local). unit_code program l.unit) (c.top-level.ensures r.l r.ls r.operands r.pending r.stack) in
    let here = ready 0 _ (stays (snapshot arena.contents q.operands.items c.place-index.result.2)) in
    record {
      tabled = record {
        known = carry (λ i. AreKnown (cells i) (sym is.common i) (code i) table.known.items) is.known;
        cells = record {
          frame = (here.ready (vec_capacity q.operands) (omega arith)).framed.inside;
          common = subst (λ n. n ≤ length arena.contents) (sym is.common) r.common;
        };
      };
      ready = ready;
      marks = c.lines_of-lines.ensures program c.args.marked.now.operations.now c.requires.marks
          ∙ (λ i. marks c.args.marked.now.operations.now ((unit ∙ code) i));
    }

pub stand_at-requires : goal.stand_at-requires
stand_at-requires c =
    let r = c.requires.can.1 in
    some-levels c.args.process.now r.l r.ls r.operands r.pending r.stack

pub returns-clause-tallied : goal.returns-clause-tallied
returns-clause-tallied c l ls operands pending is =
    let q = c.args.process.now in
    let at = c.place-index.ensures l ls operands pending is in
    let code = c.as_slice.ensures ∙ at.code.code in
    let arrays = c.as_slice-2.ensures ∙ at.code.arrays in
    let tallied = c.walk_on-made.ensures.tallied in
    let left = c.walk_on-made.new.operands.items in
    let next = c.walk_on-made.new.index in
    let after = snapshot c.walk_on-made.new.arena.contents left next in
    record {
      next = next;
      left = left;
      stack = c.stand_at.ensures.stack l ls left pending
          (λ i. record { levels = (is i).levels; operands = left; pending = (is i).pending });
      tallied = carry
          (λ i. Tallies c.args.marked.now.operations.now (code i) (arrays i) (at.framed i).first (snapshot c.args.frames.now.arena.contents (operands-are q l ls operands pending is i) (at.at i)) c.args.counts.now.items c.walk_on-made.result after c.walk_on-made.new.counts.items)
          tallied.tallied;
      all = λ fewer. carry (λ i. HasNoMove (code i) (arrays i) (at.framed i).first after) (tallied.all fewer);
    }

pub returns-clause-few : goal.returns-clause-few
returns-clause-few c = c.walk_on-made.ensures.tallied.few
