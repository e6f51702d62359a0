use Rattle.std.proofs.Common.{◌≡◌, ◌<◌, ◌≤◌, ℕ, sym, ap, ◌∙◌, subst, arith, length, vec_capacity}
use Rattle.hep_step.specs.PerformedSteps.{Snapshot, snapshot}
use Rattle.hep_proc.specs.declared.process.Local.{Local}
use Rattle.hep_proc.proofs.Levels.{operands-are, some-levels}
use Rattle.hep_state.proofs.UnchangedStates.{carry}
use Rattle.hep_step.specs.SilentSteps.{CanGoOn, Goes, stays}
use Rattle.hep_fast.specs.DecodedCode.{AreKnown}
use Rattle.hep_fast.specs.DecodedImages.{IsTable}
use Rattle.hep_advance.proofs.top_run.step_top.Goals as goal

pub place-index-requires : goal.place-index-requires
place-index-requires c = let r = c.requires.1 in (r.l, r.ls, r.operands, r.pending, r.stack, (r.inside, r.there))

pub top-level-requires : goal.top-level-requires
top-level-requires c =
    let r = c.requires.1 in
    some-levels c.args.process.now r.l r.ls r.operands r.pending r.stack

pub table-table-requires-clause-inside : goal.table-table-requires-clause-inside
table-table-requires-clause-inside c =
    let r = c.requires.1 in
    subst (λ (l : Local). l.unit < length c.args.tabled.now.image.now) (sym (c.top-level.ensures r.l r.ls r.operands r.pending r.stack)) r.inside

pub step_by_table-made-requires : goal.step_by_table-made-requires
step_by_table-made-requires c =
    let r = c.requires.1 in
    let program = c.args.tabled.now.image.now in
    let q = c.args.process.now in
    let at = c.place-index.ensures r.l r.ls r.operands r.pending r.stack in
    let code = sym (c.as_slice.ensures ∙ at.code.code) in
    let arrays = sym (c.as_slice-2.ensures ∙ at.code.arrays) in
    let vs = sym (operands-are q r.l r.ls r.operands r.pending r.stack) in
    let arena = c.args.frames.now.arena in
    let table = c.table-table.result.now in
    let is = subst (λ (l : Local). IsTable program l.unit table) (c.top-level.ensures r.l r.ls r.operands r.pending r.stack) c.table-table.ensures in
    let cells = sym (ap (λ f. f.cells) at.framed ∙ r.sized) in
    let ready = carry (λ i. (n : ℕ) (t : Snapshot) → Goes (code i) (arrays i) (sym at.framed i).first (snapshot arena.contents (vs i) (sym at.at i)) n t
    → CanGoOn (code i) (arrays i) arena.holes (sym at.framed i) (vec_capacity q.operands) t) r.ready in
    let here = ready 0 _ (stays (snapshot arena.contents q.operands.items c.place-index.result.2)) in
    record {
      known = carry (λ i. AreKnown (cells i) (sym is.common i) (code i) table.known.items) is.known;
      cells = record { frame = (here.ready (vec_capacity q.operands) (omega arith)).framed.inside; common = subst (λ n. n ≤ length arena.contents) (sym is.common) r.common };
    }

pub stand_at-requires : goal.stand_at-requires
stand_at-requires c =
    let r = c.requires.1 in
    some-levels c.args.process.now r.l r.ls r.operands r.pending r.stack

pub returns-clause-gone : goal.returns-clause-gone
returns-clause-gone c l ls operands pending is =
    let q = c.args.process.now in
    let at = c.place-index.ensures l ls operands pending is in
    let code = c.as_slice.ensures ∙ at.code.code in
    let arrays = c.as_slice-2.ensures ∙ at.code.arrays in
    let stepped = c.step_by_table-made.ensures.made.stepped in
    let left = c.step_by_table-made.new.operands.items in
    let next = c.step_by_table-made.new.index in
    let after = snapshot c.step_by_table-made.new.arena.contents left next in
    record {
      next = next;
      left = left;
      stack = c.stand_at.ensures.stack l ls left pending (λ i. record { levels = (is i).levels; operands = left; pending = (is i).pending });
      gone = carry (λ i. Goes (code i) (arrays i) (at.framed i).first (snapshot c.args.frames.now.arena.contents (operands-are q l ls operands pending is i) (at.at i)) c.step_by_table-made.result after) stepped.gone;
      all = λ fewer. absurd (omega (arith, fewer));
    }
