use Rattle.std.proofs.Common.{◌≡◌, ◌⊎◌, ◌<◌, ◌≤◌, ℕ, true, sym, ap, ◌∙◌, subst, arith, length, vec_capacity}
use Rattle.hep_step.specs.PerformedSteps.{Snapshot, snapshot}
use Rattle.hep_proc.specs.declared.process.Local.{Local}
use Rattle.hep_proc.proofs.Levels.{operands-are, some-levels}
use Rattle.hep_state.proofs.UnchangedStates.{carry}
use Rattle.hep_step.specs.SilentSteps.{CanGoOn, Goes, HasNoMove, stays}
use Rattle.hep_fast.specs.DecodedCode.{AreKnown}
use Rattle.hep_fast.specs.DecodedImages.{IsTable}
use Rattle.hep_advance.specs.RunsToBreakpoints.{Passes}
use Rattle.hep_advance.specs.BreakpointRows.{row_of, watched_at}
use Rattle.hep_advance.proofs.top_to_breakpoint.pass_top.Goals as goal

pub place-index-requires : goal.place-index-requires
place-index-requires c = let r = c.requires.1 in (r.l, r.ls, r.operands, r.pending, r.stack, (r.inside, r.there))

pub top-level-requires : goal.top-level-requires
top-level-requires c =
    let r = c.requires.1 in
    some-levels c.args.process.now r.l r.ls r.operands r.pending r.stack

pub table-table-requires-clause-inside : goal.table-table-requires-clause-inside
table-table-requires-clause-inside c =
    let r = c.requires.1 in
    subst (λ (l : Local). l.unit < length c.args.tabled.now.image.now) (sym (c.top-level.ensures r.l r.ls r.operands r.pending r.stack)) r.inside

pub walk_on-made-requires : goal.walk_on-made-requires
walk_on-made-requires c =
    let r = c.requires.1 in
    let program = c.args.tabled.now.image.now in
    let q = c.args.process.now in
    let at = c.place-index.ensures r.l r.ls r.operands r.pending r.stack in
    let code = sym (c.as_slice.ensures ∙ at.code.code) in
    let arrays = sym (c.as_slice-2.ensures ∙ at.code.arrays) in
    let vs = sym (operands-are q r.l r.ls r.operands r.pending r.stack) in
    let arena = c.args.frames.now.arena in
    let table = c.table-table.result.now in
    let is = subst (λ (l : Local). IsTable program l.unit table) (c.top-level.ensures r.l r.ls r.operands r.pending r.stack) c.table-table.ensures in
    let cells = sym (ap (λ f. f.cells) at.framed ∙ r.sized) in
    let ready = carry (λ i. (n : ℕ) (t : Snapshot) → Goes (code i) (arrays i) (sym at.framed i).first (snapshot arena.contents (vs i) (sym at.at i)) n t
    → CanGoOn (code i) (arrays i) arena.holes (sym at.framed i) (vec_capacity q.operands) t) r.ready in
    let here = ready 0 _ (stays (snapshot arena.contents q.operands.items c.place-index.result.2)) in
    record {
      tabled = record {
        known = carry (λ i. AreKnown (cells i) (sym is.common i) (code i) table.known.items) is.known;
        cells = record { frame = (here.ready (vec_capacity q.operands) (omega arith)).framed.inside; common = subst (λ n. n ≤ length arena.contents) (sym is.common) r.common };
      };
      ready = ready;
    }

pub stand_at-requires : goal.stand_at-requires
stand_at-requires c =
    let r = c.requires.1 in
    some-levels c.args.process.now r.l r.ls r.operands r.pending r.stack

pub returns-clause-passed : goal.returns-clause-passed
returns-clause-passed c l ls operands pending is =
    let q = c.args.process.now in
    let at = c.place-index.ensures l ls operands pending is in
    let code = c.as_slice.ensures ∙ at.code.code in
    let arrays = c.as_slice-2.ensures ∙ at.code.arrays in
    let row = c.row_of-watched.ensures ∙ ap (λ (k : Local). row_of c.args.watches.now k.unit) (c.top-level.ensures l ls operands pending is) in
    let passed = c.walk_on-made.ensures.passed in
    let left = c.walk_on-made.new.operands.items in
    let next = c.walk_on-made.new.index in
    let after = snapshot c.walk_on-made.new.arena.contents left next in
    record {
      next = next;
      left = left;
      stack = c.stand_at.ensures.stack l ls left pending (λ i. record { levels = (is i).levels; operands = left; pending = (is i).pending });
      passed = carry (λ i. Passes (row i) (code i) (arrays i) (at.framed i).first (snapshot c.args.frames.now.arena.contents (operands-are q l ls operands pending is i) (at.at i)) c.walk_on-made.result after) passed.passed;
      all = λ fewer. carry (λ i. (watched_at (row i) next ≡ true) ⊎ HasNoMove (code i) (arrays i) (at.framed i).first after) (passed.all fewer);
    }

pub returns-clause-few : goal.returns-clause-few
returns-clause-few c = c.walk_on-made.ensures.passed.few
