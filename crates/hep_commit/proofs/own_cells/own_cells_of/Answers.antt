use Rattle.std.proofs.Common.{◌≡◌, inl, inr, List, Some, slice_get, sym, ◌∙◌, subst, arith}
use Rattle.hep_advance.proofs.Pushed.{get-one-more}
use Rattle.hep_commit.specs.OwnCells as spec
use Rattle.hep_commit.specs.declared.own_cells.OwnCells.{OwnCells}
use Rattle.hep_commit.proofs.own_cells.own_cells_of.Goals as goal

pub loop-unit-preserved : goal.loop-unit-preserved
loop-unit-preserved c =
    let image = c.args.image.now in
    let tables = c.loop-unit.tables.items in
    let made = c.in_ok-cells.cells in
    let last : made.cells.items ≡ spec.own_cells_of image c.loop-unit.unit = c.in_ok-cells.ensures ∙ (λ i. spec.own_cells_in (c.unit.ensures.private_are i) (c.unit.ensures.code i)) in
    record {
      each = λ u table is.
          elim (get-one-more tables made u table (subst (λ (ts : List OwnCells). slice_get ts u ≡ Some table) c.in_ok-push.ensures.items is)) [
            | inl old ↦ c.loop-unit.invariant.each u table old
            | inr new ↦ subst (λ (t : OwnCells). t.cells.items ≡ spec.own_cells_of image u) new.1 (subst (λ k. made.cells.items ≡ spec.own_cells_of image k) (sym (new.0 ∙ c.loop-unit.invariant.count)) last)
          ];
      count = omega (arith, c.in_ok-push.ensures.len, c.loop-unit.invariant.count, c.push.new.self.ok.0, c.loop-unit.tables.ok.0);
    }
