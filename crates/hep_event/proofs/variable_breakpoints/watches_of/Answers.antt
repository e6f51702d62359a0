use Rattle.std.proofs.Common.{◌≡◌, inl, inr, List, Some, slice_get, sym, ◌∙◌, subst, arith}
use Rattle.hep_fast.proofs.StepRows.{get-one-more}
use Rattle.hep_advance.specs.declared.breakpoints.Breakpoints.{Breakpoints}
use Rattle.hep_event.specs.VariableBreakpoints.{IsWatchOf}
use Rattle.hep_event.proofs.variable_breakpoints.watches_of.Goals as goal

pub loop-unit-preserved : goal.loop-unit-preserved
loop-unit-preserved c =
    let image = c.args.image.now in
    let name = c.args.name.now in
    let before = c.loop-unit.watches.items in
    let made = c.in_ok-watch.watch in
    let its : IsWatchOf image c.loop-unit.unit name made = c.in_ok-watch.ensures in
    record {
      each = λ u w is.
          elim (get-one-more before made u w (subst (λ (ws : List Breakpoints). slice_get ws u ≡ Some w) c.in_ok-push.ensures.items is)) [
            | inl old ↦ c.loop-unit.invariant.each u w old
            | inr new ↦ subst (IsWatchOf image u name) new.1 (subst (λ k. IsWatchOf image k name made) (sym (new.0 ∙ c.loop-unit.invariant.count)) its)
          ];
      count = omega (arith, c.in_ok-push.ensures.len, c.loop-unit.invariant.count, c.push.new.self.ok.0, c.loop-unit.watches.ok.0);
    }
