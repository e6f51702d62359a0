use Rattle.std.proofs.Common.{◌≡◌, inl, inr, List, Some, slice_get, sym, ◌∙◌, subst, arith}
use Rattle.hep_code.specs.declared.instruction.Instruction.{Instruction}
use Rattle.hep_advance.proofs.Pushed.{get-one-more}
use Rattle.hep_advance.specs.declared.breakpoints.Breakpoints.{Breakpoints}
use Rattle.hep_step.specs.Simulation.{unit_code}
use Rattle.hep_races.specs.WatchedCode.{IsWatchFor}
use Rattle.hep_races.proofs.watched_code.watches_for.Goals as goal

pub loop-unit-preserved : goal.loop-unit-preserved
loop-unit-preserved c =
    let image = c.args.image.now in
    let before = c.loop-unit.watches.items in
    let made = c.in_ok-watch.watch in
    let code : c.as_slice.result.now ≡ unit_code image c.loop-unit.unit = c.as_slice.ensures ∙ c.unit.ensures.code in
    let its : IsWatchFor (unit_code image c.loop-unit.unit) made =
    subst (λ (is : List Instruction). IsWatchFor is made) code c.in_ok-watch.ensures in
    record {
      each = λ u w is.
          elim (get-one-more before made u w (subst (λ (ws : List Breakpoints). slice_get ws u ≡ Some w) c.in_ok-push.ensures.items is)) [
            | inl old ↦ c.loop-unit.invariant.each u w old
            | inr new ↦ subst (IsWatchFor (unit_code image u)) new.1 (
                subst (λ k. IsWatchFor (unit_code image k) made) (sym (new.0 ∙ c.loop-unit.invariant.count)) its)
          ];
      count = omega (arith, c.in_ok-push.ensures.len, c.loop-unit.invariant.count, c.push.new.self.ok.0, c.loop-unit.watches.ok.0);
    }
