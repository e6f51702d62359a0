use Rattle.std.proofs.Common.{◌≡◌, Bool, inl, inr, List, Some, drop, length, slice_get, sym, ap, ◌∙◌, subst, arith}
use Rattle.hep_fast.proofs.StepRows.{get-one-more}
use Rattle.hep_step.specs.Simulation.{unit_code}
use Rattle.hep_event.specs.VariableBreakpoints.{IsWatchedAhead}
use Rattle.hep_event.proofs.variable_breakpoints.watch_of.Goals as goal

pub loop-index-preserved : goal.loop-index-preserved
loop-index-preserved c =
    let k = c.args.seeker.now in
    let image = k.image.now in
    let before = c.loop-index.watched.items in
    let made = c.is_watched_ahead.result in
    let code : c.as_slice-code.result.now ≡ unit_code image k.unit = c.as_slice-code.ensures ∙ c.unit.ensures.code in
    let its : IsWatchedAhead image k.unit k.name.now (drop c.loop-index.index (unit_code image k.unit)) made = subst (λ is. IsWatchedAhead image k.unit k.name.now (drop c.loop-index.index is) made) code c.is_watched_ahead.ensures in
    record {
      each = λ i b is.
          elim (get-one-more before made i b (subst (λ (bs : List Bool). slice_get bs i ≡ Some b) c.in_ok-push.ensures.items is)) [
            | inl old ↦ c.loop-index.invariant.each i b old
            | inr new ↦ subst (IsWatchedAhead image k.unit k.name.now (drop i (unit_code image k.unit))) new.1 (
                subst (λ j. IsWatchedAhead image k.unit k.name.now (drop j (unit_code image k.unit)) made) (sym (new.0 ∙ c.loop-index.invariant.count)) its)
          ];
      count = omega (arith, c.in_ok-push.ensures.len, c.loop-index.invariant.count, c.push.new.self.ok.0, c.loop-index.watched.ok.0);
    }

pub returns : goal.returns
returns c =
    let k = c.args.seeker.now in
    let code : c.as_slice-code.result.now ≡ unit_code k.image.now k.unit = c.as_slice-code.ensures ∙ c.unit.ensures.code in
    record {
      count = omega (arith, c.loop-index.invariant.count, c.loop-index-test.false, ap length code);
      each = c.loop-index.invariant.each;
    }
