use Rattle.std.proofs.Common.{◌≡◌, ℕ, Bool, inl, inr, List, Some, drop, slice_get, sym, ap, ◌∙◌, subst, arith}
use Rattle.hep_advance.proofs.Pushed.{get-one-more}
use Rattle.hep_races.specs.WatchedCode.{is_observed_ahead}
use Rattle.hep_races.proofs.watched_code.watch_for.Goals as goal

pub loop-index-preserved : goal.loop-index-preserved
loop-index-preserved c =
    let code = c.args.code.now in
    let before = c.loop-index.watched.items in
    let made = c.is_observed_ahead.result in
    record {
      each = λ i b is.
          elim (get-one-more before made i b (subst (λ (bs : List Bool). slice_get bs i ≡ Some b) c.in_ok-push.ensures.items is)) [
            | inl old ↦ c.loop-index.invariant.each i b old
            | inr new ↦ sym new.1 ∙ c.is_observed_ahead.ensures
                ∙ ap (λ (j : ℕ). is_observed_ahead (drop j code)) (sym (new.0 ∙ c.loop-index.invariant.count))
          ];
      count = omega (arith, c.in_ok-push.ensures.len, c.loop-index.invariant.count, c.push.new.self.ok.0, c.loop-index.watched.ok.0);
    }

pub returns : goal.returns
returns c =
    record {
      count = omega (arith, c.loop-index.invariant.count, c.loop-index-test.false);
      each = c.loop-index.invariant.each;
    }
