use Rattle.std.proofs.Common.{ℕ, ◌+◌, ◌∙◌, ap, length, refl, subst}
use Rattle.hep_lower.specs.LoweredUnits.{IsUnit}
use Rattle.hep_lower.proofs.Counts.{added-runnable}
use Rattle.hep_lower.proofs.units.LoweredUnits.add.Goals as goal

pub returns-in_ok-push-in-Runnable : goal.returns-in_ok-push-in-Runnable
returns-in_ok-push-in-Runnable c program n known is =
    added-runnable program n c.args.self.now _ known _ (subst (IsUnit program n) c.in-Runnable.is is) c.in_ok-push-in-Runnable.ensures.items refl
    (ap (λ (k : ℕ). c.args.self.now.instructions + k) (c.count.ensures ∙ ap length c.as_slice.ensures))
