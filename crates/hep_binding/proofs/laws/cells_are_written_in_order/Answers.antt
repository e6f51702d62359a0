use Rattle.std.proofs.Common.{◌≡◌, suc, ◌+◌, ◌*◌, refl, subst, arith}
use Rattle.hep_proc.specs.FrameTable.{Keeps}
use Rattle.hep_binding.specs.ActualArguments.{with_one_given}
use Rattle.hep_binding.specs.AdjustableBounds.{cells_to_bounds_of}
use Rattle.hep_binding.specs.FrameWriting.{stored_in, unit_framed, written_up_to}
use Rattle.hep_binding.proofs.Dummies.{keeps-unset, keeps-put}
use Rattle.hep_binding.proofs.ShapedDummies.{keeps-bound}
use Rattle.hep_binding.proofs.laws.cells_are_written_in_order.Goals as goal

pub returns-clause-none : goal.returns-clause-none
returns-clause-none c = keeps-unset

pub returns-clause-dummy : goal.returns-clause-dummy
returns-clause-dummy c f a nodes frame k x d store before after given framed index there is empty put h =
    subst (λ m. Keeps (stored_in (written_up_to f a m) (with_one_given store a x given)) after nodes) (let same : suc (suc (1 + 2 * k)) ≡ 1 + 2 * (k + 1) = omega arith in same) (
    keeps-put f a nodes frame framed k x d index there store before after given is empty put h)

pub returns-clause-dimension : goal.returns-clause-dimension
returns-clause-dimension c f a k at j shape nodes b before after h there put kept =
    let first = cells_to_bounds_of (unit_framed f a) k in
    subst (λ m. Keeps (written_up_to f a m) after nodes) (let same : suc (suc (first + 2 * j)) ≡ first + 2 * (j + 1) = omega arith in same) (
    keeps-bound f a k at shape nodes h j (first + 2 * j) b there refl before after (at + 2 * j) b.upper refl refl put kept)
