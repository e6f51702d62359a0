use Rattle.std.proofs.Common.{◌+◌, ◌*◌, ◌<◌, ◌∙◌, length, sym, ap, subst}
use Rattle.std.proofs.lemmas.Option.{same_Some}
use Rattle.hep_machine.specs.Words.{Bounds}
use Rattle.hep_binding.specs.AdjustableBounds.{IsShaping, cells_of_shape}
use Rattle.hep_binding.proofs.adjustable_bounds.shape_one.Goals as goal

pub shape-requires-clause-out : goal.shape-requires-clause-out
shape-requires-clause-out c p low high =
    c.requires.out p low (subst (λ n. p < c.args.at + n) (sym (ap cells_of_shape c.in-Some.is ∙ ap (λ (bs : Bounds). 2 * length bs) (sym c.bounds-bounds.ensures.value))) high)

pub returns-clause-shaped : goal.returns-clause-shaped
returns-clause-shaped c bounds e f a k kept h =
    c.shape.ensures.shaped f a k kept
    (subst (λ bs. IsShaping f.program f.state f.layout a k c.args.at bs) (sym (c.bounds-bounds.ensures.value ∙ same_Some _ bounds (sym c.in-Some.is ∙ e))) h)
