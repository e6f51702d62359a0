use Rattle.std.proofs.Common.{◌+◌, ap, arith, subst}
use Rattle.hep_machine.specs.Words.{Units}
use Rattle.hep_image.specs.Names.{AreNames}
use Rattle.hep_image.proofs.Numbers.{first-kept, variable-few}
use Rattle.hep_image.proofs.image.Image.variable_number.Goals as goal

pub overflow_add-result : goal.overflow_add-result
overflow_add-result c =
    let names = c.self.inside.names in
    let named = subst (λ (p : Units). AreNames p names) c.self.view_is c.self.invariant.named in
    let few = variable-few c.args.self.now names named c.as_slice.result.now c.as_slice.ensures c.args.unit c.args.variable.index c.requires.unit c.requires.variable in
    omega (arith, few)

pub overflow_cast-result-2 : goal.overflow_cast-result-2
overflow_cast-result-2 c =
    let names = c.self.inside.names in
    let named = subst (λ (p : Units). AreNames p names) c.self.view_is c.self.invariant.named in
    let few = variable-few c.args.self.now names named c.as_slice.result.now c.as_slice.ensures c.args.unit c.args.variable.index c.requires.unit c.requires.variable in
    omega (arith, few)

pub returns : goal.returns
returns c =
    let names = c.self.inside.names in
    let named = subst (λ (p : Units). AreNames p names) c.self.view_is c.self.invariant.named in
    ap (λ n. n + c.args.variable.index) (first-kept c.args.self.now names named c.as_slice.result.now c.as_slice.ensures c.args.unit c.requires.unit)
