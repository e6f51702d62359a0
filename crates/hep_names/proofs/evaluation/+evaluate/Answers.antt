use Rattle.std.proofs.Common.{◌≡◌, ◌∙◌, ap}
use Rattle.hep_machine.specs.Words.{node_tree, binary}
use Rattle.hep_names.specs.declared.evaluation.ExpressionValue.{ExpressionValue}
use Rattle.hep_names.specs.Evaluation.{parameters, are_parts_known}
use Rattle.hep_names.proofs.Evaluations.{two-known}
use Rattle.hep_names.proofs.evaluation.+evaluate.Goals as goal

pub evaluate-returns-in_ok-right-in-Binary-clause-are_parts_known : goal.evaluate-returns-in_ok-right-in-Binary-clause-are_parts_known
evaluate-returns-in_ok-right-in-Binary-clause-are_parts_known t c =
    let left = c.in_ok-left-in-Binary in
    let right = c.in_ok-right-in-Binary in
    let a = c.deref-in-Binary.result.now in
    let b = c.deref-in-Binary-2.result.now in
    let n : node_tree c.expression.inside.node ≡ binary c.in-Binary.operator c.in-Binary.left.value c.in-Binary.right.value = ap node_tree c.in-Binary.is in
    let tree : binary c.in-Binary.operator a b ≡ c.args.expression.now = cc (n) in
    ap (λ (e : ExpressionValue). e.are_parts_known) c.of_two.ensures
    ∙ (two-known c.args.table.now c.args.constants.now c.args.doubtful.now c.in-Binary.operator a b _ _ _ _ _ _ _
    c.combined-value.ensures left.ensures.value right.ensures.value left.ensures.is_open right.ensures.is_open left.ensures.are_parts_known right.ensures.are_parts_known
    ∙ ap (are_parts_known c.args.table.now (parameters c.args.constants.now c.args.doubtful.now)) tree)
