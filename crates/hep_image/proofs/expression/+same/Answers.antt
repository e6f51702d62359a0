use Rattle.std.proofs.Common.{rules, sym, ◌∙◌, ap}
use Rattle.hep_source.specs.NodeTree.{node_tree}
use Rattle.hep_image.proofs.Children.{same_listed}
use Rattle.hep_image.proofs.expression.+same.Goals as goal

pub same_expressions-returns-then-eq : goal.same_expressions-returns-then-eq
same_expressions-returns-then-eq t c =
    same_listed c.in-WithList-WithList.f c.in-WithList-WithList.g c.in-WithList-WithList.xs.items c.in-WithList-WithList.ys.items c.args.a.now c.args.b.now c.same_arguments.result (sym c.a.view_is ∙ ap node_tree c.in-WithList-WithList.is-0) (sym c.b.view_is ∙ ap node_tree c.in-WithList-WithList.is-1) (search rules) (rw (← c.deref.ensures.value, ← c.deref-then-eq.ensures.value) c.same_arguments.ensures)
