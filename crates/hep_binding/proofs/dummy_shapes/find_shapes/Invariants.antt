use Rattle.std.proofs.Common.{◌≡◌, ◌≤◌, ◌++◌, drop, map, vec_capacity, vec_len}
use Rattle.hep_binding.specs.DummyShapes.{AreShapable, are_fitting, are_fitting_from, shape_of_dummy, shapes_of}
use Rattle.hep_binding.proofs.dummy_shapes.find_shapes.Given as goal

abbrev pub invariant-loop-dummy : goal.invariant-loop-dummy
invariant-loop-dummy l =
    (are_fitting_from l.arena.contents l.given l.dummy-index (drop l.dummy-index l.dummies)
    ≡ are_fitting l.fn.arena.contents l.fn.given l.fn.dummies)
    × (l.shapes.items ++ map (shape_of_dummy l.arena.contents l.given) (drop l.dummy-index l.dummies)
    ≡ shapes_of l.fn.arena.contents l.fn.given l.fn.dummies)
    × (vec_len l.shapes ≡ l.dummy-index)
    × AreShapable l.arena l.given (vec_capacity l.fn.stack) (drop l.dummy-index l.dummies)
    × (vec_capacity l.fn.stack ≤ vec_capacity l.stack)
    × (vec_capacity l.fn.shapes ≤ vec_capacity l.shapes)
