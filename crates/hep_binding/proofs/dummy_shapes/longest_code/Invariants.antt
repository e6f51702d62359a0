use Rattle.std.proofs.Common.{◌≡◌, drop, max}
use Rattle.hep_binding.specs.DummyShapes.{longest_code}
use Rattle.hep_binding.proofs.dummy_shapes.longest_code.Given as goal

abbrev pub invariant-loop-dummy : goal.invariant-loop-dummy
invariant-loop-dummy l = max l.longest (longest_code (drop l.dummy-index l.dummies)) ≡ longest_code l.fn.dummies
