use Rattle.std.proofs.Common.{◌≡◌, ◌≤◌, [], drop, vec_capacity, vec_len}
use Rattle.hep_code.specs.BoundCode.{after_code}
use Rattle.hep_binding.specs.DummyContents.{AreReadable, stored_for, stored_in}
use Rattle.hep_binding.proofs.bound_evaluation.run.Given as goal

abbrev pub invariant-loop-operation : goal.invariant-loop-operation
invariant-loop-operation l =
    (after_code (stored_in l.arena.contents) (stored_for l.arena.contents l.given) (drop l.operation-index l.code) l.stack.items ≡ after_code (stored_in l.fn.arena.contents) (stored_for l.fn.arena.contents l.fn.given) l.fn.code [])
    × AreReadable l.arena l.given (drop l.operation-index l.code)
    × (vec_len l.stack ≤ l.operation-index)
    × (vec_capacity l.fn.stack ≤ vec_capacity l.stack)
