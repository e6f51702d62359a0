use Rattle.std.proofs.Common.{◌≡◌, ◌++◌, ◌-◌, length, map}
use Rattle.hep_why.specs.WaitCycles.{circles_from, circles_of}
use Rattle.hep_why.proofs.wait_cycles.circles_of.Given as goal

abbrev pub invariant-loop-index : goal.invariant-loop-index
invariant-loop-index l = map (λ c. c.items) l.circles.items ++ circles_from l.nexts l.index (length l.nexts - l.index) ≡ circles_of l.nexts
