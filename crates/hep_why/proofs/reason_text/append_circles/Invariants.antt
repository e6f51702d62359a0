use Rattle.std.proofs.Common.{◌≡◌, ◌++◌, drop, map}
use Rattle.std.specs.List.{flat_map}
use Rattle.hep_why.specs.WaitCycles.{process_at}
use Rattle.hep_why.specs.Lines.{circle_text}
use Rattle.hep_why.proofs.reason_text.append_circles.Given as goal

abbrev pub invariant-loop-circle : goal.invariant-loop-circle
invariant-loop-circle l =
    l.text.items ++ flat_map circle_text (map (map (process_at l.reasons)) (map (λ c. c.items) (drop l.circle-index l.found)))
    ≡ l.initial.text.items ++ flat_map circle_text (map (map (process_at l.reasons)) (map (λ c. c.items) l.found))
