use Rattle.std.proofs.Common.{◌≡◌, ◌++◌, drop, map}
use Rattle.std.specs.List.{flat_map}
use Rattle.hep_machine.specs.Words.{run}
use Rattle.hep_races.specs.BoundReads.{IsReading, read_bound}
use Rattle.hep_races.specs.StepEvents.{access_seen}
use Rattle.hep_races.specs.declared.bound_names.BoundName.{BoundName}
use Rattle.hep_races.proofs.bound_reads.reads_of.Given as goal

abbrev pub invariant-loop-bound : goal.invariant-loop-bound
invariant-loop-bound l =
    (r : IsReading l.ahead l.here l.unit l.given)
    → l.reads.items ++ map (access_seen l.ahead.image.now (run l.ahead.image.now r.choices))
    (flat_map (λ (b : BoundName). read_bound r b.name) (drop l.bound-index l.bounds))
    ≡ map (access_seen l.ahead.image.now (run l.ahead.image.now r.choices)) (flat_map (λ (b : BoundName). read_bound r b.name) l.bounds)
