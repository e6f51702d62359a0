use Rattle.std.proofs.Common.{refl}
use Rattle.hep_races.proofs.ObservedMore.{observed-none}
use Rattle.hep_races.proofs.detector.Detector.new.Goals as goal

pub returns : goal.returns
returns c =
    observed-none (record { steps = 0; clocks = c.new.result; table = c.new-2.result }) refl c.new.ensures.processes c.new.ensures.units
    c.new-2.ensures.latest c.new-2.ensures.rows
