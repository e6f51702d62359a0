-- A run that was made again, with the steps of its processes: docs/ARCHITECTURE.md, "Forms".
use Rattle.std.specs.Prelude.{◌≡◌, ℕ, List}
use Rattle.hep_machine.specs.declared.event.Entry.{Entry}
use Rattle.hep_why.specs.Watches.{IsReplayed}
use Rattle.hep_diff.specs.ProcessSteps.{deeds_behind}
use Rattle.hep_diff.specs.StepLogs.{kept_of}
use Rattle.hep_diff.specs.declared.diff.Side.{Side}

-- the core has made these entries, and the steps are those after the first `front`
pub record IsSide (front : ℕ) (entries : List Entry) (side : Side) : Type 0 where
  pub replayed : IsReplayed side.core.core entries
  pub steps : (q : ℕ) → kept_of side.logs.items q ≡ deeds_behind side.core.core.program front entries q
