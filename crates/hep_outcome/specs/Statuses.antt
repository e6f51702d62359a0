-- The exit statuses: docs/MACHINE.md, "The program".
use Rattle.std.specs.Prelude.{ℕ}
use Rattle.hep_outcome.specs.declared.status.Status.{Status}
use Rattle.hep_outcome.specs.declared.status.Status.TheVariants.{Done, Refused, Usage, Faulted, Waiting, ArenaFull, StepLimit, NoMemory, DeviceFailed, Raced, Unexpected}

abbrev pub status_code : Status → ℕ
status_code Done = 0
status_code Refused = 1
status_code Usage = 2
status_code Faulted = 3
status_code Waiting = 4
status_code ArenaFull = 5
status_code StepLimit = 6
status_code NoMemory = 7
status_code DeviceFailed = 8
status_code Raced = 9
status_code Unexpected = 10
