-- Why a run by workers leaves no report: docs/MACHINE.md, "Workers".
use Rattle.std.specs.Prelude.{◌≡◌, ℕ, if◌then◌else◌, List, Option, Some, None, IsSome, Result, Ok, Err, is_ok}
use Rattle.std.specs.List.{list_all}
use Rattle.hep_machine.specs.Words.{opening_layout, Units}
use Rattle.hep_core.specs.declared.core_fault.NewFault.{NewFault}
use Rattle.hep_core.specs.declared.core_fault.NewFault.TheVariants as new
use Rattle.hep_core.specs.ProcessPlaces.{ProcessPlace}
use Rattle.hep_core.specs.CoreValues.{CoreValue, opening_of}
use Rattle.hep_workers.specs.declared.close_fault.CloseFault.TheVariants as close
use Rattle.hep_workers.specs.declared.options.WorkOptions.{WorkOptions}
use Rattle.hep_workers.specs.SharedCores.{IsSharedFrom}
use Rattle.hep_workers.specs.declared.work_fault.CrewFault.{CrewFault}
use Rattle.hep_workers.specs.declared.work_fault.CrewFault.TheVariants as crew
use Rattle.hep_workers.specs.declared.work_fault.WorkFault.{WorkFault}
use Rattle.hep_workers.specs.declared.work_fault.WorkFault.TheVariants.{NoMemory, ArenaFull, NoTicket, NoThread, Close}

abbrev pub of_new : NewFault → WorkFault
of_new new.NoMemory = NoMemory
of_new new.ArenaFull = ArenaFull

abbrev pub of_crew : CrewFault → WorkFault
of_crew crew.NoMemory = NoMemory
of_crew crew.NoThread = NoThread

-- the number in the line that reports it; a refusal of memory and a full arena have lines of their own
abbrev pub number_of : WorkFault → Option ℕ
number_of NoMemory = None
number_of ArenaFull = None
number_of NoTicket = Some 506
number_of NoThread = Some 704
number_of (Close close.NoMemory) = None
number_of (Close close.NotTheEntries) = Some 701
number_of (Close close.NotRising) = Some 702
number_of (Close close.NotTheRun) = Some 703
number_of (Close close.StillRunning) = Some 705

-- the result of the workers: all were started, and memory was refused to none; or why not
abbrev pub end_of : {E : Type 0} → Result (Unit {0}) CrewFault → List (Result (Unit {0}) E) → Result (Unit {0}) CrewFault
end_of (Err fault) outcomes = Err fault
end_of (Ok all) outcomes = if list_all is_ok outcomes then Ok all else Err crew.NoMemory

-- workers have made this core from the opening
abbrev pub IsSharedBy : Units → WorkOptions → CoreValue → Type 0
IsSharedBy program options core =
    (places : List (Option ProcessPlace)) × ∥ IsSharedFrom (opening_of program options.arena options.steps) (record { core = core; places = places }) ∥₁

-- why a run by workers leaves no report: the arena is full just where the main program's frame has no gap in it;
-- anything else, a refusal of memory too, happens only where it has one. Tickets are never used up, and a report is
-- refused only for want of memory: the receipts are the entries of the history, each once, rise, and are of their
-- workers; the core is of the run; and its run is over
abbrev pub IsWorkFault : WorkFault → Units → WorkOptions → Type 0
IsWorkFault ArenaFull program options = opening_layout program options.arena ≡ None
IsWorkFault NoMemory program options = IsSome (opening_layout program options.arena)
IsWorkFault NoThread program options = IsSome (opening_layout program options.arena)
IsWorkFault (Close fault) program options = (fault ≡ close.NoMemory) × IsSome (opening_layout program options.arena)
IsWorkFault NoTicket program options = ⊥
