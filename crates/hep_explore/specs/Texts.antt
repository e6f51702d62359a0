-- What is written of an ending: docs/MACHINE.md, "The program".
use Rattle.std.specs.Prelude.{◌≡◌, ℕ, List, [], ◌∷◌, ◌++◌, Option, Some, None}
use Rattle.std.specs.List.{flat_map}
use Rattle.std.specs.Option.{unwrap_or}
use Rattle.hep_machine.specs.declared.event.Fault.{Fault}
use Rattle.hep_machine.specs.Words.{Location, Units, Wanted, common, local}
use Rattle.hep_image.specs.Names.{names_in_order}
use Rattle.hep_views.specs.ListedProcesses.{block_place, variable_place}
use Rattle.hep_views.specs.declared.listed.Listed.{Listed}
use Rattle.hep_views.specs.declared.place.Place.{Place}
use Rattle.hep_output.specs.Records.{records_text}
use Rattle.hep_dump.specs.Faults.{faults_text}
use Rattle.hep_dump.specs.Waiting.{listed_text}
use Rattle.hep_explore.specs.Endings.{Blocked, Ending}
use Rattle.hep_outcome.specs.Outcome.{Outcome, status_by_faults, status_of_waiting}
use Rattle.hep_outcome.specs.declared.status.Status.{Status}

-- ---- processes that wait: "Lines of processes that wait"

-- a location by its names: a variable of this unit, or a position in COMMON
abbrev pub place_named : Units → Option ℕ → Location → Place
place_named program owner (local a x i) = variable_place program (unwrap_or owner 0) x i a
place_named program owner (common b i) = block_place program b i

abbrev pub listed_for : Units → Blocked → Wanted → Listed
listed_for program b w =
    record {
      process = b.view.process;
      unit = b.view.unit;
      line = b.view.line;
      full = w.full;
      owner = (place_named program b.owner w.at).owner;
      name = (place_named program b.owner w.at).name;
      element = (place_named program b.owner w.at).element;
    }

abbrev pub blocked_line : Units → Blocked → Option Wanted → List ℕ
blocked_line program b None = []
blocked_line program b (Some w) = listed_text (names_in_order program) (listed_for program b w)

abbrev pub blocked_text : Units → Blocked → List ℕ
blocked_text program b = blocked_line program b b.view.wanted

-- ---- endings

-- the lines of faults, and of processes that wait
abbrev pub ending_messages : Units → Ending → List ℕ
ending_messages program e = faults_text (names_in_order program) e.faults ++ flat_map (blocked_text program) e.blocked

abbrev pub status_by_blocked : List Fault → List Blocked → Status
status_by_blocked faults [] = status_by_faults faults
status_by_blocked faults (b ∷ bs) = status_of_waiting faults

abbrev pub ending_status : Ending → Status
ending_status e = status_by_blocked e.faults e.blocked

-- an outcome shows an ending: both outputs and the status are those of the ending
pub record Shows (program : Units) (e : Ending) (o : Outcome) : Type 0 where
  pub output : o.output ≡ records_text e.records
  pub messages : o.messages ≡ ending_messages program e
  pub status : o.status ≡ ending_status e
