-- The invariant of a core, and its view: docs/ARCHITECTURE.md, "Forms".
use Rattle.std.specs.Prelude.{◌≡◌, ◌≢◌, ◌+◌, ◌≤◌, ℕ, true, List, None, length}
use Rattle.hep_machine.specs.declared.event.Entry.{Entry}
use Rattle.hep_machine.specs.Words.{IsLegal, Units, living, progress_after, schedule_of, state_after}
use Rattle.hep_blocked.specs.RosterUpdates.{AreListed}
use Rattle.hep_blocked.specs.Rosters.{want_of}
use Rattle.hep_commit.specs.DecodedImages.{AreTables}
use Rattle.hep_state.specs.Words.{IsMachineAfter, snapshot_of}
use Rattle.hep_commit.specs.OwnCells.{AreOwnCells}
use Rattle.hep_views.specs.MachineViews.{machine_view}
use Rattle.hep_core.specs.ProcessPlaces.{PlacedCore, places_of}
use Rattle.hep_core.specs.Tickets.{is_out}
use Rattle.hep_core.specs.CoreValues.{CoreValue, IsStop}
use Rattle.hep_core.specs.Waking.{HasRoomLeft}
use Rattle.hep_core.specs.declared.run_core.Core.TheInside.{Inside}
use Rattle.hep_commit.specs.TicketId.{TicketId}

abbrev pub core_value : Inside → CoreValue
core_value c =
    record {
      program = c.image;
      cells = c.cells;
      limit = c.limit;
      history = c.history.items;
      stop = c.stop;
      view = machine_view c.image (snapshot_of c.machine);
      out = c.out.items;
      given = c.given;
    }

-- and the places of its processes
abbrev pub placed_value : Inside → PlacedCore
placed_value c = record { core = core_value c; places = places_of c.image (snapshot_of c.machine) }

-- each process that is out lives after the history
abbrev pub AreLiving : Units → List Entry → List TicketId → Type 0
AreLiving program history out = (p : ℕ) → is_out p out ≡ true → living (state_after program history) p ≢ None

-- each entry made one activation at most and one process at most, besides those of the opening
pub record AreFew (program : Units) (history : List Entry) : Type 0 where
  pub activations : length (state_after program history).activations ≤ 1 + length history
  pub processes : length (state_after program history).processes ≤ 1 + length history

-- the machine keeps the state after the history, which is legal and made few activations and processes; those that
-- wait are the listed ones, and the others that live are ready; each process that was made has room to be enrolled;
-- those that are out live; the tables and the own cells are those of the program
pub record CoreInvariant (c : Inside) : Type 0 where
  pub after : IsMachineAfter c.image c.cells (schedule_of c.history.items) c.machine
  pub listed : AreListed c.image c.cells (schedule_of c.history.items) (progress_after c.image c.history.items) (want_of c.roster.waiting) c.roster.ready
  pub room : HasRoomLeft c.machine c.roster
  pub legal : IsLegal c.image c.cells c.limit c.history.items
  pub few : AreFew c.image c.history.items
  pub named : IsStop c.image c.cells c.limit c.history.items c.stop
  pub living : AreLiving c.image c.history.items c.out.items
  pub tabled : AreTables c.image c.tables.items
  pub owned : AreOwnCells c.image c.own.items
