-- A core that workers share: docs/MACHINE.md, "Workers".
use Rattle.std.specs.Prelude.{◌≡◌, ◌⊎◌, ℕ, Result, Some}
use Rattle.hep_machine.specs.Words.{last_process}
use Rattle.hep_private.specs.declared.ticket.TicketId.{TicketId}
use Rattle.hep_private.specs.Segments.{SegmentValue, TicketValue}
use Rattle.hep_core.specs.Commits.{IsCancelled, IsCheckedOut, IsCommitted}
use Rattle.hep_core.specs.ProcessPlaces.{ArePlaces, PlacedCore}
use Rattle.hep_core.specs.CoreValues.{CoreValue, next_ready_of}
use Rattle.hep_core.specs.declared.core_fault.ChooseFault.{ChooseFault}
use Rattle.hep_core.specs.declared.core_fault.CommitFault.{CommitFault}
use Rattle.hep_core.specs.declared.stop.Turn.{Turn}

-- a process may be checked out: it comes next, or made the last entry
abbrev pub IsDue : CoreValue → ℕ → Type 0
IsDue core p = (next_ready_of core ≡ Some p) ⊎ (last_process core.history ≡ p)

-- check-outs, commits and cancellations, one after another and each with its answer, have led from an opening to this
-- core; the places at the opening and after each commit are those in a machine that keeps the state after the
-- history, and the other calls keep the history and the places. So each entry of the history is that of one commit,
-- whose private steps are private at the place of the process
pub data IsSharedFrom (opening : CoreValue) : PlacedCore → Type 0 where
  opened : (new : PlacedCore) → new.core ≡ opening → ArePlaces new → IsSharedFrom opening new
  checked_out : (old new : PlacedCore) (p : ℕ) (answer : Result TicketValue ChooseFault) → IsSharedFrom opening old → IsDue old.core p → IsCheckedOut old p answer new → IsSharedFrom opening new
  committed : (old new : PlacedCore) (s : SegmentValue) (answer : Result Turn CommitFault) → IsSharedFrom opening old → IsCommitted old s answer new → ArePlaces new → IsSharedFrom opening new
  cancelled : (old new : PlacedCore) (id : TicketId) (answer : Result (Unit {0}) CommitFault) → IsSharedFrom opening old → IsCancelled old id answer new → IsSharedFrom opening new

-- it is of the same run: the program, the arena and the longest history are equal
pub record IsOfOneRun (opening core : CoreValue) : Type 0 where
  pub program : core.program ≡ opening.program
  pub cells : core.cells ≡ opening.cells
  pub limit : core.limit ≡ opening.limit
