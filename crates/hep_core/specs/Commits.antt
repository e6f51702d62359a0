-- Check-outs, commits and cancellations: docs/MACHINE.md, "Private steps" and "Workers".
use Rattle.std.specs.Prelude.{◌≡◌, ◌≢◌, ◌⊎◌, ℕ, zero, suc, ◌+◌, ◌<◌, Bool, true, false, List, [], ◌∷◌, ◌++◌, None, Some, Result, Ok, Err, is_some, length, replicate}
use Rattle.hep_machine.specs.declared.event.Entry.{Entry}
use Rattle.hep_machine.specs.Words.{AreSteps, State, Units, is_waiting, living, run_from, schedule_of, unit_at}
use Rattle.hep_image.specs.Private.{private_cells}
use Rattle.hep_step.specs.Simulation.{unit_code}
use Rattle.hep_private.specs.declared.record.Record.{Record}
use Rattle.hep_private.specs.OwnState.{Values, begun}
use Rattle.hep_private.specs.StepRecords.{next_made, recorded}
use Rattle.hep_commit.specs.TicketId.{TicketId}
use Rattle.hep_commit.specs.Segments.{IsComputed, IsKept, IsMadeOf, SegmentValue, Start, TicketValue, most_records}
use Rattle.hep_state.specs.Words.{HasNoGap}
use Rattle.hep_commit.specs.SegmentStarts.{ticket_of}
use Rattle.hep_commit.specs.OwnCells.{own_cells_of}
pub use Rattle.hep_commit.specs.TurnsInPlace.{are_private}
use Rattle.hep_core.specs.ProcessPlaces.{ArePlaces, IsWhere, PlacedCore, with_core}
use Rattle.hep_core.specs.CoreValues.{CoreValue, HasNoStop, IsChoice, IsFree, core_after_choice, next_ready_of, state_of}
use Rattle.hep_core.specs.declared.core_fault.ChooseFault.{ChooseFault}
use Rattle.hep_core.specs.declared.core_fault.ChooseFault.TheVariants as choosing
use Rattle.hep_core.specs.declared.core_fault.CommitFault.{CommitFault}
use Rattle.hep_core.specs.declared.core_fault.CommitFault.TheVariants as committing
use Rattle.hep_core.specs.declared.stop.ChoiceStop.TheVariants.{ArenaFull, StepLimit}
use Rattle.hep_core.specs.declared.stop.Turn.{Turn}
use Rattle.hep_core.specs.SilentChoices.{AreChoices}
use Rattle.hep_core.specs.Tickets.{has_ticket, is_out, without_process}

-- the core in which p isn't out any more
abbrev pub core_after_return : CoreValue → ℕ → CoreValue
core_after_return core p = record core { out = without_process p core.out }

-- the history of a core without a stop is full, and the core stops for that; or it isn't full, and nothing has
-- changed
abbrev pub IsStoppedWhereFull : PlacedCore → Bool → PlacedCore → Type 0
IsStoppedWhereFull old true new =
    (length old.core.history ≡ old.core.limit) × (new ≡ with_core old (record old.core { stop = Some StepLimit }))
IsStoppedWhereFull old false new = (length old.core.history < old.core.limit) × (new ≡ old)

-- ---- check-outs

abbrev pub most_tickets : ℕ
most_tickets = 18446744073709551615

-- the next ticket, whose number is above all that were given before
abbrev pub next_id : CoreValue → ℕ → TicketId
next_id core p = record { number = core.given + 1; process = p }

-- the core after it has given that ticket
abbrev pub core_after_ticket : CoreValue → ℕ → CoreValue
core_after_ticket core p = record core { out = core.out ++ next_id core p ∷ []; given = core.given + 1 }

-- the ticket was given to p, which is out with it: it has the place of p, its operands, and copies of the own cells
-- of its top activation
abbrev pub IsGivenTo : PlacedCore → ℕ → TicketValue → PlacedCore → Type 0
IsGivenTo old p ticket new =
    (start : Start) × IsWhere old p start × (ticket ≡ ticket_of (next_id old.core p) start (own_cells_of old.core.program start.unit))
    × (new ≡ with_core old (core_after_ticket old.core p))

-- the result of a check-out of p
abbrev pub IsCheckedOut : PlacedCore → ℕ → Result TicketValue ChooseFault → PlacedCore → Type 0
IsCheckedOut old p (Ok ticket) new =
    IsFree old.core p × (old.core.given < most_tickets) × (length old.core.history < old.core.limit) × IsGivenTo old p ticket new
IsCheckedOut old p (Err (choosing.Stopped stop)) new =
    ((old.core.stop ≡ Some stop) × (new ≡ old))
    ⊎ (IsFree old.core p × (old.core.given < most_tickets) × (length old.core.history ≡ old.core.limit) × (stop ≡ StepLimit)
    × (new ≡ with_core old (record old.core { stop = Some StepLimit })))
IsCheckedOut old p (Err choosing.NoSuchProcess) new = HasNoStop old.core × (living (state_of old.core) p ≡ None) × (new ≡ old)
IsCheckedOut old p (Err choosing.IsOut) new =
    HasNoStop old.core × (living (state_of old.core) p ≢ None) × (is_out p old.core.out ≡ true) × (new ≡ old)
IsCheckedOut old p (Err choosing.NoTicket) new = IsFree old.core p × (old.core.given ≡ most_tickets) × (new ≡ old)
IsCheckedOut old p (Err choosing.NoMemory) new =
    IsFree old.core p × (old.core.given < most_tickets) × (length old.core.history < old.core.limit) × (new ≡ old)

-- ---- segments that can be committed

-- the segment begins at the start, the values there are those that it has read, and its records are those of private
-- steps of the program
abbrev pub IsNextOf : CoreValue → SegmentValue → Start → Type 0
IsNextOf core s start = IsKept start s × ((values : Values) × IsMadeOf core.program values s)

-- the core has no stop, and the segment's ticket is the one that is out for its process, which lives
abbrev pub IsOutBy : CoreValue → SegmentValue → Type 0
IsOutBy core s = HasNoStop core × (living (state_of core) s.id.process ≢ None) × (has_ticket s.id core.out ≡ true)

-- and its steps are the next ones at the place of its process
abbrev pub IsGoodAt : PlacedCore → SegmentValue → Start → Type 0
IsGoodAt old s start = IsOutBy old.core s × IsWhere old s.id.process start × IsNextOf old.core s start

abbrev pub IsGood : PlacedCore → SegmentValue → Type 0
IsGood old s = (start : Start) × IsGoodAt old s start

-- the result is whether its steps are the next ones there
abbrev pub IsWhetherNext : Bool → PlacedCore → SegmentValue → Type 0
IsWhetherNext true old s = (start : Start) × IsWhere old s.id.process start × IsNextOf old.core s start
IsWhetherNext false old s = (start : Start) → IsWhere old s.id.process start → IsNextOf old.core s start → ⊥

-- ---- what other calls don't change

-- the process of the segment lives, and the segment's steps are the next ones at its place
abbrev pub ComesNext : PlacedCore → SegmentValue → Type 0
ComesNext old s =
    (living (state_of old.core) s.id.process ≢ None) × ((start : Start) × IsWhere old s.id.process start × IsNextOf old.core s start)

-- unless the core stops, the next steps of other processes than p stay the next ones
abbrev pub LeavesNext : ℕ → PlacedCore → PlacedCore → Type 0
LeavesNext p old new = (s : SegmentValue) → s.id.process ≢ p → HasNoStop new.core → ComesNext old s → ComesNext new s

-- unless the core stops, each good segment stays good, as long as its ticket is out
abbrev pub AreGoodStill : PlacedCore → PlacedCore → Type 0
AreGoodStill old new = (s : SegmentValue) → HasNoStop new.core → has_ticket s.id new.core.out ≡ true → IsGood old s → IsGood new s

-- a segment that is computed of this ticket is good
abbrev pub IsFresh : TicketValue → PlacedCore → Type 0
IsFresh ticket new = (s : SegmentValue) → IsComputed new.core.program ticket s → IsGood new s

-- ---- commits

-- the last entry is replaced by one of p with n steps
abbrev pub HasMore : ℕ → ℕ → List Entry → List Entry → Type 0
HasMore p n old new = (front : List Entry) × (last : Entry) × (old ≡ front ++ last ∷ []) × (new ≡ front ++ record { process = p; steps = n } ∷ [])

-- the state after n more steps of p
abbrev pub state_along : CoreValue → ℕ → ℕ → State
state_along core p n = run_from core.program (state_of core) (replicate n p)

-- p made n steps, and the core has one entry more
abbrev pub HasSteps : CoreValue → ℕ → ℕ → CoreValue → Type 0
HasSteps old p n new = AreSteps old.program (state_of old) (replicate n p) × (new ≡ core_after_choice old p n (state_along old p n))

-- the step after those of the segment isn't private, and was made
abbrev pub IsMadeBehind : CoreValue → Start → SegmentValue → Turn → CoreValue → Type 0
IsMadeBehind old start s turn new =
    (turn.steps ≡ suc (length s.records)) × (are_private old.program start (suc (length s.records)) ≡ false) × HasSteps old s.id.process (suc (length s.records)) new

-- or it was left out: it is private, it waits, or it makes an activation for whose frame there is no gap
abbrev pub IsLeftOut : CoreValue → Start → SegmentValue → Turn → CoreValue → Type 0
IsLeftOut old start s turn new =
    (turn.steps ≡ length s.records) × HasSteps old s.id.process (length s.records) new
    × ((are_private old.program start (suc (length s.records)) ≡ true) ⊎ (is_waiting new.program (state_of new) s.id.process ≡ true)
    ⊎ HasNoGap new.program new.cells (schedule_of new.history) s.id.process)

-- the steps of the segment were made, and the next one unless it was left out; a segment without steps is a choice
abbrev pub IsTakenBy : List Record → CoreValue → Start → SegmentValue → Turn → CoreValue → Type 0
IsTakenBy [] old start s turn new = IsChoice old s.id.process (Ok turn) new
IsTakenBy (r ∷ rs) old start s turn new =
    (length old.history < old.limit) × (turn.blocked ≡ false) × (IsMadeBehind old start s turn new ⊎ IsLeftOut old start s turn new)

abbrev pub IsTaken : CoreValue → Start → SegmentValue → Turn → CoreValue → Type 0
IsTaken old start s turn new = IsTakenBy s.records old start s turn new

-- the result of a commit of a segment; where no turn is made, the ticket is out as before, and its process hasn't
-- moved
abbrev pub IsCommitted : PlacedCore → SegmentValue → Result Turn CommitFault → PlacedCore → Type 0
IsCommitted old s (Ok turn) new =
    (start : Start) × IsGoodAt old s start × IsTaken (core_after_return old.core s.id.process) start s turn new.core
IsCommitted old s (Err (committing.Stopped stop)) new =
    ((old.core.stop ≡ Some stop) × (new ≡ old))
    ⊎ (IsGood old s × (length old.core.history ≡ old.core.limit) × (stop ≡ StepLimit)
    × (new ≡ with_core old (record old.core { stop = Some StepLimit })))
    ⊎ (IsGood old s × (length old.core.history < old.core.limit) × (s.records ≡ [])
    × HasNoGap old.core.program old.core.cells (schedule_of old.core.history) s.id.process × (stop ≡ ArenaFull)
    × (new ≡ with_core old (record old.core { stop = Some ArenaFull })))
IsCommitted old s (Err committing.Stale) new = HasNoStop old.core × (IsGood old s → ⊥) × (new ≡ old)
IsCommitted old s (Err committing.NoMemory) new =
    IsGood old s × (length old.core.history < old.core.limit)
    × (s.records ≡ [] → HasNoGap old.core.program old.core.cells (schedule_of old.core.history) s.id.process → ⊥) × (new ≡ old)

-- ---- turns without a ticket

-- p is at a start after which no private step comes, whatever the cells of its activation are
abbrev pub StandsAlone : PlacedCore → ℕ → Type 0
StandsAlone old p =
    (start : Start) × IsWhere old p start
    × ((values : Values)
    → next_made (private_cells (unit_at old.core.program start.unit)) (unit_code old.core.program start.unit) (begun start.index start.operands values)
    ≡ None)

-- p made the private steps of a segment, one at least, which come next at a start, and the next one; or it left that
-- out as a commit does, and the segment has as many steps as it may have
abbrev pub IsMovedBehind : CoreValue → Start → SegmentValue → ℕ → CoreValue → Type 0
IsMovedBehind old start s n new =
    IsNextOf old s start × (0 < length s.records) × (n ≡ length s.records → n ≡ most_records)
    × (IsMadeBehind (core_after_return old s.id.process) start s (record { steps = n; blocked = false }) new
    ⊎ IsLeftOut (core_after_return old s.id.process) start s (record { steps = n; blocked = false }) new)

-- the same, with a segment of any ticket of p
abbrev pub HasMovedBehind : PlacedCore → ℕ → ℕ → PlacedCore → Type 0
HasMovedBehind old p n new =
    (start : Start) × IsWhere old p start
    × ((id : TicketId) → id.process ≡ p → (s : SegmentValue) × (s.id ≡ id) × IsMovedBehind old.core start s n new.core)

-- p was chosen once, where no private step comes next, and only moved; or private steps and the next one were made
abbrev pub HasMovedAtOnce : PlacedCore → ℕ → ℕ → PlacedCore → Type 0
HasMovedAtOnce old p n new =
    ((n ≡ 1) × StandsAlone old p × AreChoices p old.core 1 new.core)
    ⊎ ((length old.core.history < old.core.limit) × HasMovedBehind old p n new)

-- the process that comes next was checked out, and a segment of its ticket was committed, n steps in all. The segment
-- has a step, unless no private one comes next. The step after the segment's was made too, unless the segment has as
-- many as it may have
pub record IsTurnAtOnce (old : PlacedCore) (p n : ℕ) (new : PlacedCore) : Type 0 where
  pub next : next_ready_of old.core ≡ Some p
  pub ticket : TicketValue
  pub out : PlacedCore
  pub checked_out : IsCheckedOut old p (Ok ticket) out
  pub segment : SegmentValue
  pub of : segment.id ≡ ticket.id
  pub alone : segment.records ≡ [] → StandsAlone old p
  pub full : n ≡ length segment.records → n ≡ most_records
  pub committed : IsCommitted out segment (Ok (record { steps = n; blocked = false })) new
  pub placed : ArePlaces new

-- turns of process p without a ticket, one after another, each with as many private steps as a segment may have,
-- which come next where p is after the turns before
abbrev pub AreTurnsAtOnce : ℕ → ℕ → PlacedCore → PlacedCore → Type 0
AreTurnsAtOnce p zero old new = new ≡ old
AreTurnsAtOnce p (suc n) old new =
    (mid : PlacedCore) × (turn : IsTurnAtOnce old p most_records mid) × (length turn.segment.records ≡ most_records) × AreTurnsAtOnce p n mid new

-- ---- tickets that are cancelled

-- the result of cancelling this ticket
abbrev pub IsCancelled : PlacedCore → TicketId → Result (Unit {0}) CommitFault → PlacedCore → Type 0
IsCancelled old id (Ok done) new =
    HasNoStop old.core × (living (state_of old.core) id.process ≢ None) × (has_ticket id old.core.out ≡ true)
    × (new ≡ with_core old (core_after_return old.core id.process))
IsCancelled old id (Err (committing.Stopped stop)) new = (old.core.stop ≡ Some stop) × (new ≡ old)
IsCancelled old id (Err committing.Stale) new = HasNoStop old.core × (has_ticket id old.core.out ≡ false) × (new ≡ old)
IsCancelled old id (Err committing.NoMemory) new = ⊥
