-- The place of a process in a core's machine, as a start of segments: docs/MACHINE.md, "Private steps" and "Workers".
use Rattle.std.specs.Prelude.{ℕ, List, ◌∷◌, map}
use Rattle.hep_private.specs.OwnState.{Values, values_at}
use Rattle.hep_private.specs.declared.cell_copy.CellCopy.{CellCopy}
use Rattle.hep_private.specs.declared.ticket.TicketId.{TicketId}
use Rattle.hep_private.specs.Segments.{SegmentValue, Start, TicketValue, ticket_value}
use Rattle.hep_state.specs.Words.{HasLevels, Snapshot, frame_under, with_contents, with_stack}
use Rattle.hep_private.specs.InPlace.{stored_with}

-- the first cell of the frame of its top activation
abbrev pub first_of : {m : Snapshot} {p : ℕ} → HasLevels m p → ℕ
first_of {m} levels = (frame_under m.nodes levels.level.key).first

-- the start at the place of its top activation
abbrev pub start_in : {m : Snapshot} {p : ℕ} → HasLevels m p → Start
start_in {m} levels =
    record {
      unit = levels.level.unit;
      index = levels.level.index;
      operands = levels.operands;
      values = values_at m.arena.contents (first_of levels);
    }

-- ---- tickets

-- copies of these cells with these values
abbrev pub copies_of : Values → List ℕ → List CellCopy
copies_of values cells = map (λ (c : ℕ). record { cell = c; value = values c }) cells

-- the ticket of a start
abbrev pub ticket_of : TicketId → Start → List ℕ → TicketValue
ticket_of id start cells = ticket_value id start.unit start.index start.operands (copies_of start.values cells)

-- ---- private steps that are made

-- the machine after the steps of a segment, which begins at the place of the process
abbrev pub snapshot_taken : {m : Snapshot} {p : ℕ} → HasLevels m p → SegmentValue → Snapshot
snapshot_taken {m} {p} levels s =
    with_stack (with_contents m (stored_with (first_of levels) m.arena.contents s.records)) p (record levels.level { index = s.end_index } ∷ levels.below)
    s.end_operands levels.pending
