-- Once its steps are made a segment is that of its ticket.
use Rattle.std.proofs.Common.{◌≡◌, ◌≤◌, ℕ, List, refl, sym, subst, arith}
use Rattle.hep_machine.specs.Words.{Value, Units}
use Rattle.hep_private.specs.declared.progress.StepProgress.{StepProgress}
use Rattle.hep_private.specs.declared.cell_copy.CellCopy.{CellCopy}
use Rattle.hep_private.specs.declared.ticket.TicketId.{TicketId}
use Rattle.hep_private.specs.BoundedSteps.{HasTaken, start_of}
use Rattle.hep_private.specs.OwnState.{Values}
use Rattle.hep_private.specs.StepProgress.{own_of}
use Rattle.hep_private.specs.Segments.{IsComputed, IsComputedFrom, IsMadeOf, IsSegment, SegmentValue, TicketValue, segment_value}
use Rattle.hep_private.specs.BoundedSteps.{Start}
use Rattle.hep_private.specs.RecordRoom.{most_records}
use Rattle.hep_private.specs.BaseValues.{value_copied}

-- the start of a ticket
abbrev start-of-ticket : TicketValue → Start
start-of-ticket ticket = record { unit = ticket.unit; index = ticket.index; operands = ticket.operands; values = value_copied ticket.copies }

module _ (program : Units) (ticket : TicketValue) (id : TicketId) (unit index : ℕ) (operands : List Value) (first p : StepProgress) (copies : List CellCopy) (u : ℕ)
    (same_id : id ≡ ticket.id) (same_unit : unit ≡ ticket.unit) (same_index : index ≡ ticket.index) (same_operands : operands ≡ ticket.operands)
    (here : u ≡ ticket.unit) (there : first.index ≡ ticket.index) (having : first.operands ≡ ticket.operands) (copied : copies ≡ ticket.copies)
    (made-steps : HasTaken program (start_of u (value_copied copies) first) most_records p) where
  taken : HasTaken program (start-of-ticket ticket) most_records p
  taken = subst (λ (s : Start). HasTaken program s most_records p) (λ i. record { unit = here i; index = there i; operands = having i; values = value_copied (copied i) }) made-steps

  abbrev made-of-ticket : SegmentValue
  made-of-ticket = segment_value ticket.id ticket.unit ticket.index ticket.operands p.records p.index p.operands

  made : IsMadeOf program (value_copied ticket.copies) made-of-ticket
  made = record { end = own_of (value_copied ticket.copies) p; made = taken.along; index = refl; operands = refl }

  same : made-of-ticket ≡ segment_value id unit index operands p.records p.index p.operands
  same = λ i. segment_value (sym same_id i) (sym same_unit i) (sym same_index i) (sym same_operands i) p.records p.index p.operands

  pub is-segment : IsSegment (segment_value id unit index operands p.records p.index p.operands)
  is-segment = subst IsSegment same (record { few = taken.few; program = program; values = value_copied ticket.copies; made = made })

  pub computed : IsComputed program ticket (segment_value id unit index operands p.records p.index p.operands)
  computed =
      subst (IsComputed program ticket) same (
      record {
        id = refl;
        unit = refl;
        index = refl;
        operands = refl;
        few = taken.few;
        made = record { end = own_of (value_copied ticket.copies) p; made = taken.along; index = refl; operands = refl };
        all = taken.all;
      })

-- and where steps from a place are made it is one from there
module _ (program : Units) (start : Start) (most : ℕ) (few : most ≤ most_records) (id : TicketId) (operands : List Value) (values : Values) (first p : StepProgress)
    (same_operands : operands ≡ start.operands) (there : first.index ≡ start.index) (having : first.operands ≡ start.operands) (same_values : values ≡ start.values)
    (made-steps : HasTaken program (start_of start.unit values first) most p) where
  from-there : HasTaken program start most p
  from-there = subst (λ (s : Start). HasTaken program s most p) (λ i. record { unit = start.unit; index = there i; operands = having i; values = same_values i }) made-steps

  abbrev made-from : SegmentValue
  made-from = segment_value id start.unit start.index start.operands p.records p.index p.operands

  by-steps : IsMadeOf program start.values made-from
  by-steps = record { end = own_of start.values p; made = from-there.along; index = refl; operands = refl }

  same-from : made-from ≡ segment_value id start.unit start.index operands p.records p.index p.operands
  same-from = λ i. segment_value id start.unit start.index (sym same_operands i) p.records p.index p.operands

  pub is-segment-from : IsSegment (segment_value id start.unit start.index operands p.records p.index p.operands)
  is-segment-from = subst IsSegment same-from (record { few = omega (arith, from-there.few, few); program = program; values = start.values; made = by-steps })

  pub computed-from : IsComputedFrom program start most (segment_value id start.unit start.index operands p.records p.index p.operands)
  computed-from =
      subst (IsComputedFrom program start most) same-from (
      record {
        begins = record { unit = refl; index = refl; operands = refl };
        few = from-there.few;
        made = record { end = own_of start.values p; made = from-there.along; index = refl; operands = refl };
        all = from-there.all;
      })
