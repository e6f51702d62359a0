-- Segments that begin where an activation is: kept ones are made again, and made ones are kept.
use Rattle.std.proofs.Common.{◌≡◌, ℕ, List, length, Some, ◌∙◌}
use Rattle.hep_machine.specs.Words.{Value, Units, unit_at}
use Rattle.hep_code.specs.declared.instruction.Instruction.{Instruction}
use Rattle.hep_image.specs.Private.{private_cells}
use Rattle.hep_step.specs.Simulation.{unit_code}
use Rattle.hep_private.specs.declared.record.Record.{Record}
use Rattle.hep_private.specs.OwnState.{OwnState, Values, begun}
use Rattle.hep_private.specs.FirstReads.{HaveRead}
use Rattle.hep_private.specs.StepRecords.{recorded}
use Rattle.hep_private.specs.Segments.{IsKept, IsMadeFrom, IsMadeOf, SegmentValue}
use Rattle.hep_private.specs.BoundedSteps.{Start}

-- what the laws of private steps say
pub record HaveLaws : Type 0 where
  pub read : (cells : List ℕ) (code : List Instruction) (n index : ℕ) (operands : List Value) (values : Values) (records : List Record) (end : OwnState) → recorded cells code n (begun index operands values) ≡ Some (records, end) → HaveRead values records
  pub same : (cells : List ℕ) (code : List Instruction) (n index : ℕ) (operands : List Value) (values others : Values) (records : List Record) (end : OwnState)
      → recorded cells code n (begun index operands values) ≡ Some (records, end) → HaveRead others records
      → (after : OwnState) × (recorded cells code n (begun index operands others) ≡ Some (records, after)) × (after.index ≡ end.index) × (after.operands ≡ end.operands)

module _ (laws : HaveLaws) (program : Units) (start : Start) (s : SegmentValue) where
  pub made-kept : IsMadeFrom program start s → IsKept start s
  made-kept h = (h.0, laws.read (private_cells (unit_at program s.unit)) (unit_code program s.unit) (length s.records) s.index s.operands start.values s.records h.1.end h.1.made)

  pub kept-made : (values : Values) → IsMadeOf program values s → IsKept start s → IsMadeFrom program start s
  kept-made values made h =
      let again = laws.same (private_cells (unit_at program s.unit)) (unit_code program s.unit) (length s.records) s.index s.operands values start.values s.records made.end made.made h.1 in
      (h.0, record { end = again.0; made = again.1; index = again.2 ∙ made.index; operands = again.3 ∙ made.operands })
