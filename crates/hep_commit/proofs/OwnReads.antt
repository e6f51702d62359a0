-- What private steps read is there too where own cells have the same values.
use Rattle.std.proofs.Common.{◌≡◌, ℕ, suc, pos, true, List, ◌∷◌, drop, Some, ap}
use Rattle.hep_machine.specs.Words.{Units, Value, is_number_among, natural, unit_at}
use Rattle.hep_code.specs.declared.instruction.Instruction.{Instruction}
use Rattle.hep_code.specs.declared.instruction.Instruction.TheVariants.{Step}
use Rattle.hep_code.specs.declared.instruction.Operation.{Operation}
use Rattle.hep_code.specs.declared.instruction.Operation.TheVariants.{EndLoop}
use Rattle.hep_image.specs.Addressing.{integer_by}
use Rattle.hep_image.specs.Private.{private_cells}
use Rattle.hep_step.specs.Simulation.{unit_code}
use Rattle.hep_private.specs.declared.record.Record.{Record}
use Rattle.hep_private.specs.OwnState.{OwnState, Values, begun}
use Rattle.hep_private.specs.FirstReads.{HaveRead}
use Rattle.hep_private.specs.StepRecords.{recorded}
use Rattle.hep_commit.specs.UndoneStores.{AreOf, HasLoopAhead, HasLoopIn}
use Rattle.hep_commit.proofs.OwnLoops.{HasEndAhead, HasEndIn}
use Rattle.hep_commit.proofs.WhatIsRead.{still-read}
use Rattle.hep_commit.specs.OwnCells.{own_cells_of}
use Rattle.hep_commit.proofs.OwnLoopCells.{own-loops, own-private, HasBoth}

-- ---- what the laws of private steps say

abbrev pub AreStoredThere : Type 0
AreStoredThere =
    (cells all : List ℕ) (code : List Instruction) (n : ℕ) (own : OwnState) (records : List Record) (end : OwnState)
    → ((c : ℕ) → is_number_among c cells ≡ true → is_number_among c all ≡ true) → ((i : ℕ) → HasLoopAhead all (drop i code))
    → recorded cells code n own ≡ Some (records, end) → AreOf all records

pub record HaveLaws : Type 0 where
  pub read : (cells : List ℕ) (code : List Instruction) (n index : ℕ) (operands : List Value) (values : Values) (records : List Record) (end : OwnState) → recorded cells code n (begun index operands values) ≡ Some (records, end) → HaveRead values records
  pub same : (cells : List ℕ) (code : List Instruction) (n index : ℕ) (operands : List Value) (values others : Values) (records : List Record) (end : OwnState)
      → recorded cells code n (begun index operands values) ≡ Some (records, end) → HaveRead others records
      → (after : OwnState) × (recorded cells code n (begun index operands others) ≡ Some (records, after)) × (after.index ≡ end.index) × (after.operands ≡ end.operands)

-- ---- the DOs of a unit

end-in : (cells : List ℕ) (o : Operation) → HasLoopIn cells o → HasEndIn (HasBoth cells) o
end-in cells (EndLoop x d inside behind) h = h
end-in cells _ h = tt

end-ahead : (cells : List ℕ) (is : List Instruction) → HasLoopAhead cells is → HasEndAhead (HasBoth cells) is
end-ahead cells (Step line o ∷ is) h = end-in cells o h
end-ahead cells _ h = tt

-- ---- steps in a program

module _ (program : Units) (u n : ℕ) where
  abbrev private : List ℕ
  private = private_cells (unit_at program u)

  abbrev code : List Instruction
  code = unit_code program u

  -- they store in own cells alone
  pub stored-by : AreStoredThere → (own : OwnState) (records : List Record) (end : OwnState) → recorded private code n own ≡ Some (records, end) → AreOf (own_cells_of program u) records
  stored-by stored own records end is = stored private (own_cells_of program u) code n own records end (own-private private code) (own-loops private code) is

  -- what they have read is in other values too, where own cells have the same
  pub read-by : HaveLaws → (index : ℕ) (operands : List Value) (values others : Values) (records : List Record) (end : OwnState) → ((c : ℕ) → is_number_among c (own_cells_of program u) ≡ true → others c ≡ values c)
      → recorded private code n (begun index operands values) ≡ Some (records, end) → HaveRead others records
  read-by laws index operands values others records end alike is =
      let cells = own_cells_of program u in
      still-read private (HasBoth cells) values others (record {
        values = λ c among. alike c (own-private private code c among);
        counts = λ d loop. ap (λ o. natural (integer_by (pos 0) o)) (alike d loop.0);
        increments = λ d loop. ap (integer_by (pos 1)) (alike (suc d) loop.1);
      }) code (λ i. end-ahead cells (drop i code) (own-loops private code i)) n (begun index operands values) records end is (
      laws.read private code n index operands values records end is)
