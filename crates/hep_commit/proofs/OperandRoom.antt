-- The operands of a private step always have room, where the code of its unit asks for no more than there is.
use Rattle.std.proofs.Common.{◌≡◌, ℕ, zero, suc, ◌+◌, ◌-◌, ◌≤◌, true, List, [], ◌∷◌, take, length, length-append, Option, Some, None, refl, ap, arith, if◌then◌else◌}
use Rattle.std.proofs.lemmas.Option.{none-some}
use Rattle.hep_machine.specs.Words.{Value}
use Rattle.hep_arena.specs.Space.{Space}
use Rattle.hep_code.specs.declared.instruction.Evaluation.{Evaluation}
use Rattle.hep_code.specs.declared.instruction.Instruction.{Instruction}
use Rattle.hep_code.specs.declared.instruction.Instruction.TheVariants.{Push, Step}
use Rattle.hep_code.specs.declared.instruction.Operation.{Operation}
use Rattle.hep_code.specs.Words.{arity, values_ahead}
use Rattle.hep_image.specs.declared.array.Array.{Array}
use Rattle.hep_step.specs.declared.frame.Frame.{Frame}
use Rattle.hep_step.specs.StepReady.{IsAheadReady, IsOperationReady}
use Rattle.hep_private.specs.OwnState.{OwnState, pushed_ahead}
use Rattle.hep_private.specs.StepRecords.{MadeStep, has_room, if_room, made_ahead, made_of_value}
use Rattle.hep_private.proofs.StepCases.{HoldOf, so-by}

pub pushed-length : (is : List Instruction) → length (pushed_ahead is) ≡ values_ahead is
pushed-length (Push v ∷ is) = ap suc (pushed-length is)
pushed-length _ = refl

take-few : {A : Type 0} (n : ℕ) (xs : List A) → length (take n xs) ≤ n
take-few zero xs = omega arith
take-few (suc n) [] = omega arith
take-few (suc n) (x ∷ xs) = let rest = take-few n xs in omega (arith, rest)

value-few : (own : OwnState) (e : Evaluation) (v : Value) → length (made_of_value own e v).operands ≤ (length own.operands - arity e) + 1
value-few own e v =
    let kept = take (length own.operands - arity e) own.operands in
    omega (arith, length-append kept (v ∷ []), take-few (length own.operands - arity e) own.operands)

module _ (space : Space) (arrays : List Array) (frame : Frame) (cells : List ℕ) (capacity : ℕ) (own : OwnState) (entries : List Instruction) where
  abbrev Fits : Operation → MadeStep → Type 0
  Fits o m = IsOperationReady space arrays frame capacity own.operands o → length m.operands ≤ capacity

  all-fit : HoldOf cells own entries Fits
  all-fit =
      record {
        values = λ e v value ready. omega (arith, value-few own e v, ready.1);
        stores = λ c n next among there ready. omega arith;
        enters = λ c d inside behind n among count ready. omega arith;
        ends = λ c d inside behind v among value test ready. omega arith;
        jumps = λ next ready. omega arith;
        choices = λ count next ready. omega arith;
        signs = λ negative equal positive ready. omega arith;
        conditions = λ otherwise ready. omega arith;
        branches = λ inside otherwise ready. omega arith;
      }

pub fits-ahead : (space : Space) (arrays : List Array) (frame : Frame) (cells : List ℕ) (capacity : ℕ) (own : OwnState) (is : List Instruction) (m : MadeStep) → IsAheadReady space arrays frame capacity own.operands is → made_ahead cells own is ≡ Some m
    → length m.operands ≤ capacity
fits-ahead space arrays frame cells capacity own (Step line o ∷ entries) m ready made = so-by cells own entries (Fits space arrays frame cells capacity own entries) (all-fit space arrays frame cells capacity own entries) m o made ready
fits-ahead space arrays frame cells capacity own _ m ready made = absurd (none-some m made)

-- where each step has room, none is left out for want of it
pub all-in-room : (cells : List ℕ) (own : OwnState) (o : Option MadeStep) → ((m : MadeStep) → o ≡ Some m → has_room cells own m ≡ true) → if_room cells own o ≡ o
all-in-room cells own None h = refl
all-in-room cells own (Some m) h = ap (λ b. if b then Some m else None) (h m refl)
