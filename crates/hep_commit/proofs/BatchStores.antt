-- Private steps store in the private scalars of their unit and in the cells of its DOs alone.
use Rattle.std.proofs.Common.{◌≡◌, ℕ, suc, true, List, [], ◌∷◌, drop, Some, zero, subst, ap}
use Rattle.std.proofs.lemmas.Option.{none-some, same_Some}
use Rattle.hep_machine.specs.Words.{Value, is_number_among}
use Rattle.hep_code.specs.declared.instruction.Evaluation.{Evaluation}
use Rattle.hep_code.specs.declared.instruction.Evaluation.TheVariants.{Load, Sign, Not, Combine, Apply, Test}
use Rattle.hep_code.specs.declared.instruction.Instruction.{Instruction}
use Rattle.hep_code.specs.declared.instruction.Instruction.TheVariants.{Step}
use Rattle.hep_code.specs.declared.instruction.Operation.{Operation}
use Rattle.hep_code.specs.declared.variable.Variable.TheVariants.{Local}
use Rattle.hep_private.specs.declared.record.Record.{Record}
use Rattle.hep_private.specs.OwnState.{OwnState, cells_of, settled, stores_of}
use Rattle.hep_private.specs.StepRecords.{MadeStep, made_ahead, made_of_value, own_after, recorded}
use Rattle.hep_private.proofs.StepRows.{first-of, made-ahead}
use Rattle.hep_private.proofs.StepCases.{HoldOf, so-by}
use Rattle.hep_commit.specs.UndoneStores.{AreAmong, AreOf, HasLoopAhead, HasLoopIn}

abbrev IsOf : List ℕ → Record → Type 0
IsOf cells r = AreAmong cells (cells_of (stores_of r))

value-of : (all : List ℕ) (own : OwnState) (e : Evaluation) (v : Value) → IsOf all (made_of_value own e v).noted
value-of all own (Load (Local asynchronous c) n) v = tt
value-of all own (Load x n) v = tt
value-of all own (Sign s) v = tt
value-of all own Not v = tt
value-of all own (Combine o) v = tt
value-of all own (Apply f n) v = tt
value-of all own (Test f x n) v = tt

module _ (cells all : List ℕ) (have : (c : ℕ) → is_number_among c cells ≡ true → is_number_among c all ≡ true) where
  abbrev Stores : Operation → MadeStep → Type 0
  Stores o m = HasLoopIn all o → IsOf all m.noted

  all-of : (own : OwnState) (entries : List Instruction) → HoldOf cells own entries Stores
  all-of own entries =
      record {
        values = λ e v value loops. value-of all own e v;
        stores = λ c n next among there loops. (have c among, tt);
        enters = λ c d inside behind n among count loops. (have c among, (loops.0, (loops.1, tt)));
        ends = λ c d inside behind v among value test loops. (have c among, (loops.0, (loops.1, tt)));
        jumps = λ next loops. tt;
        choices = λ count next loops. tt;
        signs = λ negative equal positive loops. tt;
        conditions = λ otherwise loops. tt;
        branches = λ inside otherwise loops. tt;
      }

  of-ahead : (own : OwnState) (is : List Instruction) (m : MadeStep) → HasLoopAhead all is → made_ahead cells own is ≡ Some m → IsOf all m.noted
  of-ahead own (Step line o ∷ entries) m loops made = so-by cells own entries Stores (all-of own entries) m o made loops
  of-ahead own _ m loops made = absurd (none-some m made)

  module _ (code : List Instruction) (loops : (i : ℕ) → HasLoopAhead all (drop i code)) where
    pub of-steps : (n : ℕ) (own : OwnState) (records : List Record) (end : OwnState) → recorded cells code n own ≡ Some (records, end) → AreOf all records
    of-steps zero own records end is = subst (AreOf all) (ap (λ (r : List Record × OwnState). r.0) (same_Some ([], own) (records, end) is)) tt
    of-steps (suc n) own records end is =
        let first = first-of cells code n own records end is in
        let made = made-ahead cells code own first.m first.next in
        subst (AreOf all) first.are (
          of-ahead (settled code own) (drop (settled code own).index code) first.m (loops (settled code own).index) made.0,
          of-steps n (own_after cells code own first.m) first.rest end first.later,
        )
