-- What private steps read is there still, where the cells of private scalars and those of DOs have the same.
use Rattle.std.proofs.Common.{◌≡◌, ℕ, zero, suc, pos, ◌+ℤ◌, ◌-◌, Bool, true, false, List, [], ◌∷◌, drop, length, Option, Some, None, refl, sym, ap, ◌∙◌, subst, if◌then◌else◌}
use Rattle.std.specs.Option.{option_map}
use Rattle.std.proofs.lemmas.Option.{none-some, same_Some}
use Rattle.hep_machine.specs.Words.{Value, integer_of, is_number_among}
use Rattle.hep_code.specs.declared.instruction.Evaluation.{Evaluation}
use Rattle.hep_code.specs.declared.instruction.Evaluation.TheVariants.{Load, Sign, Not, Combine, Apply, Test}
use Rattle.hep_code.specs.declared.instruction.Instruction.{Instruction}
use Rattle.hep_code.specs.declared.instruction.Instruction.TheVariants.{Step}
use Rattle.hep_code.specs.declared.instruction.Operation.{Operation}
use Rattle.hep_code.specs.declared.variable.Variable.TheVariants.{Local}
use Rattle.hep_code.specs.Words.{arity}
use Rattle.hep_private.specs.declared.record.Record.{Record}
use Rattle.hep_private.specs.OwnState.{OwnState, Values, count_in, increment_in, is_first, settled}
use Rattle.hep_private.specs.FirstReads.{HasRead, HaveRead, WhereFirst}
use Rattle.hep_private.specs.StepRecords.{MadeStep, made_ahead, made_of_value, own_after, recorded, value_of, value_read}
use Rattle.hep_private.proofs.StepRows.{first-of, made-ahead}
use Rattle.hep_private.proofs.StepCases.{HoldOf, so-by}
use Rattle.hep_commit.proofs.OwnLoops.{HasEndAhead, HasEndIn}

-- these cells have the same values in both, and those of DOs the same counts and increments
pub record AreAlike (cells : List ℕ) (IsLoop : ℕ → Type 0) (old new : Values) : Type 0 where
  pub values : (c : ℕ) → is_number_among c cells ≡ true → new c ≡ old c
  pub counts : (d : ℕ) → IsLoop d → count_in new d ≡ count_in old d
  pub increments : (d : ℕ) → IsLoop d → increment_in new d ≡ increment_in old d

where-first : (b : Bool) {P Q : Type 0} → (P → Q) → WhereFirst b P → WhereFirst b Q
where-first true f h = f h
where-first false f h = tt

module _ (cells : List ℕ) (IsLoop : ℕ → Type 0) (old new : Values) (alike : AreAlike cells IsLoop old new) where
  -- ---- one step

  abbrev StillReads : Operation → MadeStep → Type 0
  StillReads o m = HasEndIn IsLoop o → HasRead old m.noted → HasRead new m.noted

  -- a variable that is read has the cell of a private scalar
  among-read : (values : Values) (asynchronous : Bool) (c : ℕ) (vs : List Value) (v : Value) → value_read cells values (Local asynchronous c) vs ≡ Some v → is_number_among c cells ≡ true
  among-read values true c vs v e = absurd (none-some v e)
  among-read values false c (w ∷ ws) v e = absurd (none-some v e)
  among-read values false c [] v e = by_test (is_number_among c cells) e where
    by_test : (b : Bool) → (if b then values c else None) ≡ Some v → b ≡ true
    by_test true f = refl
    by_test false f = absurd (none-some v f)

  value-still : (own : OwnState) (e : Evaluation) (v : Value) → value_of cells own.values e (drop (length own.operands - arity e) own.operands) ≡ Some v → HasRead old (made_of_value own e v).noted → HasRead new (made_of_value own e v).noted
  value-still own (Load (Local asynchronous c) n) v value h =
      where-first (is_first own c) (λ is. alike.values c (among-read own.values asynchronous c (drop (length own.operands - n) own.operands) v value) ∙ is) h
  value-still own (Load x n) v value h = tt
  value-still own (Sign s) v value h = tt
  value-still own Not v value h = tt
  value-still own (Combine o) v value h = tt
  value-still own (Apply f n) v value h = tt
  value-still own (Test f x n) v value h = tt

  all-still : (own : OwnState) (entries : List Instruction) → HoldOf cells own entries StillReads
  all-still own entries =
      record {
        values = λ e v value loops h. value-still own e v value h;
        stores = λ c n next among there loops h. tt;
        enters = λ c d inside behind n among count loops h. tt;
        ends = λ c d inside behind v among value test loop h. (
          where-first (is_first own c) (λ is. ap (λ (o : Option Value). option_map (λ w. integer_of w +ℤ increment_in own.values d) o) (alike.values c among) ∙ is) h.0,
          where-first (is_first own d) (λ is. ap pos (alike.counts d loop) ∙ is) h.1,
          where-first (is_first own (suc d)) (λ is. alike.increments d loop ∙ is) h.2,
        );
        jumps = λ next loops h. tt;
        choices = λ count next loops h. tt;
        signs = λ negative equal positive loops h. tt;
        conditions = λ otherwise loops h. tt;
        branches = λ inside otherwise loops h. tt;
      }

  still-ahead : (own : OwnState) (is : List Instruction) (m : MadeStep) → HasEndAhead IsLoop is → made_ahead cells own is ≡ Some m → HasRead old m.noted → HasRead new m.noted
  still-ahead own (Step line o ∷ entries) m loops made = so-by cells own entries StillReads (all-still own entries) m o made loops
  still-ahead own _ m loops made = absurd (none-some m made)

  -- ---- all of them

  module _ (code : List Instruction) (loops : (i : ℕ) → HasEndAhead IsLoop (drop i code)) where
    pub still-read : (n : ℕ) (own : OwnState) (records : List Record) (end : OwnState) → recorded cells code n own ≡ Some (records, end) → HaveRead old records → HaveRead new records
    still-read zero own records end is h = subst (HaveRead new) (ap (λ (r : List Record × OwnState). r.0) (same_Some ([], own) (records, end) is)) tt
    still-read (suc n) own records end is h =
        let first = first-of cells code n own records end is in
        let made = made-ahead cells code own first.m first.next in
        let had = subst (HaveRead old) (sym first.are) h in
        subst (HaveRead new) first.are (
          still-ahead (settled code own) (drop (settled code own).index code) first.m (loops (settled code own).index) made.0 had.0,
          still-read n (own_after cells code own first.m) first.rest end first.later had.1,
        )
