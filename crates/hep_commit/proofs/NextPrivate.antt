-- Whether the step behind private ones is private, too.
use Rattle.std.proofs.Common.{◌≡◌, ℕ, zero, suc, ◌+ℤ◌, Bool, true, false, ◌&&◌, nat_le, ◌-◌, List, [], ◌∷◌, drop, length, Option, Some, None, is_some, refl, sym, ap, ◌∙◌, option_and_then, if◌then◌else◌}
use Rattle.std.specs.Option.{option_map}
use Rattle.std.proofs.lemmas.Option.{same_Some}
use Rattle.hep_machine.specs.Words.{Value, integer_of, is_number_among}
use Rattle.hep_machine.specs.Arithmetic.{is_integer}
use Rattle.hep_code.specs.declared.instruction.Evaluation.{Evaluation}
use Rattle.hep_code.specs.declared.instruction.Instruction.{Instruction}
use Rattle.hep_code.specs.declared.instruction.Instruction.TheVariants.{Step}
use Rattle.hep_code.specs.declared.instruction.Operation.{Operation}
use Rattle.hep_code.specs.declared.instruction.Operation.TheVariants.{Evaluate, Store, EnterLoop, EndLoop}
use Rattle.hep_code.specs.declared.variable.Variable.{Variable}
use Rattle.hep_code.specs.declared.variable.Variable.TheVariants.{Local}
use Rattle.hep_code.specs.Words.{arity, first_operand, most_operands}
use Rattle.hep_step.specs.Effects.{subscripts_in}
use Rattle.hep_private.specs.declared.record.Record.{Record}
use Rattle.hep_private.specs.OwnState.{OwnState, Values, begun, increment_in, settled}
use Rattle.hep_private.specs.StepRecords.{MadeStep, has_room, if_room, made_ahead, made_by, made_of_end, made_of_end_by, made_of_end_of, made_of_entry_by, made_of_store, made_of_value, made_of_value_stored, next_made, own_after, recorded, value_of}
use Rattle.hep_private.proofs.StepRows.{first-of}
use Rattle.hep_source.proofs.Tests.{some-mapped}

-- ---- by what was read

module _ (cells : List ℕ) (code : List Instruction) where
  -- one step more is private just where the next one is
  pub one-more-private : (n : ℕ) (own : OwnState) (records : List Record) (end : OwnState) → recorded cells code n own ≡ Some (records, end) → is_some (recorded cells code (suc n) own) ≡ is_some (next_made cells code end)
  one-more-private zero own records end is = step (next_made cells code own) ∙ ap (λ x. is_some (next_made cells code x)) here where
    here : own ≡ end
    here = ap (λ (r : List Record × OwnState). r.1) (same_Some ([], own) (records, end) is)

    step : (o : Option MadeStep) → is_some (option_and_then {U = List Record × OwnState} (λ m. option_map {U = List Record × OwnState} (λ (r : List Record × OwnState). (m.noted ∷ r.0, r.1)) (recorded cells code zero (own_after cells code own m))) o) ≡ is_some o
    step None = refl
    step (Some m) = refl
  one-more-private (suc n) own records end is =
      let first = first-of cells code n own records end is in
      ap (λ o. is_some (option_and_then {U = List Record × OwnState} (λ m. option_map {U = List Record × OwnState} (λ (r : List Record × OwnState). (m.noted ∷ r.0, r.1)) (recorded cells code (suc n) (own_after cells code own m))) o)) first.next
      ∙ some-mapped (λ (r : List Record × OwnState). (first.m.noted ∷ r.0, r.1)) (recorded cells code (suc n) (own_after cells code own first.m))
      ∙ one-more-private n (own_after cells code own first.m) first.rest end first.later

  -- ---- in which cells steps have stored doesn't matter

  -- what a step leaves
  abbrev left_by : Option MadeStep → Option (List Value)
  left_by o = option_map (λ (m : MadeStep). m.operands) o

  module _ (own : OwnState) (written : List ℕ) where
    abbrev other : OwnState
    other = record own { written = written }

    value-left : (e : Evaluation) (o : Option Value) → left_by (option_map (made_of_value own e) o) ≡ left_by (option_map (made_of_value other e) o)
    value-left e None = refl
    value-left e (Some v) = refl

    stored-left : (c next : ℕ) (v : Value) (subscripts : List Value) → left_by (made_of_value_stored cells own c next v subscripts) ≡ left_by (made_of_value_stored cells other c next v subscripts)
    stored-left c next v [] = refl
    stored-left c next v (w ∷ ws) = refl

    store-left : (x : Variable) (next : ℕ) (vs : List Value) → left_by (made_of_store cells own x next vs) ≡ left_by (made_of_store cells other x next vs)
    store-left (Local false c) next vs = stored-left c next (first_operand vs) (subscripts_in vs)
    store-left x next vs = refl

    entry-left : (o : Operation) (x : Variable) (d : ℕ) → left_by (made_of_entry_by cells own o x d) ≡ left_by (made_of_entry_by cells other o x d)
    entry-left o (Local false c) d = refl
    entry-left o x d = refl

    end-tested : (o : Operation) (c d : ℕ) (v : Value) (b : Bool) → left_by (if b then Some (made_of_end own o c d v) else None) ≡ left_by (if b then Some (made_of_end other o c d v) else None)
    end-tested o c d v true = refl
    end-tested o c d v false = refl

    end-by : (o : Operation) (c d : ℕ) (value : Option Value) → left_by (made_of_end_by own o c d value) ≡ left_by (made_of_end_by other o c d value)
    end-by o c d None = refl
    end-by o c d (Some v) = end-tested o c d v (is_integer (integer_of v +ℤ increment_in own.values d))

    end-private : (o : Operation) (c d : ℕ) (b : Bool) → left_by (if b then made_of_end_by own o c d (own.values c) else None) ≡ left_by (if b then made_of_end_by other o c d (own.values c) else None)
    end-private o c d true = end-by o c d (own.values c)
    end-private o c d false = refl

    end-left : (o : Operation) (x : Variable) (d : ℕ) → left_by (made_of_end_of cells own o x d) ≡ left_by (made_of_end_of cells other o x d)
    end-left o (Local false c) d = end-private o c d (is_number_among c cells)
    end-left o x d = refl

    operation-left : (o : Operation) (entries : List Instruction) → left_by (made_by cells own o entries) ≡ left_by (made_by cells other o entries)
    operation-left (Evaluate e) entries = value-left e (value_of cells own.values e (drop (length own.operands - arity e) own.operands))
    operation-left (Store x n next) entries = store-left x next own.operands
    operation-left (EnterLoop x d inside behind) entries = entry-left (EnterLoop x d inside behind) x d
    operation-left (EndLoop x d inside behind) entries = end-left (EndLoop x d inside behind) x d
    operation-left _ entries = refl

    ahead-left : (is : List Instruction) → left_by (made_ahead cells own is) ≡ left_by (made_ahead cells other is)
    ahead-left (Step line o ∷ entries) = operation-left o entries
    ahead-left _ = refl

    -- whether it has room, by what it leaves
    room-left : (o p : Option MadeStep) → left_by o ≡ left_by p → is_some (if_room cells own o) ≡ is_some (if_room cells other p)
    room-left None None e = refl
    room-left None (Some m) e = cc
    room-left (Some m) None e = cc
    room-left (Some m) (Some k) e = by-room (has_room cells own m) (has_room cells other k) (ap (λ vs. nat_le (length own.operands) most_operands && nat_le (length vs) most_operands) (same_Some m.operands k.operands e)) where
      by-room : (a b : Bool) → a ≡ b → is_some (if a then Some m else None) ≡ is_some (if b then Some k else None)
      by-room true true e = refl
      by-room false false e = refl
      by-room true false e = cc
      by-room false true e = cc

  pub written-free : (own : OwnState) (written : List ℕ) → is_some (next_made cells code own) ≡ is_some (next_made cells code (record own { written = written }))
  written-free own written =
      let put = settled code own in
      let is = drop put.index code in
      room-left put written (made_ahead cells put is) (made_ahead cells (record put { written = written }) is) (ahead-left put written is)

  -- it is told by the place, the operands and the values behind the others
  pub private-behind : (n : ℕ) (own : OwnState) (records : List Record) (end : OwnState) (values : Values) → recorded cells code n own ≡ Some (records, end) → ((d : ℕ) → values d ≡ end.values d)
      → is_some (next_made cells code (begun end.index end.operands values)) ≡ is_some (recorded cells code (suc n) own)
  private-behind n own records end values is same =
      written-free (begun end.index end.operands values) end.written
      ∙ (λ i. is_some (next_made cells code (record { index = end.index; operands = end.operands; values = λ d. same d i; written = end.written })))
      ∙ sym (one-more-private n own records end is)
