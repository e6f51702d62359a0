-- What holds of each name of a unit that is no constant holds of each variable in its code; so these have storage units.
use Rattle.std.proofs.Common.{◌≡◌, ℕ, zero, Bool, true, false, List, [], ◌∷◌, Option, Some, None, refl, subst, slice_get, if◌then◌else◌}
use Rattle.std.proofs.lemmas.Option.{none-some}
use Rattle.hep_machine.specs.Words.{Tree, constant, occurrence, with_list, parenthesized, signed, negated, binary, Target, StateFunction, Name, Occurrence, Statement, Value, Units, unit_at, constant_value, is_array, is_constant_name, Meaning, element, pure, state, external, listed_meaning, occurrences_in, occurrences_in_all, occurrences_of}
use Rattle.hep_conditions.specs.Words.{FunctionTypes, function_types, targets_purged}
use Rattle.hep_code.specs.declared.instruction.Argument.{Argument}
use Rattle.hep_code.specs.declared.instruction.Argument.TheVariants.{Evaluated, Referred}
use Rattle.hep_code.specs.declared.instruction.Evaluation.{Evaluation}
use Rattle.hep_code.specs.declared.instruction.Evaluation.TheVariants.{Load, Test}
use Rattle.hep_code.specs.declared.instruction.Instruction.{Instruction}
use Rattle.hep_code.specs.declared.instruction.Instruction.TheVariants.{Step, Pass}
use Rattle.hep_code.specs.declared.instruction.Operation.{Operation}
use Rattle.hep_code.specs.declared.instruction.Operation.TheVariants.{Evaluate, Store, EnterLoop, EndLoop, Answer}
use Rattle.hep_code.specs.declared.variable.Variable.{Variable}
use Rattle.hep_code.specs.declared.variable.Variable.TheVariants as variables
use Rattle.hep_code.specs.Words.{is_asynchronous, argument_of, argument_of_listed, argument_of_name, count, addressed_unit, AddressedUnit, code_of, names_of}
use Rattle.hep_image.specs.declared.array.Start.{Start}
use Rattle.hep_image.specs.declared.array.Start.TheVariants as start
use Rattle.hep_image.specs.Places.{addresses_of, scalar, start_of, variable_by, variable_of}
use Rattle.hep_accepted_laws.proofs.Members.{Has, has_one, name_of_unit}
use Rattle.hep_accepted_laws.specs.Instructions.{variables_in, variables_in_argument, variables_in_evaluation, variables_in_operation}
use Rattle.hep_accepted_laws.specs.PlacedCode.{ArePlaced, IsPlaced, code_in}
use Rattle.hep_accepted_laws.proofs.Coded.{AllMeet, Meets, MeetsEvaluation, MeetsOperation, Wish, array_named, code_meets}
use Rattle.hep_accepted_laws.proofs.AcceptedFacts.{Facts, without_value}
use Rattle.hep_accepted_laws.proofs.Rights.{AllNamed, actual_in_unit, given_in_unit, purged_in_unit, resolved, right}
use Rattle.hep_accepted_laws.proofs.Starts.{begins, begun_placed}
use Rattle.hep_accepted_laws.proofs.Operands.{is_element}

-- ---- what is wanted, as variables in lists

abbrev pub OfArgument : (Variable → Type 0) → Argument → Type 0
OfArgument P Evaluated = Unit {0}
OfArgument P (Referred x n) = P x

-- of each variable, in an argument too, and nothing else
abbrev pub wishing : (Variable → Type 0) → Wish
wishing P = record { variable = P; tested = λ x. Unit {0}; call = λ u n. Unit {0}; refer = λ u n. Unit {0}; create = Unit {0}; purge = Unit {0}; argument = OfArgument P }

abbrev pub Each : (Variable → Type 0) → List Variable → Type 0
Each P xs = (i : ℕ) (x : Variable) → slice_get xs i ≡ Some x → P x

pub none_each : (P : Variable → Type 0) → Each P []
none_each P i x e = absurd (none-some x e)

one_each : (P : Variable → Type 0) (x : Variable) → P x → Each P (x ∷ [])
one_each P x h i y e = subst P (has_one x y (i, e)) h

module _ (w : Wish) where
  of_evaluation : (e : Evaluation) → MeetsEvaluation w e → Each w.variable (variables_in_evaluation e)
  of_evaluation (Load x n) h = one_each w.variable x h
  of_evaluation (Test f x n) h = one_each w.variable x h.0
  of_evaluation _ h = none_each w.variable

  pub of_operation : (o : Operation) → MeetsOperation w o → Each w.variable (variables_in_operation o)
  of_operation (Evaluate e) h = of_evaluation e h
  of_operation (Store x n next) h = one_each w.variable x h
  of_operation (EnterLoop x cells inside behind) h = one_each w.variable x h
  of_operation (EndLoop x cells inside behind) h = one_each w.variable x h
  of_operation (Answer x) h = one_each w.variable x h
  of_operation _ h = none_each w.variable

pub of_argument : (P : Variable → Type 0) (a : Argument) → OfArgument P a → Each P (variables_in_argument a)
of_argument P Evaluated h = none_each P
of_argument P (Referred x n) h = one_each P x h

pub of_instruction : (P : Variable → Type 0) (x : Instruction) → Meets (wishing P) x → Each P (variables_in x)
of_instruction P (Step line o) h = of_operation (wishing P) o h
of_instruction P (Pass a) h = of_argument P a h
of_instruction P _ h = none_each P

-- ---- the code of a unit

module _ (functions : FunctionTypes) (addressed : AddressedUnit) (facts : Facts functions addressed.unit) (P : Variable → Type 0) (named : AllNamed functions addressed facts (wishing P)) where
  -- an actual argument that is referred to is a variable or an element
  argument_right : (t : Tree) → ((p : Occurrence) → Has (occurrences_in addressed.unit t) p → Has (occurrences_of addressed.unit) p) → OfArgument P (argument_of (names_of addressed) t)
  argument_right (occurrence p) inside = by_value (constant_value addressed.unit p.name) refl where
    by_value : (o : Option Value) → constant_value addressed.unit p.name ≡ o → OfArgument P (argument_of_name (names_of addressed) o p.name)
    by_value None e = named p (inside p (zero, refl)) (without_value functions addressed.unit facts p.name e)
    by_value (Some v) e = tt
  argument_right (with_list p ts) inside = by_meaning (listed_meaning addressed.unit p.name) refl where
    by_meaning : (m : Meaning) → listed_meaning addressed.unit p.name ≡ m → OfArgument P (argument_of_listed (names_of addressed) m p.name (count ts))
    by_meaning element e =
        array_named functions addressed (wishing P) (resolved functions addressed facts (wishing P) (λ x a v. tt) named) p (occurrences_in_all addressed.unit ts) (λ q h. named q (inside q h)) (is_element addressed.unit p.name e)
    by_meaning (pure f) e = tt
    by_meaning (state f) e = tt
    by_meaning external e = tt
  argument_right (constant v) inside = tt
  argument_right (parenthesized t) inside = tt
  argument_right (signed s t) inside = tt
  argument_right (negated t) inside = tt
  argument_right (binary o a b) inside = tt

  pub all_right : ((s : Statement) (t : Target) → Has addressed.unit s → Has (targets_purged s.form) t → Has (occurrences_of addressed.unit) t.occurrence → P (addressed.variables t.occurrence.name)) → AllMeet (wishing P) (code_of addressed)
  all_right purged =
      code_meets functions addressed (wishing P) (resolved functions addressed facts (wishing P) (λ x a v. tt) named) (
      right functions addressed facts (wishing P) named (record {
        called = λ s c h g. tt;
        passed = λ s c t h g i. argument_right t (λ p j. actual_in_unit functions addressed facts (wishing P) s c t p h g i j);
        referred = λ s r h g e. tt;
        given = λ s r t h g i. argument_right t (λ p j. given_in_unit functions addressed facts (wishing P) s r t p h g i j);
        creating = λ s p ts h e. tt;
        purging = λ s ts h e. tt;
        purged = λ s t h g. purged s t h g (purged_in_unit functions addressed facts (wishing P) s t h g);
      }))

-- ---- all variables have storage units

abbrev pub unit_of_program : Units → ℕ → AddressedUnit
unit_of_program program u = addressed_unit program (addresses_of program) u

-- storage units of operations' variables alone, and `$` of those that are tested
abbrev placing : Wish
placing = record { variable = IsPlaced; tested = λ x. is_asynchronous x ≡ true; call = λ u n. Unit {0}; refer = λ u n. Unit {0}; create = Unit {0}; purge = Unit {0}; argument = λ a. Unit {0} }

-- the variable of an asynchronous name that has storage units is asynchronous
asynchronous_scalar : (a : Bool) (at : Start) → a ≡ true → is_asynchronous (scalar a at) ≡ true
asynchronous_scalar a (start.Local c) e = e
asynchronous_scalar a (start.Common c) e = e
asynchronous_scalar a (start.Dummy c) e = e

asynchronous_by : (unit : List Statement) (x : Name) (o : Option Start) → x.asynchronous ≡ true → IsPlaced (variable_by unit x o) → is_asynchronous (variable_by unit x o) ≡ true
asynchronous_by unit x None e there = absurd (there refl)
asynchronous_by unit x (Some at) e there = by_test (is_array unit x) _ where
  by_test : (b : Bool) (i : ℕ) → is_asynchronous (if b then variables.Array x.asynchronous i else scalar x.asynchronous at) ≡ true
  by_test true i = e
  by_test false i = asynchronous_scalar x.asynchronous at e

asynchronous_variable : (program : Units) (unit : List Statement) (x : Name) → x.asynchronous ≡ true → IsPlaced (variable_of program unit x) → is_asynchronous (variable_of program unit x) ≡ true
unfolding variable_of
asynchronous_variable program unit x e there = asynchronous_by unit x (start_of program unit x) e there

module _ (program : Units) (u : ℕ) (facts : Facts (function_types program) (unit_at program u)) where
  -- a name of the unit that is no constant
  pub placed : (p : Occurrence) → Has (occurrences_of (unit_at program u)) p → is_constant_name (unit_at program u) p.name ≡ false → IsPlaced (variable_of program (unit_at program u) p.name)
  placed p h varies =
      let at = begins program (unit_at program u) p.name (name_of_unit (unit_at program u) p h) varies in
      begun_placed program (unit_at program u) p.name at.0 at.1

  operations_placed : AllMeet placing (code_in program u)
  operations_placed =
      code_meets (function_types program) (unit_of_program program u) placing (resolved (function_types program) (unit_of_program program u) facts placing (asynchronous_variable program (unit_at program u)) placed) (
      right (function_types program) (unit_of_program program u) facts placing placed (record {
        called = λ s c h g. tt;
        passed = λ s c t h g i. tt;
        referred = λ s r h g e. tt;
        given = λ s r t h g i. tt;
        creating = λ s p ts h e. tt;
        purging = λ s ts h e. tt;
        purged = λ s t h g. tt;
      }))

  all_placed : AllMeet (wishing IsPlaced) (code_in program u)
  all_placed = all_right (function_types program) (unit_of_program program u) facts IsPlaced placed (λ s t h g p. placed t.occurrence p (facts.purged_variable h.0 g.0 s t h.1 g.1))

  pub variables_of_operations : (i line : ℕ) (o : Operation) → slice_get (code_in program u) i ≡ Some (Step line o) → ArePlaced (variables_in_operation o)
  variables_of_operations i line o e = of_operation placing o (operations_placed (Step line o) (i, e))

  pub tested_variables : (i line n : ℕ) (f : StateFunction) (x : Variable) → slice_get (code_in program u) i ≡ Some (Step line (Evaluate (Test f x n))) → is_asynchronous x ≡ true
  tested_variables i line n f x e = (operations_placed (Step line (Evaluate (Test f x n))) (i, e)).1

  pub variables_of_all : (i : ℕ) (x : Instruction) → slice_get (code_in program u) i ≡ Some x → ArePlaced (variables_in x)
  variables_of_all i x e = of_instruction IsPlaced x (all_placed x (i, e))
