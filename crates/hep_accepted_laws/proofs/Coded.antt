-- What holds of each instruction of a statement's code, from what holds of the statement.
use Rattle.std.proofs.Common.{◌≡◌, ◌⊎◌, inl, inr, ℕ, zero, suc, Bool, true, false, List, [], ◌∷◌, ◌++◌, map, length, Option, Some, None, refl, sym, subst, true≢false, if◌then◌else◌, pos, option_to_list}
use Rattle.std.specs.List.{flat_map}
use Rattle.std.specs.Option.{option_map}
use Rattle.std.proofs.lemmas.Option.{none-some}
use Rattle.hep_machine.specs.Words.{Tree, Trees, constant, occurrence, with_list, parenthesized, signed, negated, binary, no_trees, trees, trees_of, Target, StateFunction, Name, Occurrence, DoControl, PrintItem, Form, Statement, Value, constant_value, is_array, is_constant_name, type_of, increment_of, Meaning, element, pure, state, external, function_name, listed_meaning, no_statement, array_occurrence, occurrences_in, occurrences_in_all, no_value, Int}
use Rattle.hep_source.specs.declared.statement.PrintItem.TheVariants as item
use Rattle.hep_source.specs.declared.statement.Form.TheVariants as form
use Rattle.hep_conditions.specs.Words.{FunctionTypes, KnownType, is_function_in, list_of, actual_class, given_with_list, is_asynchronous_scalar, value, variable, whole_array, Calling, NameWithList, calls_in, names_with_lists_in, names_with_lists_in_all, targets_assigned, targets_purged, trees_in_form, trees_in_item, trees_in_statement, type_of_tree}
use Rattle.hep_accepted_laws.specs.Agreement.{IsOneAsynchronousScalar}
use Rattle.hep_accepted_laws.proofs.Members.{Has, flat_has, has_behind, has_either, has_first_or, has_front, has_one, map_at, has_more, has_flat}
use Rattle.hep_code.specs.declared.instruction.Argument.{Argument}
use Rattle.hep_code.specs.declared.instruction.Evaluation.{Evaluation}
use Rattle.hep_code.specs.declared.instruction.Evaluation.TheVariants.{Load, Sign, Not, Combine, Apply, Test}
use Rattle.hep_code.specs.declared.instruction.Instruction.{Instruction}
use Rattle.hep_code.specs.declared.instruction.Instruction.TheVariants.{Push, Step, To, Pass, Show}
use Rattle.hep_code.specs.declared.instruction.Operation.{Operation}
use Rattle.hep_code.specs.declared.instruction.Operation.TheVariants.{Evaluate, Store, Condition, EnterLoop, EndLoop, Call, Create, Purge, Return, Refer, Answer}
use Rattle.hep_code.specs.declared.variable.Variable.{Variable}
use Rattle.hep_code.specs.Words.{actuals_code_in, ending_of, passes, actual_code, actual_listed_code, actual_name_code, argument_of, argument_of_target, asked, asked_code, asked_listed_code, count, item_code, listed_code, name_code, printed_of, target_code, tree_code, trees_code, asked_listed, conditions_code, form_code, loop_end_code, operands_code, operation_code, statement_code, statements_code, AddressedUnit, names_of, table_of, code_of}
use Rattle.hep_accepted_laws.proofs.Executed.{in_form}
use Rattle.hep_accepted_laws.proofs.Operands.{is_element}

-- ---- what is asked of instructions

-- what is asked of the variables of operations, of those that FULL, EMPTY, VALUE, SETE or WAITF is asked of, of a unit that is called or begun
-- or referred to with a number of arguments, of CREATE, of PURGE, and of arguments
pub record Wish : Type 1 where
  pub variable : Variable → Type 0
  pub tested : Variable → Type 0
  pub call : ℕ → ℕ → Type 0
  pub refer : ℕ → ℕ → Type 0
  pub create : Type 0
  pub purge : Type 0
  pub argument : Argument → Type 0

abbrev pub MeetsEvaluation : Wish → Evaluation → Type 0
MeetsEvaluation w (Load x n) = w.variable x
MeetsEvaluation w (Test f x n) = w.variable x × w.tested x
MeetsEvaluation w _ = Unit {0}

abbrev pub MeetsOperation : Wish → Operation → Type 0
MeetsOperation w (Evaluate e) = MeetsEvaluation w e
MeetsOperation w (Store x n next) = w.variable x
MeetsOperation w (EnterLoop x cells inside behind) = w.variable x
MeetsOperation w (EndLoop x cells inside behind) = w.variable x
MeetsOperation w (Call u n next) = w.call u n
MeetsOperation w (Create u n next) = w.call u n × w.create
MeetsOperation w (Purge n next) = w.purge
MeetsOperation w (Refer u n) = w.refer u n
MeetsOperation w (Answer x) = w.variable x
MeetsOperation w _ = Unit {0}

abbrev pub Meets : Wish → Instruction → Type 0
Meets w (Step line o) = MeetsOperation w o
Meets w (Pass a) = w.argument a
Meets w _ = Unit {0}

abbrev pub AllMeet : Wish → List Instruction → Type 0
AllMeet w code = (x : Instruction) → Has code x → Meets w x

-- ---- lists of instructions

module _ (w : Wish) where
  none_meet : AllMeet w []
  none_meet x h = absurd (none-some x h.1)

  one_meets : (x : Instruction) → Meets w x → AllMeet w (x ∷ [])
  one_meets x m y h = subst (Meets w) (has_one x y h) m

  both_meet : (xs ys : List Instruction) → AllMeet w xs → AllMeet w ys → AllMeet w (xs ++ ys)
  both_meet xs ys f g x h = by_place (has_either xs ys x h) where
    by_place : Has xs x ⊎ Has ys x → Meets w x
    by_place (inl i) = f x i
    by_place (inr i) = g x i

  first_meets : (x : Instruction) (xs : List Instruction) → Meets w x → AllMeet w xs → AllMeet w (x ∷ xs)
  first_meets x xs m f y h = by_place (has_first_or x xs y h) where
    by_place : (x ≡ y) ⊎ Has xs y → Meets w y
    by_place (inl e) = subst (Meets w) e m
    by_place (inr i) = f y i

  behind_one : (xs : List Instruction) (x : Instruction) → AllMeet w xs → Meets w x → AllMeet w (xs ++ x ∷ [])
  behind_one xs x f m = both_meet xs (x ∷ []) f (one_meets x m)

  flat_meets : {A : Type 0} (f : A → List Instruction) (xs : List A) → ((x : A) → Has xs x → AllMeet w (f x)) → AllMeet w (flat_map f xs)
  flat_meets f xs each x h = let found = flat_has f xs x h in each found.0 found.1 x found.2

  images_meet : {A : Type 0} (f : A → Instruction) (xs : List A) → ((x : A) → Has xs x → Meets w (f x)) → AllMeet w (map f xs)
  images_meet f xs each x h =
      let found = map_at f xs h.0 x h.1 in
      subst (Meets w) found.2 (each found.0 (h.0, found.1))

-- ---- a unit whose constants have values

module _ (functions : FunctionTypes) (addressed : AddressedUnit) (w : Wish) where
  -- what the names of a unit that have storage units are known by
  pub record IsResolved : Type 0 where
    pub valued : (x : Name) → constant_value addressed.unit x ≡ None → is_constant_name addressed.unit x ≡ false
    pub scalar : (x : Name) → is_array addressed.unit x ≡ true → is_constant_name addressed.unit x ≡ false
    pub asked : (x : Name) → x.asynchronous ≡ true → w.variable (addressed.variables x) → w.tested (addressed.variables x)
    pub result : (x : Name) → function_name addressed.unit ≡ Some x → w.variable (addressed.variables x)

  abbrev pub IsNamed : Name → Type 0
  IsNamed x = is_constant_name addressed.unit x ≡ false → w.variable (addressed.variables x)

  abbrev pub AreNamed : List Occurrence → Type 0
  AreNamed ps = (p : Occurrence) → Has ps p → IsNamed p.name

  -- what a name with a list is asked of: by FULL, EMPTY, VALUE, SETE or WAITF an asynchronous scalar, and of a function of the program
  -- that it has this number of arguments, and these
  pub record IsListRight (r : NameWithList) : Type 0 where
    pub tested : (f : StateFunction) → listed_meaning addressed.unit r.occurrence.name ≡ state f → IsOneAsynchronousScalar functions addressed.unit r.arguments
    pub referred : listed_meaning addressed.unit r.occurrence.name ≡ external → w.refer (addressed.functions r.occurrence.name) (count r.arguments)
    pub given : (t : Tree) → listed_meaning addressed.unit r.occurrence.name ≡ external → Has (list_of r.arguments) t → w.argument (argument_of (names_of addressed) t)

  abbrev pub AreListsRight : List NameWithList → Type 0
  AreListsRight rs = (r : NameWithList) → Has rs r → IsListRight r

  -- an expression whose variables are as they should be
  abbrev pub IsTreeRight : Tree → Type 0
  IsTreeRight e = AreNamed (occurrences_in addressed.unit e) × AreListsRight (names_with_lists_in e)

  -- what a form needs beside its expressions
  pub record IsFormRight (f : Form) : Type 0 where
    pub assigned : (t : Target) → Has (targets_assigned f) t → w.variable (addressed.variables t.occurrence.name)
    pub looped : (c : DoControl) → f ≡ form.Do c → w.variable (addressed.variables c.variable.name)
    pub called : (c : Calling) → Has (calls_in f) c → w.call (addressed.subroutines c.occurrence.name) (length c.actuals)
    pub passed : (c : Calling) (t : Tree) → Has (calls_in f) c → Has c.actuals t → w.argument (argument_of (names_of addressed) t)
    pub creating : (p : Occurrence) (ts : List Tree) → f ≡ form.Create p ts → w.create
    pub purging : (ts : List Target) → f ≡ form.Purge ts → w.purge
    pub purged : (t : Target) → Has (targets_purged f) t → w.argument (argument_of_target (names_of addressed) t)

  -- a statement whose variables are as they should be
  pub record IsRight (s : Statement) : Type 0 where
    pub expressions : (e : Tree) → Has (trees_in_statement s) e → IsTreeRight e
    pub rest : IsFormRight s.form

  module _ (known : IsResolved) where
    -- ---- expressions

    name_meets : (line : ℕ) (x : Name) (o : Option Value) → constant_value addressed.unit x ≡ o → IsNamed x → AllMeet w (name_code (names_of addressed) line o x)
    name_meets line x None e n = one_meets w (Step line (Evaluate (Load (addressed.variables x) 0))) (n (known.valued x e))
    name_meets line x (Some v) e n = one_meets w (Push v) tt

    pub array_named : (p : Occurrence) (rest : List Occurrence) → AreNamed (array_occurrence addressed.unit p ++ rest) → is_array addressed.unit p.name ≡ true → w.variable (addressed.variables p.name)
    array_named p rest n array =
        n p (has_front (array_occurrence addressed.unit p) rest p (subst (λ (b : Bool). Has (if b then p ∷ [] else []) p) (sym array) (zero, refl))) (known.scalar p.name array)

    -- a reference of a function of the program isn't tested
    unasked : (x : Name) (t : KnownType) → is_asynchronous_scalar functions (given_with_list functions addressed.unit external x t) ≡ true → ⊥
    unasked x None e = true≢false (sym e)
    unasked x (Some t) e = true≢false (sym e)

    -- what is tested is a variable or an element
    one_asked : (t : Tree) → is_asynchronous_scalar functions (actual_class functions addressed.unit t) ≡ true → AreNamed (occurrences_in addressed.unit t ++ []) → w.variable (addressed.variables (asked (names_of addressed) (trees t no_trees)).0)
    one_asked (constant v) a n = absurd (true≢false (sym a))
    one_asked (occurrence p) a n = n p (zero, refl) (by_test (is_constant_name addressed.unit p.name) a) where
      by_test : (b : Bool) → is_asynchronous_scalar functions (if b then value (Some (type_of addressed.unit p.name)) else (if is_function_in functions addressed.unit p.name then value None else (if is_array addressed.unit p.name then whole_array p.name.asynchronous (type_of addressed.unit p.name) else variable p.name.asynchronous false (type_of addressed.unit p.name)))) ≡ true → b ≡ false
      by_test true f = absurd (true≢false (sym f))
      by_test false f = refl
    one_asked (with_list p us) a n = by_meaning (listed_meaning addressed.unit p.name) refl a where
      by_meaning : (m : Meaning) → listed_meaning addressed.unit p.name ≡ m → is_asynchronous_scalar functions (given_with_list functions addressed.unit m p.name (type_of_tree functions addressed.unit (with_list p us))) ≡ true → w.variable (addressed.variables (asked_listed m p.name (count us)).0)
      by_meaning element e f =
          array_named p (occurrences_in_all addressed.unit us) (λ q h. n q (has_front (array_occurrence addressed.unit p ++ occurrences_in_all addressed.unit us) [] q h)) (is_element addressed.unit p.name e)
      by_meaning (pure g) e f = absurd (true≢false (sym f))
      by_meaning (state g) e f = absurd (true≢false (sym f))
      by_meaning external e f = absurd (unasked p.name (type_of_tree functions addressed.unit (with_list p us)) f)
    one_asked (parenthesized t) a n = absurd (true≢false (sym a))
    one_asked (signed s t) a n = absurd (true≢false (sym a))
    one_asked (negated t) a n = absurd (true≢false (sym a))
    one_asked (binary o x y) a n = absurd (true≢false (sym a))

    -- and asynchronous
    one_asynchronous : (t : Tree) → is_asynchronous_scalar functions (actual_class functions addressed.unit t) ≡ true → (asked (names_of addressed) (trees t no_trees)).0.asynchronous ≡ true
    one_asynchronous (constant v) a = absurd (true≢false (sym a))
    one_asynchronous (occurrence p) a = by_tests (is_constant_name addressed.unit p.name) (is_function_in functions addressed.unit p.name) (is_array addressed.unit p.name) a where
      by_tests : (b c d : Bool) → is_asynchronous_scalar functions (if b then value (Some (type_of addressed.unit p.name)) else (if c then value None else (if d then whole_array p.name.asynchronous (type_of addressed.unit p.name) else variable p.name.asynchronous false (type_of addressed.unit p.name)))) ≡ true → p.name.asynchronous ≡ true
      by_tests true c d f = absurd (true≢false (sym f))
      by_tests false true d f = absurd (true≢false (sym f))
      by_tests false false true f = absurd (true≢false (sym f))
      by_tests false false false f = f
    one_asynchronous (with_list p us) a = by_meaning (listed_meaning addressed.unit p.name) a where
      by_meaning : (m : Meaning) → is_asynchronous_scalar functions (given_with_list functions addressed.unit m p.name (type_of_tree functions addressed.unit (with_list p us))) ≡ true → (asked_listed m p.name (count us)).0.asynchronous ≡ true
      by_meaning element f = f
      by_meaning (pure g) f = absurd (true≢false (sym f))
      by_meaning (state g) f = absurd (true≢false (sym f))
      by_meaning external f = absurd (unasked p.name (type_of_tree functions addressed.unit (with_list p us)) f)
    one_asynchronous (parenthesized t) a = absurd (true≢false (sym a))
    one_asynchronous (signed s t) a = absurd (true≢false (sym a))
    one_asynchronous (negated t) a = absurd (true≢false (sym a))
    one_asynchronous (binary o x y) a = absurd (true≢false (sym a))

    asked_asynchronous : (ts : Trees) → IsOneAsynchronousScalar functions addressed.unit ts → (asked (names_of addressed) ts).0.asynchronous ≡ true
    asked_asynchronous ts one = subst (λ us. (asked (names_of addressed) us).0.asynchronous ≡ true) (sym one.1) (one_asynchronous one.0 one.2)

    asked_named : (ts : Trees) → IsOneAsynchronousScalar functions addressed.unit ts → AreNamed (occurrences_in_all addressed.unit ts) → w.variable (addressed.variables (asked (names_of addressed) ts).0)
    asked_named ts one n =
        subst (λ us. w.variable (addressed.variables (asked (names_of addressed) us).0)) (sym one.1) (
        one_asked one.0 one.2 (subst (λ us. AreNamed (occurrences_in_all addressed.unit us)) one.1 n))

    passes_meet : (ts : Trees) → ((t : Tree) → Has (list_of ts) t → w.argument (argument_of (names_of addressed) t)) → AllMeet w (passes (names_of addressed) ts)
    passes_meet no_trees each = none_meet w
    passes_meet (trees t ts) each =
        first_meets w (Pass (argument_of (names_of addressed) t)) (passes (names_of addressed) ts) (each t (zero, refl)) (passes_meet ts (λ r h. each r (has_more t (list_of ts) r h)))

    -- the code of the list of a name, of the subscripts of what is asked, and of its actual arguments
    pub record MeetLists (line : ℕ) (ts : Trees) : Type 0 where
      pub list : AllMeet w (trees_code (names_of addressed) line ts)
      pub subscripts : AllMeet w (asked_code (names_of addressed) line ts)
      pub actuals : AllMeet w (actuals_code_in (names_of addressed) line ts)

    -- a name with a list by what it is
    listed_meets : (line : ℕ) (p : Occurrence) (ts : Trees) (m : Meaning) → listed_meaning addressed.unit p.name ≡ m → AreNamed (array_occurrence addressed.unit p ++ occurrences_in_all addressed.unit ts) → IsListRight (record { occurrence = p; arguments = ts }) → MeetLists line ts
        → AllMeet w (listed_code (names_of addressed) m line p.name ts (trees_code (names_of addressed) line ts) (asked_code (names_of addressed) line ts) (actuals_code_in (names_of addressed) line ts))
    listed_meets line p ts element e n right meet =
        behind_one w (trees_code (names_of addressed) line ts) (Step line (Evaluate (Load (addressed.variables p.name) (count ts)))) meet.list (array_named p (occurrences_in_all addressed.unit ts) n (is_element addressed.unit p.name e))
    listed_meets line p ts (pure f) e n right meet =
        behind_one w (trees_code (names_of addressed) line ts) (Step line (Evaluate (Apply f (count ts)))) meet.list tt
    listed_meets line p ts (state f) e n right meet =
        let named = asked_named ts (right.tested f e) (λ q h. n q (has_behind (array_occurrence addressed.unit p) (occurrences_in_all addressed.unit ts) q h)) in
        behind_one w (asked_code (names_of addressed) line ts) (Step line (Evaluate (Test f (addressed.variables (asked (names_of addressed) ts).0) (asked (names_of addressed) ts).1))) meet.subscripts (
        (named, known.asked (asked (names_of addressed) ts).0 (asked_asynchronous ts (right.tested f e)) named))
    listed_meets line p ts external e n right meet =
        both_meet w (actuals_code_in (names_of addressed) line ts) (Step line (Refer (addressed.functions p.name) (count ts)) ∷ passes (names_of addressed) ts) meet.actuals (
        first_meets w (Step line (Refer (addressed.functions p.name) (count ts))) (passes (names_of addressed) ts) (right.referred e) (passes_meet ts (λ t h. right.given t e h)))

    actual_name_meets : (o : Option Value) → AllMeet w (actual_name_code o)
    actual_name_meets None = none_meet w
    actual_name_meets (Some v) = one_meets w (Push v) tt

    actual_listed_meets : (m : Meaning) (subscripts code : List Instruction) → AllMeet w subscripts → AllMeet w code → AllMeet w (actual_listed_code m subscripts code)
    actual_listed_meets element subscripts code g h = g
    actual_listed_meets (pure f) subscripts code g h = h
    actual_listed_meets (state f) subscripts code g h = h
    actual_listed_meets external subscripts code g h = h

    subscripts_meet : (m : Meaning) (code : List Instruction) → AllMeet w code → AllMeet w (asked_listed_code m code)
    subscripts_meet element code h = h
    subscripts_meet (pure f) code h = none_meet w
    subscripts_meet (state f) code h = none_meet w
    subscripts_meet external code h = none_meet w

    -- the list of a name
    lists_meet : (line : ℕ) (p : Occurrence) (ts : Trees) → AreNamed (array_occurrence addressed.unit p ++ occurrences_in_all addressed.unit ts) → AreListsRight (record { occurrence = p; arguments = ts } ∷ names_with_lists_in_all ts)
        → (AreNamed (occurrences_in_all addressed.unit ts) → AreListsRight (names_with_lists_in_all ts) → AllMeet w (trees_code (names_of addressed) line ts))
        → (AreNamed (occurrences_in_all addressed.unit ts) → AreListsRight (names_with_lists_in_all ts) → AllMeet w (asked_code (names_of addressed) line ts))
        → (AreNamed (occurrences_in_all addressed.unit ts) → AreListsRight (names_with_lists_in_all ts) → AllMeet w (actuals_code_in (names_of addressed) line ts)) → MeetLists line ts
    lists_meet line p ts n s list subscripts actuals =
        let named : AreNamed (occurrences_in_all addressed.unit ts) = λ q h. n q (has_behind (array_occurrence addressed.unit p) (occurrences_in_all addressed.unit ts) q h) in
        let right : AreListsRight (names_with_lists_in_all ts) = λ r h. s r (has_more (record { occurrence = p; arguments = ts }) (names_with_lists_in_all ts) r h) in
        record { list = list named right; subscripts = subscripts named right; actuals = actuals named right }

    mutual
      pub tree_meets : (line : ℕ) (t : Tree) → AreNamed (occurrences_in addressed.unit t) → AreListsRight (names_with_lists_in t) → AllMeet w (tree_code (names_of addressed) line t)
      tree_meets line (constant v) n s = one_meets w (Push v) tt
      tree_meets line (occurrence p) n s = name_meets line p.name (constant_value addressed.unit p.name) refl (n p (zero, refl))
      tree_meets line (with_list p ts) n s =
          listed_meets line p ts (listed_meaning addressed.unit p.name) refl n (s (record { occurrence = p; arguments = ts }) (zero, refl)) (lists_meet line p ts n s (trees_meet line ts) (asked_meets line ts) (actuals_meet line ts))
      tree_meets line (parenthesized t) n s = tree_meets line t n s
      tree_meets line (signed o t) n s =
          behind_one w (tree_code (names_of addressed) line t) (Step line (Evaluate (Sign o))) (tree_meets line t n s) tt
      tree_meets line (negated t) n s =
          behind_one w (tree_code (names_of addressed) line t) (Step line (Evaluate Not)) (tree_meets line t n s) tt
      tree_meets line (binary o a b) n s =
          behind_one w (tree_code (names_of addressed) line a ++ tree_code (names_of addressed) line b) (Step line (Evaluate (Combine o))) (
          both_meet w (tree_code (names_of addressed) line a) (tree_code (names_of addressed) line b) (
          tree_meets line a
          (λ q h. n q (has_front (occurrences_in addressed.unit a) (occurrences_in addressed.unit b) q h))
          (λ r h. s r (has_front (names_with_lists_in a) (names_with_lists_in b) r h))) (
          tree_meets line b
          (λ q h. n q (has_behind (occurrences_in addressed.unit a) (occurrences_in addressed.unit b) q h))
          (λ r h. s r (has_behind (names_with_lists_in a) (names_with_lists_in b) r h)))) tt

      pub trees_meet : (line : ℕ) (ts : Trees) → AreNamed (occurrences_in_all addressed.unit ts) → AreListsRight (names_with_lists_in_all ts) → AllMeet w (trees_code (names_of addressed) line ts)
      trees_meet line no_trees n s = none_meet w
      trees_meet line (trees t ts) n s =
          both_meet w (tree_code (names_of addressed) line t) (trees_code (names_of addressed) line ts) (
          tree_meets line t
          (λ q h. n q (has_front (occurrences_in addressed.unit t) (occurrences_in_all addressed.unit ts) q h))
          (λ r h. s r (has_front (names_with_lists_in t) (names_with_lists_in_all ts) r h))) (
          trees_meet line ts
          (λ q h. n q (has_behind (occurrences_in addressed.unit t) (occurrences_in_all addressed.unit ts) q h))
          (λ r h. s r (has_behind (names_with_lists_in t) (names_with_lists_in_all ts) r h)))

      asked_meets : (line : ℕ) (ts : Trees) → AreNamed (occurrences_in_all addressed.unit ts) → AreListsRight (names_with_lists_in_all ts) → AllMeet w (asked_code (names_of addressed) line ts)
      asked_meets line no_trees n s = none_meet w
      asked_meets line (trees (constant v) ts) n s = none_meet w
      asked_meets line (trees (occurrence p) ts) n s = none_meet w
      asked_meets line (trees (with_list p us) no_trees) n s =
          subscripts_meet (listed_meaning addressed.unit p.name) (trees_code (names_of addressed) line us) (
          trees_meet line us
          (λ q h. n q (has_front (array_occurrence addressed.unit p ++ occurrences_in_all addressed.unit us) [] q (has_behind (array_occurrence addressed.unit p) (occurrences_in_all addressed.unit us) q h)))
          (λ r h. s r (has_more (record { occurrence = p; arguments = us }) (names_with_lists_in_all us ++ []) r (has_front (names_with_lists_in_all us) [] r h))))
      asked_meets line (trees (with_list p us) (trees v vs)) n s = none_meet w
      asked_meets line (trees (parenthesized t) ts) n s = none_meet w
      asked_meets line (trees (signed o t) ts) n s = none_meet w
      asked_meets line (trees (negated t) ts) n s = none_meet w
      asked_meets line (trees (binary o a b) ts) n s = none_meet w

      pub actual_meets : (line : ℕ) (t : Tree) → AreNamed (occurrences_in addressed.unit t) → AreListsRight (names_with_lists_in t) → AllMeet w (actual_code (names_of addressed) line t)
      actual_meets line (occurrence p) n s = actual_name_meets (constant_value addressed.unit p.name)
      actual_meets line (with_list p ts) n s =
          let meet = lists_meet line p ts n s (trees_meet line ts) (asked_meets line ts) (actuals_meet line ts) in
          actual_listed_meets (listed_meaning addressed.unit p.name) (trees_code (names_of addressed) line ts) (listed_code (names_of addressed) (listed_meaning addressed.unit p.name) line p.name ts (trees_code (names_of addressed) line ts) (asked_code (names_of addressed) line ts) (actuals_code_in (names_of addressed) line ts)) meet.list (
          listed_meets line p ts (listed_meaning addressed.unit p.name) refl n (s (record { occurrence = p; arguments = ts }) (zero, refl)) meet)
      actual_meets line (constant v) n s = one_meets w (Push v) tt
      actual_meets line (parenthesized t) n s = tree_meets line t n s
      actual_meets line (signed o t) n s =
          behind_one w (tree_code (names_of addressed) line t) (Step line (Evaluate (Sign o))) (tree_meets line t n s) tt
      actual_meets line (negated t) n s =
          behind_one w (tree_code (names_of addressed) line t) (Step line (Evaluate Not)) (tree_meets line t n s) tt
      actual_meets line (binary o a b) n s =
          behind_one w (tree_code (names_of addressed) line a ++ tree_code (names_of addressed) line b) (Step line (Evaluate (Combine o))) (
          both_meet w (tree_code (names_of addressed) line a) (tree_code (names_of addressed) line b) (
          tree_meets line a
          (λ q h. n q (has_front (occurrences_in addressed.unit a) (occurrences_in addressed.unit b) q h))
          (λ r h. s r (has_front (names_with_lists_in a) (names_with_lists_in b) r h))) (
          tree_meets line b
          (λ q h. n q (has_behind (occurrences_in addressed.unit a) (occurrences_in addressed.unit b) q h))
          (λ r h. s r (has_behind (names_with_lists_in a) (names_with_lists_in b) r h)))) tt

      pub actuals_meet : (line : ℕ) (ts : Trees) → AreNamed (occurrences_in_all addressed.unit ts) → AreListsRight (names_with_lists_in_all ts) → AllMeet w (actuals_code_in (names_of addressed) line ts)
      actuals_meet line no_trees n s = none_meet w
      actuals_meet line (trees t ts) n s =
          both_meet w (actual_code (names_of addressed) line t) (actuals_code_in (names_of addressed) line ts) (
          actual_meets line t
          (λ q h. n q (has_front (occurrences_in addressed.unit t) (occurrences_in_all addressed.unit ts) q h))
          (λ r h. s r (has_front (names_with_lists_in t) (names_with_lists_in_all ts) r h))) (
          actuals_meet line ts
          (λ q h. n q (has_behind (occurrences_in addressed.unit t) (occurrences_in_all addressed.unit ts) q h))
          (λ r h. s r (has_behind (names_with_lists_in t) (names_with_lists_in_all ts) r h)))

    -- ---- lists of expressions

    right_meets : (line : ℕ) (t : Tree) → IsTreeRight t → AllMeet w (tree_code (names_of addressed) line t)
    right_meets line t h = tree_meets line t h.0 h.1

    list_meets : (line : ℕ) (ts : List Tree) → ((e : Tree) → Has ts e → IsTreeRight e) → AllMeet w (trees_code (names_of addressed) line (trees_of ts))
    list_meets line [] each = none_meet w
    list_meets line (t ∷ ts) each =
        both_meet w (tree_code (names_of addressed) line t) (trees_code (names_of addressed) line (trees_of ts)) (right_meets line t (each t (zero, refl))) (
        list_meets line ts (λ e h. each e (has_more t ts e h)))

    -- ---- forms

    item_meets : (line : ℕ) (i : PrintItem) → ((e : Tree) → Has (trees_in_item i) e → IsTreeRight e) → AllMeet w (item_code (names_of addressed) line i)
    item_meets line (item.Expression t) each = right_meets line t (each t (zero, refl))
    item_meets line (item.Characters cs) each = none_meet w

    increment_meets : (line : ℕ) (o : Option Tree) → ((e : Tree) → Has (option_to_list o) e → IsTreeRight e) → AllMeet w (tree_code (names_of addressed) line (increment_of o))
    increment_meets line None each = one_meets w (Push (Int (pos 1))) tt
    increment_meets line (Some t) each = right_meets line t (each t (zero, refl))

    operands_meet : (line : ℕ) (f : Form) → ((e : Tree) → Has (trees_in_form f) e → IsTreeRight e) → AllMeet w (operands_code (table_of addressed) line f)
    operands_meet line (form.Assign x t) each =
        both_meet w (tree_code (names_of addressed) line t) (target_code (names_of addressed) line x)
        (right_meets line t (each t (has_behind x.subscripts (t ∷ []) t (zero, refl))))
        (list_meets line x.subscripts (λ e h. each e (has_front x.subscripts (t ∷ []) e h)))
    operands_meet line (form.ComputedGoTo labels t) each = right_meets line t (each t (zero, refl))
    operands_meet line (form.ArithmeticIf t labels) each = right_meets line t (each t (zero, refl))
    operands_meet line (form.IfThen t) each = right_meets line t (each t (zero, refl))
    operands_meet line (form.ElseIf t) each = right_meets line t (each t (zero, refl))
    operands_meet line (form.Do c) each =
        both_meet w (tree_code (names_of addressed) line c.initial) (tree_code (names_of addressed) line c.limit ++ tree_code (names_of addressed) line (increment_of c.increment))
        (right_meets line c.initial (each c.initial (zero, refl))) (
        both_meet w (tree_code (names_of addressed) line c.limit) (tree_code (names_of addressed) line (increment_of c.increment))
        (right_meets line c.limit (each c.limit (suc zero, refl)))
        (increment_meets line c.increment (λ e h. each e (suc (suc h.0), h.1))))
    operands_meet line (form.Call p ts) each = flat_meets w (actual_code (names_of addressed) line) ts (λ t h. actual_meets line t (each t h).0 (each t h).1)
    operands_meet line (form.Create p ts) each = flat_meets w (actual_code (names_of addressed) line) ts (λ t h. actual_meets line t (each t h).0 (each t h).1)
    operands_meet line (form.Purge targets) each =
        flat_meets w (target_code (names_of addressed) line) targets (λ t h. list_meets line t.subscripts (λ e g. each e (has_flat (λ (x : Target). x.subscripts) targets t e h g)))
    operands_meet line (form.Print items) each =
        flat_meets w (item_code (names_of addressed) line) items (λ i h. item_meets line i (λ e g. each e (has_flat trees_in_item items i e h g)))
    operands_meet line _ each = none_meet w

    ending_meets : (o : Option Name) → ((x : Name) → o ≡ Some x → w.variable (addressed.variables x)) → MeetsOperation w (ending_of (option_map addressed.variables o))
    ending_meets None result = tt
    ending_meets (Some x) result = result x refl

    operation_meets : (line k : ℕ) (f : Form) → IsFormRight f → AllMeet w (operation_code (table_of addressed) line k f)
    operation_meets line k (form.Assign x t) h = one_meets w _ (h.assigned x (zero, refl))
    operation_meets line k (form.ComputedGoTo labels t) h = first_meets w _ _ tt (images_meet w (λ l. To ((table_of addressed).labels l)) labels (λ l g. tt))
    operation_meets line k (form.Do c) h = one_meets w _ (h.looped c refl)
    operation_meets line k (form.Call p ts) h =
        first_meets w _ _ (h.called (record { occurrence = p; actuals = ts }) (zero, refl)) (
        images_meet w (λ t. Pass (argument_of (names_of addressed) t)) ts (λ t g. h.passed (record { occurrence = p; actuals = ts }) t (zero, refl) g))
    operation_meets line k (form.Create p ts) h =
        first_meets w _ _ (h.called (record { occurrence = p; actuals = ts }) (zero, refl), h.creating p ts refl) (
        images_meet w (λ t. Pass (argument_of (names_of addressed) t)) ts (λ t g. h.passed (record { occurrence = p; actuals = ts }) t (zero, refl) g))
    operation_meets line k (form.Purge targets) h =
        first_meets w _ _ (h.purging targets refl) (images_meet w (λ t. Pass (argument_of_target (names_of addressed) t)) targets (λ t g. h.purged t g))
    operation_meets line k (form.Print items) h = first_meets w _ _ tt (images_meet w (λ i. Show (printed_of i)) items (λ i g. tt))
    operation_meets line k form.Return h = one_meets w _ (ending_meets (function_name addressed.unit) known.result)
    operation_meets line k form.End h = one_meets w _ (ending_meets (function_name addressed.unit) known.result)
    operation_meets line k _ h = one_meets w _ tt

    form_meets : (line k : ℕ) (f : Form) → ((e : Tree) → Has (trees_in_form f) e → IsTreeRight e) → IsFormRight f → AllMeet w (form_code (table_of addressed) line k f)
    form_meets line k f each h =
        both_meet w (operands_code (table_of addressed) line f) (operation_code (table_of addressed) line k f) (operands_meet line f each) (operation_meets line k f h)

    -- ---- statements

    conditions_meet : (line k : ℕ) (ts : List Tree) (f : Form) → ((e : Tree) → Has ts e → IsTreeRight e) → AllMeet w (form_code (table_of addressed) line k f) → AllMeet w (conditions_code (table_of addressed) line k ts f)
    conditions_meet line k [] f each h = h
    conditions_meet line k (t ∷ ts) f each h =
        both_meet w (tree_code (names_of addressed) line t) _ (right_meets line t (each t (zero, refl))) (
        first_meets w (Step line (Condition ((table_of addressed).flows k).next)) _ tt (conditions_meet line k ts f (λ e g. each e (has_more t ts e g)) h))

    loop_end_meets : (d : ℕ) (f : Form) → IsFormRight f → AllMeet w (loop_end_code (table_of addressed) d f)
    loop_end_meets d (form.Do c) h = one_meets w _ (h.looped c refl)
    loop_end_meets d _ h = none_meet w

    statement_meets : (k : ℕ) (s : Statement) → IsRight s → AllMeet w (statement_code (table_of addressed) k s)
    statement_meets k s h =
        both_meet w (conditions_code (table_of addressed) s.line k s.conditions s.form) (loop_end_code (table_of addressed) k s.form) (
        conditions_meet s.line k s.conditions s.form (λ e g. h.expressions e (has_front s.conditions _ e g)) (
        form_meets s.line k s.form (λ e g. h.expressions e (in_form s e g)) h.rest)) (
        loop_end_meets k s.form h.rest)

    statements_meet : (k : ℕ) (ss : List Statement) → ((s : Statement) → Has ss s → IsRight s) → AllMeet w (statements_code (table_of addressed) k ss)
    statements_meet k [] each = one_meets w (Step 0 (ending_of (option_map addressed.variables (function_name addressed.unit)))) (ending_meets (function_name addressed.unit) known.result)
    statements_meet k (s ∷ ss) each =
        both_meet w (statement_code (table_of addressed) k s) (statements_code (table_of addressed) (suc k) ss) (statement_meets k s (each s (zero, refl))) (
        statements_meet (suc k) ss (λ t h. each t (has_more s ss t h)))

    pub code_meets : ((s : Statement) → Has addressed.unit s → IsRight s) → AllMeet w (code_of addressed)
    unfolding code_of
    code_meets each = statements_meet 0 addressed.unit each
