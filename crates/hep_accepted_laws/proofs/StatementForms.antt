-- Types of the names, expressions and statements of accepted programs.
use Rattle.std.proofs.Common.{⊎_elim, ◌≡◌, ℕ, zero, suc, Bool, true, false, true≢false, ◌∙◌, List, [], ◌∷◌, ◌++◌, map, Option, Some, None, refl, sym, ap, subst, ◌&&◌, not, slice_get, if◌then◌else◌, is_none, is_some, option_to_list, take}
use Rattle.std.specs.List.{flat_map, list_all}
use Rattle.std.specs.Option.{option_map, unwrap_or}
use Rattle.std.proofs.lemmas.Grind.{flat_map-append}
use Rattle.std.proofs.lemmas.Bool.{and_from, and_parts, not_from_false}
use Rattle.std.proofs.lemmas.Option.{none-some, same_Some}
use Rattle.hep_machine.specs.Words.{Tree, trees_of, CommonBlock, DataGroup, Declarator, Dimension, NamedConstant, Target, UpperBound, ValueType, Integer, Logical, Occurrence, DoControl, Form, PrintItem, Statement, Units, groups_in, constants_in, declarators_in, is_array, is_dummy, is_nonempty, named_constants, type_of}
use Rattle.hep_machine.specs.Words.{Meaning, element, listed_meaning, external, array_occurrence, occurrences_in, occurrences_in_block, occurrences_in_constant, occurrences_in_control, occurrences_in_data_value, occurrences_in_declarator, occurrences_in_dimension, occurrences_in_form, occurrences_in_group}
use Rattle.hep_machine.specs.Words.{function_by_header, function_name, is_referenced, occurrences_in_declared, unit_at, Name, pure, state}
use Rattle.hep_machine.specs.Words.{occurrences_in_item, occurrences_in_some, occurrences_in_statement, occurrences_in_target, occurrences_in_upper}
use Rattle.hep_source.specs.declared.declaration.UpperBound.TheVariants as bound
use Rattle.hep_source.specs.declared.statement.Form.TheVariants as form
use Rattle.hep_source.specs.declared.statement.PrintItem.TheVariants as item
use Rattle.hep_conditions.specs.Words.{is_reference_given, IsAccepted, Parameters, are_constants_given, has_bounds, has_constant_subscripts, is_bound, is_constant_given, is_dimension, is_group_typed, is_statement_typed, is_upper_bound, no_parameters, type_violations_from, with_parameter, with_parameters, is_counted}
use Rattle.hep_conditions.specs.Words.{FunctionTypes, function_types, has_value, is_constant_of, is_function_in, is_untyped, no_functions, NameWithList, untyped_in, names_with_lists, names_with_lists_in, subexpressions_of, trees_in_declarator, trees_in_dimension, trees_in_form, trees_in_item, trees_in_statement, trees_in_upper, are_actuals, are_integers, is_form_typed, is_item_typed, is_list_typed, is_of}
use Rattle.hep_conditions.specs.Words.{is_scalar_target, is_target_typed, is_typed, is_typed_as, type_of_tree, at_line, at_occurrence, when}
use Rattle.hep_accepted_laws.specs.PartlyEvaluated.{HasOperands, HasType, IsOf}
use Rattle.hep_accepted_laws.proofs.Agreed.{counted, given, references_agree}
use Rattle.hep_accepted_laws.proofs.Fixed.{ArePure, pure_bound, pure_value, same_typed}
use Rattle.hep_accepted_laws.proofs.NameMeanings.{named_so, no_function_alone}
use Rattle.hep_accepted_laws.proofs.Members.{Each, Has, each_append, each_none, each_one, all_has, has_behind, has_either, has_flat, has_front, has_one}
use Rattle.hep_accepted_laws.proofs.Operands.{AreNamesTyped, AreRight, IsGood, actuals_parts, good_part, has_known_type, is_actual, is_known, is_name_typed, is_of_type, is_right, list_actuals, typed_actual}
use Rattle.hep_accepted_laws.proofs.Parts.{all-each, all_from, none-append, none-each, none-when, some_value, unviolated}
use Rattle.hep_conditions.proofs.Agreeing.{with_parameters-append, none-when as none-unless}

-- ---- names

pub names_have_types : (program : Units) (u k i : ℕ) (unit : List Statement) (s : Statement) (p : Occurrence) → IsAccepted program → slice_get program u ≡ Some unit → slice_get unit k ≡ Some s → slice_get (occurrences_in_statement unit s) i ≡ Some p → (t : ValueType) × (type_of unit p.name ≡ Some t)
names_have_types program u k i unit s p accepted iu ik ip =
    let fs : FunctionTypes = function_types program in
    let here = none-each (untyped_in fs unit) unit k s (unviolated program unit u accepted iu).type_missing ik in
    let one = none-each (λ (q : Occurrence). when (is_untyped fs unit q.name) (at_occurrence 301 s.line q)) (occurrences_in_statement unit s) i p here ip in
    let tests : (is_none (type_of unit p.name) && not (is_function_in fs unit p.name)) ≡ false = none-when _ (at_occurrence 301 s.line p) one in
    let plain = no_function_alone program u k i unit s p accepted iu ik ip in
    some_value (type_of unit p.name) (typed_or (is_none (type_of unit p.name)) (is_function_in fs unit p.name) plain tests) where
      typed_or : (b f : Bool) → f ≡ false → (b && not f) ≡ false → b ≡ false
      typed_or false f e g = refl
      typed_or true false e g = absurd (true≢false g)
      typed_or true true e g = absurd (true≢false e)

-- ---- what occurs in the expressions of a statement is among its occurrences

module _ (unit : List Statement) where
  -- what occurs in one of these expressions is one of these
  record Within (ts : List Tree) (ps : List Occurrence) : Type 0 where
    at : (e : Tree) (p : Occurrence) → Has ts e → Has (occurrences_in unit e) p → Has ps p

  none_within : {ps : List Occurrence} → Within [] ps
  none_within = record { at = λ e p h g. absurd (none-some e h.1) }

  one_within : (t : Tree) → Within (t ∷ []) (occurrences_in unit t)
  one_within t = record { at = λ e p h g. subst (λ w. Has (occurrences_in unit w) p) (sym (has_one t e h)) g }

  in_front : {ts : List Tree} {ps : List Occurrence} (qs : List Occurrence) → Within ts ps → Within ts (ps ++ qs)
  in_front {ts} {ps} qs w = record { at = λ e p h g. has_front ps qs p (w.at e p h g) }

  behind : {ts : List Tree} {ps : List Occurrence} (qs : List Occurrence) → Within ts ps → Within ts (qs ++ ps)
  behind {ts} {ps} qs w = record { at = λ e p h g. has_behind qs ps p (w.at e p h g) }

  both_within : {ts us : List Tree} {ps : List Occurrence} → Within ts ps → Within us ps → Within (ts ++ us) ps
  both_within {ts} {us} v w = record { at = λ e p h g. ⊎_elim (λ i. v.at e p i g) (λ i. w.at e p i g) (has_either ts us e h) }

  append_within : {ts us : List Tree} {ps qs : List Occurrence} → Within ts ps → Within us qs → Within (ts ++ us) (ps ++ qs)
  append_within {ts} {us} {ps} {qs} v w = both_within (in_front qs v) (behind ps w)

  flat_within : {A : Type 0} {f : A → List Tree} {g : A → List Occurrence} → ((x : A) → Within (f x) (g x)) → (xs : List A) → Within (flat_map f xs) (flat_map g xs)
  flat_within each [] = none_within
  flat_within each (x ∷ xs) = append_within (each x) (flat_within each xs)

  all_within : (ts : List Tree) → Within ts (flat_map (occurrences_in unit) ts)
  all_within [] = none_within
  all_within (t ∷ ts) = append_within (one_within t) (all_within ts)

  some_within : (o : Option Tree) → Within (option_to_list o) (occurrences_in_some unit o)
  some_within None = none_within
  some_within (Some t) = one_within t

  upper_within : (b : UpperBound) → Within (trees_in_upper b) (occurrences_in_upper unit b)
  upper_within (bound.Expression t) = one_within t
  upper_within bound.Open = none_within

  dimension_within : (d : Dimension) → Within (trees_in_dimension d) (occurrences_in_dimension unit d)
  dimension_within d = append_within (some_within d.lower) (upper_within d.upper)

  declarator_within : (d : Declarator) → Within (trees_in_declarator d) (occurrences_in_declarator unit d)
  declarator_within d = behind (d.occurrence ∷ []) (flat_within dimension_within d.dimensions)

  -- what a type statement names
  declared_within : (d : Declarator) → Within (trees_in_declarator d) (occurrences_in_declared unit d)
  declared_within d = by_dimensions d.dimensions where
    by_dimensions : (ds : List Dimension) → Within (flat_map trees_in_dimension ds) (if not (is_nonempty ds) && is_referenced unit d.occurrence.name then [] else d.occurrence ∷ flat_map (occurrences_in_dimension unit) ds)
    by_dimensions [] = none_within
    by_dimensions (m ∷ ms) = behind (d.occurrence ∷ []) (flat_within dimension_within (m ∷ ms))

  blocks_within : (bs : List CommonBlock) → Within (flat_map trees_in_declarator (flat_map (λ (b : CommonBlock). b.entries) bs)) (flat_map (occurrences_in_block unit) bs)
  blocks_within [] = none_within
  blocks_within (b ∷ bs) =
      rw (flat_map-append trees_in_declarator b.entries (flat_map (λ (c : CommonBlock). c.entries) bs)) (append_within (flat_within declarator_within b.entries) (blocks_within bs))

  bounds_within : (f : Form) → Within (flat_map trees_in_declarator (declarators_in f)) (occurrences_in_form unit f)
  bounds_within (form.Declare t ds) = flat_within declared_within ds
  bounds_within (form.Dimension ds) = flat_within declarator_within ds
  bounds_within (form.Common bs) = blocks_within bs
  bounds_within _ = none_within

  constants_within : (cs : List NamedConstant) → Within (map (λ (c : NamedConstant). c.value) cs) (flat_map (occurrences_in_constant unit) cs)
  constants_within [] = none_within
  constants_within (c ∷ cs) = append_within (behind (c.occurrence ∷ []) (one_within c.value)) (constants_within cs)

  parameters_within : (f : Form) → Within (map (λ (c : NamedConstant). c.value) (constants_in f)) (occurrences_in_form unit f)
  parameters_within (form.Parameter cs) = constants_within cs
  parameters_within _ = none_within

  target_within : (t : Target) → Within t.subscripts (occurrences_in_target unit t)
  target_within t = behind (if is_nonempty t.subscripts then array_occurrence unit t.occurrence else t.occurrence ∷ []) (all_within t.subscripts)

  group_within : (g : DataGroup) → Within (flat_map (λ (t : Target). t.subscripts) g.targets) (occurrences_in_group unit g)
  group_within g = in_front (flat_map occurrences_in_data_value g.values) (flat_within target_within g.targets)

  groups_within : (f : Form) → Within (flat_map (λ (g : DataGroup). flat_map (λ (t : Target). t.subscripts) g.targets) (groups_in f)) (occurrences_in_form unit f)
  groups_within (form.Data gs) = flat_within group_within gs
  groups_within _ = none_within

  control_within : (c : DoControl) → Within (c.initial ∷ c.limit ∷ option_to_list c.increment) (occurrences_in_control unit c)
  control_within c = behind (c.variable ∷ []) (append_within (one_within c.initial) (append_within (one_within c.limit) (some_within c.increment)))

  item_within : (i : PrintItem) → Within (trees_in_item i) (occurrences_in_item unit i)
  item_within (item.Expression t) = one_within t
  item_within (item.Characters cs) = none_within

  form_within : (f : Form) → Within (trees_in_form f) (occurrences_in_form unit f)
  form_within (form.Assign x t) = append_within (target_within x) (one_within t)
  form_within (form.ComputedGoTo labels t) = one_within t
  form_within (form.ArithmeticIf t labels) = one_within t
  form_within (form.IfThen t) = one_within t
  form_within (form.ElseIf t) = one_within t
  form_within (form.Do c) = control_within c
  form_within (form.Call x ts) = all_within ts
  form_within (form.Create x ts) = all_within ts
  form_within (form.Purge targets) = flat_within target_within targets
  form_within (form.Print items) = flat_within item_within items
  form_within _ = none_within

  statement_within : (s : Statement) → Within (trees_in_statement s) (occurrences_in_statement unit s)
  statement_within s =
      append_within (all_within s.conditions) (both_within (bounds_within s.form) (both_within (parameters_within s.form) (both_within (groups_within s.form) (form_within s.form))))

-- each occurrence in an expression of a statement is one in the statement
pub occurrence_in_statement : (unit : List Statement) (s : Statement) (e : Tree) (p : Occurrence) → Has (trees_in_statement s) e → Has (occurrences_in unit e) p → Has (occurrences_in_statement unit s) p
occurrence_in_statement unit s e p h g = (statement_within unit s).at e p h g

pub is_there : {A : Type 0} (o : Option A) → (x : A) × (o ≡ Some x) → is_some o ≡ true
is_there o h = ap is_some h.1

pub names_in : (program : Units) (u k : ℕ) (unit : List Statement) (s : Statement) (e : Tree) → IsAccepted program → slice_get program u ≡ Some unit → slice_get unit k ≡ Some s → Has (trees_in_statement s) e → AreNamesTyped (function_types program) unit (occurrences_in unit e)
names_in program u k unit s e accepted iu ik h =
    all_from (is_name_typed (function_types program) unit) (occurrences_in unit e) (λ i p g.
    let o = occurrence_in_statement unit s e p h (i, g) in
    and_from (is_some (type_of unit p.name)) (not (is_function_in (function_types program) unit p.name)) (is_there (type_of unit p.name) (names_have_types program u k o.0 unit s p accepted iu ik o.1))
    (not_from_false (is_function_in (function_types program) unit p.name) (no_function_alone program u k o.0 unit s p accepted iu ik o.1)))

-- ---- names with lists in the expressions of a statement

-- the name of a function stands in its header
header_of : (callee unit : List Statement) (x : Name) → function_name callee ≡ Some x → (s : Statement) × (slice_get callee 0 ≡ Some s) × (p : Occurrence) × (p.name ≡ x) × Has (occurrences_in_form unit s.form) p
header_of [] unit x e = absurd (none-some x e)
header_of (s ∷ ss) unit x e = let h = by_form s.form e in (s, refl, h.0, h.1, h.2) where
  by_form : (f : Form) → function_by_header f ≡ Some x → (p : Occurrence) × (p.name ≡ x) × Has (occurrences_in_form unit f) p
  by_form (form.Function t p ds) g = (p, same_Some p.name x g, (0, refl))
  by_form _ g = absurd (none-some x g)

-- a function of the program that a unit refers to is an integer or logical
function_typed : (program : Units) (u k i : ℕ) (unit : List Statement) (s : Statement) (r : NameWithList) → IsAccepted program → slice_get program u ≡ Some unit → slice_get unit k ≡ Some s → slice_get (names_with_lists s) i ≡ Some r → listed_meaning unit r.occurrence.name ≡ external
    → (t : ValueType) × (function_types program r.occurrence.name ≡ Some (Some t))
function_typed program u k i unit s r accepted iu ik ir means =
    let x = r.occurrence.name in
    let refers = references_agree program u k i unit s r accepted iu ik ir means in
    let callee = refers.1 in
    let header = header_of callee callee x (named_so (function_name callee) x refers.4) in
    let w = header.0 in
    let there = has_behind (flat_map (occurrences_in callee) w.conditions) (occurrences_in_form callee w.form) header.2 header.4 in
    let t = names_have_types program refers.0 0 there.0 callee w header.2 accepted refers.3 header.1 there.1 in
    let at : unit_at program refers.0 ≡ callee = ap (λ (o : Option (List Statement)). unwrap_or o []) refers.3 in
    let known : type_of (unit_at program refers.0) x ≡ Some t.0 = (λ n. type_of (at n) (sym header.3 n)) ∙ t.1 in
    (t.0, ap (option_map (λ u. type_of (unit_at program u) x)) refers.2 ∙ ap (λ o. Some o) known)

known_list : (program : Units) (u k i : ℕ) (unit : List Statement) (s : Statement) (r : NameWithList) → IsAccepted program → slice_get program u ≡ Some unit → slice_get unit k ≡ Some s → slice_get (names_with_lists s) i ≡ Some r
    → is_known (function_types program) (listed_meaning unit r.occurrence.name) r.occurrence.name ≡ true
known_list program u k i unit s r accepted iu ik ir = by_meaning (listed_meaning unit r.occurrence.name) refl where
  by_meaning : (m : Meaning) → listed_meaning unit r.occurrence.name ≡ m → is_known (function_types program) m r.occurrence.name ≡ true
  by_meaning external e = let t = function_typed program u k i unit s r accepted iu ik ir e in ap has_known_type t.1
  by_meaning element e = refl
  by_meaning (pure f) e = refl
  by_meaning (state f) e = refl

pub lists_in : (program : Units) (u k : ℕ) (unit : List Statement) (s : Statement) (e : Tree) → IsAccepted program → slice_get program u ≡ Some unit → slice_get unit k ≡ Some s → Has (trees_in_statement s) e → AreRight (function_types program) unit (names_with_lists_in e)
lists_in program u k unit s e accepted iu ik h =
    all_from (is_right (function_types program) unit) (names_with_lists_in e) (λ i r g.
    let o = has_flat names_with_lists_in (trees_in_statement s) e r h (i, g) in
    let count = all_has (is_counted unit) (names_with_lists s) r (counted program unit u k s accepted iu ik).0 o in
    let fit = all_has (is_reference_given (function_types program) unit) (names_with_lists s) r (given program unit u k s accepted iu ik).2 o in
    let known = known_list program u k o.0 unit s r accepted iu ik o.1 in
    and_from (is_known (function_types program) (listed_meaning unit r.occurrence.name) r.occurrence.name) (is_counted unit r && is_reference_given (function_types program) unit r) known (and_from (is_counted unit r) (is_reference_given (function_types program) unit r) count fit))

-- ---- what 302 says of a statement

typed_from : (functions : FunctionTypes) (unit : List Statement) (ps : Parameters) (ss : List Statement) (k : ℕ) (s : Statement) → type_violations_from functions unit ps ss ≡ [] → slice_get ss k ≡ Some s → is_statement_typed functions unit (with_parameters unit ps (named_constants (take k ss))) s ≡ true
typed_from functions unit ps [] k s e g = absurd (none-some s g)
typed_from functions unit ps (w ∷ ws) zero s e g =
    subst (λ (v : Statement). is_statement_typed functions unit ps v ≡ true) (same_Some w s g) (
    none-unless _ (at_line 302 w.line) (none-append (when (not (is_statement_typed functions unit ps w)) (at_line 302 w.line)) (type_violations_from functions unit (with_parameters unit ps (constants_in w.form)) ws) e).0)
typed_from functions unit ps (w ∷ ws) (suc k) s e g =
    let more = (none-append (when (not (is_statement_typed functions unit ps w)) (at_line 302 w.line)) (type_violations_from functions unit (with_parameters unit ps (constants_in w.form)) ws) e).1 in
    subst (λ (qs : Parameters). is_statement_typed functions unit qs s ≡ true) (sym (with_parameters-append unit ps (constants_in w.form) (named_constants (take k ws)))) (
    typed_from functions unit (with_parameters unit ps (constants_in w.form)) ws k s more g)

-- the constants that are given before a statement
abbrev pub parameters_at : List Statement → ℕ → Parameters
parameters_at unit k = with_parameters unit no_parameters (named_constants (take k unit))

pub record IsTypedStatement (functions : FunctionTypes) (unit : List Statement) (ps : Parameters) (s : Statement) : Type 0 where
  pub conditions : list_all (is_typed_as functions unit Logical) s.conditions ≡ true
  pub form : is_form_typed functions unit s.form ≡ true
  pub constants : are_constants_given unit ps (constants_in s.form) ≡ true
  pub bounds : list_all (has_bounds unit ps) (declarators_in s.form) ≡ true
  pub groups : list_all (is_group_typed unit ps) (groups_in s.form) ≡ true

pub typed_statement : (program : Units) (u k : ℕ) (unit : List Statement) (s : Statement) → IsAccepted program → slice_get program u ≡ Some unit → slice_get unit k ≡ Some s → IsTypedStatement (function_types program) unit (parameters_at unit k) s
typed_statement program u k unit s accepted iu ik =
    let ps = parameters_at unit k in
    let test = typed_from (function_types program) unit no_parameters unit k s (unviolated program unit u accepted iu).types ik in
    let p1 = and_parts (list_all (is_typed_as (function_types program) unit Logical) s.conditions) _ test in
    let p2 = and_parts (is_form_typed (function_types program) unit s.form) _ p1.1 in
    let p3 = and_parts (are_constants_given unit ps (constants_in s.form)) _ p2.1 in
    let p4 = and_parts (list_all (has_bounds unit ps) (declarators_in s.form)) (list_all (is_group_typed unit ps) (groups_in s.form)) p3.1 in
    record { conditions = p1.0; form = p2.0; constants = p3.0; bounds = p4.0; groups = p4.1 }

-- ---- each expression of a statement is an operand or an actual argument

pub typed_as : (functions : FunctionTypes) (unit : List Statement) (t : ValueType) (e : Tree) → is_typed_as functions unit t e ≡ true → (is_typed functions unit e ≡ true) × (is_of t (type_of_tree functions unit e) ≡ true)
typed_as functions unit t e test = and_parts (is_typed functions unit e) (is_of t (type_of_tree functions unit e)) test

as_actual : (functions : FunctionTypes) (unit : List Statement) (t : ValueType) (e : Tree) → is_typed_as functions unit t e ≡ true → is_actual functions unit e ≡ true
as_actual functions unit t e test = typed_actual functions unit e (typed_as functions unit t e test).0

pub nonempty : {A : Type 0} (xs : List A) (x : A) → Has xs x → is_nonempty xs ≡ true
nonempty [] x h = absurd (none-some x h.1)
nonempty (y ∷ ys) x h = refl

abbrev pub target_meaning : List Statement → Target → Meaning
target_meaning unit t = if is_array unit t.occurrence.name then element else external

pub target_typed : (functions : FunctionTypes) (unit : List Statement) (t : Target) → is_target_typed functions unit t ≡ true → is_nonempty t.subscripts ≡ true
    → is_list_typed unit (target_meaning unit t) t.occurrence.name (trees_of t.subscripts) (are_integers functions unit (trees_of t.subscripts)) (are_actuals functions unit (trees_of t.subscripts)) ≡ true
target_typed functions unit t test e =
    subst (λ b. (if b then is_list_typed unit (target_meaning unit t) t.occurrence.name (trees_of t.subscripts) (are_integers functions unit (trees_of t.subscripts)) (are_actuals functions unit (trees_of t.subscripts)) else true) ≡ true) e test

pub constant_given : (unit : List Statement) (ps : Parameters) (cs : List NamedConstant) (i : ℕ) (c : NamedConstant) → are_constants_given unit ps cs ≡ true → slice_get cs i ≡ Some c → is_constant_given unit (with_parameters unit ps (take i cs)) c ≡ true
constant_given unit ps [] i c test g = absurd (none-some c g)
constant_given unit ps (d ∷ ds) zero c test g =
    subst (λ (v : NamedConstant). is_constant_given unit ps v ≡ true) (same_Some d c g) (and_parts (is_constant_given unit ps d) (are_constants_given unit (with_parameter unit ps d) ds) test).0
constant_given unit ps (d ∷ ds) (suc i) c test g =
    constant_given unit (with_parameter unit ps d) ds i c (and_parts (is_constant_given unit ps d) (are_constants_given unit (with_parameter unit ps d) ds) test).1 g

module _ (functions : FunctionTypes) (unit : List Statement) where
  abbrev AreActual : List Tree → Type 0
  AreActual ts = Each (λ e. is_actual functions unit e ≡ true) ts

  flat_actual : {A : Type 0} (f : A → List Tree) (test : A → Bool) → ((x : A) → test x ≡ true → AreActual (f x)) → (xs : List A) → list_all test xs ≡ true → AreActual (flat_map f xs)
  flat_actual f test each [] all = each_none
  flat_actual f test each (x ∷ xs) all = let parts = and_parts (test x) (list_all test xs) all in each_append (each x parts.0) (flat_actual f test each xs parts.1)

  all_as : (v : ValueType) (ts : List Tree) → list_all (is_typed_as functions unit v) ts ≡ true → AreActual ts
  all_as v ts all = record { at = λ e h. as_actual functions unit v e (all_has (is_typed_as functions unit v) ts e all h) }

  -- an expression of constants passes the tests without functions, and has references of functions of integers alone
  abbrev AreFixed : List Tree → Type 0
  AreFixed ts = Each (λ e. (is_typed no_functions unit e ≡ true) × ArePure unit (names_with_lists_in e)) ts

  flat_fixed : {A : Type 0} (f : A → List Tree) (test : A → Bool) → ((x : A) → test x ≡ true → AreFixed (f x)) → (xs : List A) → list_all test xs ≡ true → AreFixed (flat_map f xs)
  flat_fixed f test each [] all = each_none
  flat_fixed f test each (x ∷ xs) all = let parts = and_parts (test x) (list_all test xs) all in each_append (each x parts.0) (flat_fixed f test each xs parts.1)

  bound_fixed : (ps : Parameters) (dummy : Bool) (t : Tree) → is_bound unit ps dummy t ≡ true → (is_typed no_functions unit t ≡ true) × ArePure unit (names_with_lists_in t)
  bound_fixed ps dummy t test =
      let both = and_parts (is_typed_as no_functions unit Integer t) _ test in
      ((typed_as no_functions unit Integer t both.0).0, pure_bound unit ps dummy t both.1)

  upper_fixed : (ps : Parameters) (dummy : Bool) (b : UpperBound) → is_upper_bound unit ps dummy b ≡ true → AreFixed (trees_in_upper b)
  upper_fixed ps dummy (bound.Expression t) test = each_one t (bound_fixed ps dummy t test)
  upper_fixed ps dummy bound.Open test = each_none

  dimension_fixed : (ps : Parameters) (dummy : Bool) (d : Dimension) → is_dimension unit ps dummy d ≡ true → AreFixed (trees_in_dimension d)
  dimension_fixed ps dummy d test =
      let both = and_parts (list_all (is_bound unit ps dummy) (option_to_list d.lower)) (is_upper_bound unit ps dummy d.upper) test in
      each_append (record { at = λ e h. bound_fixed ps dummy e (all_has (is_bound unit ps dummy) (option_to_list d.lower) e both.0 h) }) (upper_fixed ps dummy d.upper both.1)

  declarator_fixed : (ps : Parameters) (d : Declarator) → has_bounds unit ps d ≡ true → AreFixed (trees_in_declarator d)
  declarator_fixed ps d test = by_list d.dimensions _ test where
    by_list : (ds : List Dimension) (more : Bool) → (if is_nonempty ds then list_all (is_dimension unit ps (is_dummy unit d.occurrence.name)) ds && more else true) ≡ true → AreFixed (flat_map trees_in_dimension ds)
    by_list [] more e = each_none
    by_list (m ∷ ms) more e =
        flat_fixed trees_in_dimension (is_dimension unit ps (is_dummy unit d.occurrence.name)) (dimension_fixed ps (is_dummy unit d.occurrence.name)) (m ∷ ms) (and_parts (list_all (is_dimension unit ps (is_dummy unit d.occurrence.name)) (m ∷ ms)) more e).0

  constants_fixed : (ps : Parameters) (cs : List NamedConstant) → are_constants_given unit ps cs ≡ true → AreFixed (map (λ (c : NamedConstant). c.value) cs)
  constants_fixed ps [] test = each_none
  constants_fixed ps (c ∷ cs) test =
      let both = and_parts (is_constant_given unit ps c) (are_constants_given unit (with_parameter unit ps c) cs) test in
      let parts = and_parts (is_typed no_functions unit c.value) _ both.0 in
      let valued = and_parts (has_value unit ps c.value) _ parts.1 in
      each_append (each_one c.value (parts.0, pure_value unit ps c.value valued.0)) (constants_fixed (with_parameter unit ps c) cs both.1)

  subscripts_fixed : (ps : Parameters) (t : Target) → has_constant_subscripts unit ps t ≡ true → AreFixed t.subscripts
  subscripts_fixed ps t test =
      let each = (and_parts (is_target_typed no_functions unit t) (list_all (is_constant_of unit ps Integer) t.subscripts) test).1 in
      record {
        at = λ e h.
            let parts = and_parts (is_typed_as no_functions unit Integer e) (has_value unit ps e) (all_has (is_constant_of unit ps Integer) t.subscripts e each h) in
            ((typed_as no_functions unit Integer e parts.0).0, pure_value unit ps e parts.1);
      }

  group_fixed : (ps : Parameters) (g : DataGroup) → is_group_typed unit ps g ≡ true → AreFixed (flat_map (λ (t : Target). t.subscripts) g.targets)
  group_fixed ps g test = flat_fixed (λ (t : Target). t.subscripts) (has_constant_subscripts unit ps) (subscripts_fixed ps) g.targets test

  -- they pass them with functions too
  fixed_actual : (ts : List Tree) → ((e : Tree) → Has ts e → AreNamesTyped functions unit (occurrences_in unit e)) → AreFixed ts → AreActual ts
  fixed_actual ts names fixed = record { at = λ e h. let f = fixed.at e h in typed_actual functions unit e (sym (same_typed functions unit e (names e h) f.1) ∙ f.0) }

  list_actual : (ts : List Tree) → are_actuals functions unit (trees_of ts) ≡ true → AreActual ts
  list_actual [] test = each_none
  list_actual (t ∷ ts) test = let both = actuals_parts functions unit t (trees_of ts) test in each_append (each_one t both.0) (list_actual ts both.1)

  target_actual : (t : Target) → is_target_typed functions unit t ≡ true → AreActual t.subscripts
  target_actual t test =
      record {
        at = λ e h.
            (list_actual t.subscripts (list_actuals functions unit (target_meaning unit t) t.occurrence.name (trees_of t.subscripts) (target_typed functions unit t test (nonempty t.subscripts e h)))).at e h;
      }

  item_actual : (i : PrintItem) → is_item_typed functions unit i ≡ true → AreActual (trees_in_item i)
  item_actual (item.Expression t) test = each_one t (typed_actual functions unit t (and_parts (is_typed functions unit t) _ test).0)
  item_actual (item.Characters cs) test = each_none

  form_actual : (f : Form) → is_form_typed functions unit f ≡ true → AreActual (trees_in_form f)
  form_actual (form.Assign x t) test =
      let p1 = and_parts (is_scalar_target unit x) _ test in
      let p2 = and_parts (is_target_typed functions unit x) _ p1.1 in
      each_append (target_actual x p2.0) (each_one t (typed_actual functions unit t (and_parts (is_typed functions unit t) _ p2.1).0))
  form_actual (form.ComputedGoTo labels t) test = each_one t (as_actual functions unit Integer t test)
  form_actual (form.ArithmeticIf t labels) test = each_one t (as_actual functions unit Integer t test)
  form_actual (form.IfThen t) test = each_one t (as_actual functions unit Logical t test)
  form_actual (form.ElseIf t) test = each_one t (as_actual functions unit Logical t test)
  form_actual (form.Do c) test = all_as Integer (c.initial ∷ c.limit ∷ option_to_list c.increment) (and_parts (not (is_array unit c.variable.name)) _ test).1
  form_actual (form.Call x ts) test = list_actual ts test
  form_actual (form.Create x ts) test = list_actual ts test
  form_actual (form.Purge targets) test = flat_actual (λ (t : Target). t.subscripts) (is_target_typed functions unit) target_actual targets test
  form_actual (form.Print items) test = flat_actual trees_in_item (is_item_typed functions unit) item_actual items test
  form_actual _ test = each_none

  statement_actual : (ps : Parameters) (s : Statement) → ((e : Tree) → Has (trees_in_statement s) e → AreNamesTyped functions unit (occurrences_in unit e)) → IsTypedStatement functions unit ps s → AreActual (trees_in_statement s)
  statement_actual ps s names t =
      let bounds = flat_map trees_in_declarator (declarators_in s.form) in
      let values = map (λ (c : NamedConstant). c.value) (constants_in s.form) in
      let subscripts = flat_map (λ (g : DataGroup). flat_map (λ (t : Target). t.subscripts) g.targets) (groups_in s.form) in
      let own = trees_in_form s.form in
      each_append (all_as Logical s.conditions t.conditions) (
      each_append (fixed_actual bounds (λ e h. names e (has_behind s.conditions (bounds ++ (values ++ (subscripts ++ own))) e (has_front bounds (values ++ (subscripts ++ own)) e h))) (flat_fixed trees_in_declarator (has_bounds unit ps) (declarator_fixed ps) (declarators_in s.form) t.bounds)) (
      each_append (fixed_actual values (λ e h. names e (has_behind s.conditions (bounds ++ (values ++ (subscripts ++ own))) e (has_behind bounds (values ++ (subscripts ++ own)) e (has_front values (subscripts ++ own) e h)))) (constants_fixed ps (constants_in s.form) t.constants)) (
      each_append (fixed_actual subscripts (λ e h. names e (has_behind s.conditions (bounds ++ (values ++ (subscripts ++ own))) e (has_behind bounds (values ++ (subscripts ++ own)) e (has_behind values (subscripts ++ own) e (has_front subscripts own e h))))) (flat_fixed (λ (g : DataGroup). flat_map (λ (t : Target). t.subscripts) g.targets) (is_group_typed unit ps) (group_fixed ps) (groups_in s.form) t.groups)) (form_actual s.form t.form))))

-- ---- expressions

pub good_expressions : (program : Units) (u k i j : ℕ) (unit : List Statement) (s : Statement) (e t : Tree) → IsAccepted program → slice_get program u ≡ Some unit → slice_get unit k ≡ Some s → slice_get (trees_in_statement s) i ≡ Some e → slice_get (subexpressions_of e) j ≡ Some t → IsGood (function_types program) unit t
good_expressions program u k i j unit s e t accepted iu ik ie jt =
    good_part (function_types program) unit e j t (names_in program u k unit s e accepted iu ik (i, ie)) (lists_in program u k unit s e accepted iu ik (i, ie)) (
    (statement_actual (function_types program) unit (parameters_at unit k) s (λ v h. names_in program u k unit s v accepted iu ik h) (typed_statement program u k unit s accepted iu ik)).at e (i, ie)) jt

pub expressions_have_types : (program : Units) (u k i j : ℕ) (unit : List Statement) (s : Statement) (e t : Tree) → IsAccepted program → slice_get program u ≡ Some unit → slice_get unit k ≡ Some s → slice_get (trees_in_statement s) i ≡ Some e → slice_get (subexpressions_of e) j ≡ Some t → HasType (function_types program) unit t
expressions_have_types program u k i j unit s e t accepted iu ik ie jt = (good_expressions program u k i j unit s e t accepted iu ik ie jt).0

pub operands_have_types : (program : Units) (u k i j : ℕ) (unit : List Statement) (s : Statement) (e t : Tree) → IsAccepted program → slice_get program u ≡ Some unit → slice_get unit k ≡ Some s → slice_get (trees_in_statement s) i ≡ Some e → slice_get (subexpressions_of e) j ≡ Some t → HasOperands (function_types program) unit t
operands_have_types program u k i j unit s e t accepted iu ik ie jt = (good_expressions program u k i j unit s e t accepted iu ik ie jt).1

-- an expression of a statement that passes the test of this type
expression_is_of : (program : Units) (u k : ℕ) (unit : List Statement) (s : Statement) (v : ValueType) (e : Tree) → IsAccepted program → slice_get program u ≡ Some unit → slice_get unit k ≡ Some s → Has (trees_in_statement s) e → is_typed_as (function_types program) unit v e ≡ true → IsOf (function_types program) unit v e
expression_is_of program u k unit s v e accepted iu ik h test =
    is_of_type (function_types program) unit v e (names_in program u k unit s e accepted iu ik h) (lists_in program u k unit s e accepted iu ik h) (typed_as (function_types program) unit v e test).1

pub conditions_are_logical : (program : Units) (u k i : ℕ) (unit : List Statement) (s : Statement) (t : Tree) → IsAccepted program → slice_get program u ≡ Some unit → slice_get unit k ≡ Some s → slice_get s.conditions i ≡ Some t → IsOf (function_types program) unit Logical t
conditions_are_logical program u k i unit s t accepted iu ik it =
    expression_is_of program u k unit s Logical t accepted iu ik (has_front s.conditions _ t (i, it)) (
    all-each (is_typed_as (function_types program) unit Logical) s.conditions i t (typed_statement program u k unit s accepted iu ik).conditions it)
