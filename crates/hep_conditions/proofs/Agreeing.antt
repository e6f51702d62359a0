-- The constants that the conditions keep are those of the source machine.
use Rattle.std.proofs.Common.{◌≡◌, ℕ, zero, suc, Bool, true, false, List, [], ◌∷◌, ◌++◌, map, Option, Some, None, refl, sym, ap, ◌∙◌, subst, ◌&&◌, ◌||◌, not, if◌then◌else◌, is_some, slice_get}
use Rattle.std.specs.List.{flat_map, list_all, list_any}
use Rattle.std.specs.Option.{option_or}
use Rattle.std.proofs.lemmas.Bool.{and_parts, false≢true}
use Rattle.std.proofs.lemmas.List.Folds.{list_all-append}
use Rattle.std.proofs.lemmas.Option.{none-some, same_Some}
use Rattle.hep_machine.specs.Words.{NamedConstant, Name, Occurrence, Statement, Value, same_name, is_among, Tree, Units, Constants, value_of, value_among, with_constant, given_by, constants_in, declarators_in, named_constants, occurrences_in}
use Rattle.hep_source.proofs.NameTests.{equal_names}
use Rattle.hep_conditions.specs.declared.violation.Violation.{Violation}
use Rattle.hep_conditions.specs.Words.{IsAccepted, violations_in, Parameters, no_parameters, is_open, is_given, is_known, is_constant_given, value_by, with_parameter, with_parameters, are_constants_given, is_statement_typed, type_violations_from, type_violations, is_counted, is_call_counted, is_reference_counted, FunctionTypes, function_types, count_violations, Keeps, type_missing_violations, names_with_lists, names_with_lists_in, trees_in_declarator, calls_in, Violations, at_line, when}

-- ---- no violations

none-append : (vs ws : Violations) → vs ++ ws ≡ [] → (vs ≡ []) × (ws ≡ [])
none-append [] ws e = (refl, e)
none-append (v ∷ vs) ws e = absurd cc

none-each : {A : Type 0} (f : A → Violations) (xs : List A) (i : ℕ) (x : A) → flat_map f xs ≡ [] → slice_get xs i ≡ Some x → f x ≡ []
none-each f [] i x e is = absurd (none-some x is)
none-each f (y ∷ ys) zero x e is = subst (λ z. f z ≡ []) (same_Some y x is) (none-append (f y) (flat_map f ys) e).0
none-each f (y ∷ ys) (suc i) x e is = none-each f ys i x (none-append (f y) (flat_map f ys) e).1 is

pub none-when : (b : Bool) (v : Violation) → when (not b) v ≡ [] → b ≡ true
none-when true v e = refl
none-when false v e = absurd cc

-- ---- all of several lists

pub all-parts : {A : Type 0} (p : A → Bool) (xs ys : List A) → list_all p (xs ++ ys) ≡ true → (list_all p xs ≡ true) × (list_all p ys ≡ true)
all-parts p xs ys e = and_parts (list_all p xs) (list_all p ys) (sym (list_all-append p xs ys) ∙ e)

all_of-parts : {A B : Type 0} (p : B → Bool) (f : A → List B) (xs ys : List A) → list_all p (flat_map f (xs ++ ys)) ≡ true → (list_all p (flat_map f xs) ≡ true) × (list_all p (flat_map f ys) ≡ true)
all_of-parts p f [] ys e = (refl, e)
all_of-parts p f (x ∷ xs) ys e =
    let here = all-parts p (f x) (flat_map f (xs ++ ys)) e in
    let more = all_of-parts p f xs ys here.1 in
    (list_all-append p (f x) (flat_map f xs) ∙ ap (λ b. b && list_all p (flat_map f xs)) here.0 ∙ more.0, more.1)

-- ---- values of names

or_none : {A : Type 0} (o : Option A) → o ≡ option_or o None
or_none None = refl
or_none (Some x) = refl

value_if : Bool → Option Value → Option Value
value_if b v = if b then v else None

none_if : (b : Bool) → None ≡ value_if b None
unfolding value_if
none_if true = refl
none_if false = refl

-- a name has the value that it had, else the one that came where it is the same name
value-with_constant : (known : Constants) (x : Name) (v : Option Value) (y : Name) → value_among (with_constant known x v) y ≡ option_or (value_among known y) (value_if (same_name x y) v)
unfolding value_if
value-with_constant known x None y = or_none (value_among known y) ∙ ap (option_or (value_among known y)) (none_if (same_name x y))
value-with_constant known x (Some v) y = after known where
  by_test : (b : Bool) (w : Value) (o rest : Option Value) (rest_after : Option Value) → rest_after ≡ option_or o rest → (if b then Some w else rest_after) ≡ option_or (if b then Some w else o) rest
  by_test true w o rest rest_after e = refl
  by_test false w o rest rest_after e = e

  after : (cs : Constants) → value_among (cs ++ (x, v) ∷ []) y ≡ option_or (value_among cs y) (value_if (same_name x y) (Some v))
  after [] = refl
  after (c ∷ cs) = by_test (same_name c.0 y) c.1 (value_among cs y) (value_if (same_name x y) (Some v)) (value_among (cs ++ (x, v) ∷ []) y) (after cs)

-- a name that has a value keeps it
value-given : (known : Constants) (x : Name) (v : Option Value) (y : Name) → is_some (value_among known x) ≡ true → value_among (with_constant known x v) y ≡ value_among known y
unfolding value_if
value-given known x v y given = value-with_constant known x v y ∙ by_value (value_among known y) refl (same_name x y) refl where
  by_value : (o : Option Value) → value_among known y ≡ o → (b : Bool) → same_name x y ≡ b → option_or o (value_if b v) ≡ o
  by_value (Some w) e b f = refl
  by_value None e false f = refl
  by_value None e true f = absurd (false≢true (sym (ap is_some (ap (value_among known) (equal_names x y f) ∙ e)) ∙ given))

-- ---- a constant

none_doubtful : (ps : List Occurrence) → list_any (λ (p : Occurrence). is_among p.name []) ps ≡ false
none_doubtful [] = refl
none_doubtful (p ∷ ps) = none_doubtful ps

not_open : (unit : List Statement) (ps : Parameters) (t : Tree) → ps.doubtful ≡ [] → list_all (is_counted unit) (names_with_lists_in t) ≡ true → is_open unit ps t ≡ false
not_open unit ps t e h =
    ap (λ b. list_any (λ (p : Occurrence). is_among p.name ps.doubtful) (occurrences_in unit t) || not b) h
    ∙ ap (λ ds. list_any (λ (p : Occurrence). is_among p.name ds) (occurrences_in unit t) || false) e
    ∙ ap (λ b. b || false) (none_doubtful (occurrences_in unit t))

keeps_constant : (unit : List Statement) (ps : Parameters) (known : Constants) (c : NamedConstant) → Keeps ps known → list_all (is_counted unit) (names_with_lists_in c.value) ≡ true → is_constant_given unit ps c ≡ true → Keeps (with_parameter unit ps c) (with_constant known c.occurrence.name (value_of unit (value_among known) c.value))
unfolding value_if
keeps_constant unit ps known c k counted given = by_test (is_given ps c.occurrence.name) refl (is_known unit ps c) refl where
  same_value : value_by unit ps c.value ≡ value_of unit (value_among known) c.value
  same_value = ap (λ (values : Name → Option Value). value_of unit values c.value) (λ i y. k.1 y i)

  has_value_here : is_given ps c.occurrence.name ≡ true → is_some (value_among known c.occurrence.name) ≡ true
  has_value_here e =
      sym (ap is_some (k.1 c.occurrence.name))
      ∙ sym (ap (λ ds. is_among c.occurrence.name ds || is_some (value_among ps.known c.occurrence.name)) k.0)
      ∙ e

  is_known_here : is_known unit ps c ≡ true
  is_known_here = ap (λ b. not b && is_constant_given unit ps c) (not_open unit ps c.value k.0 counted) ∙ given

  new_value : (y : Name) → value_among (with_constant ps.known c.occurrence.name (value_by unit ps c.value)) y ≡ value_among (with_constant known c.occurrence.name (value_of unit (value_among known) c.value)) y
  new_value y =
      value-with_constant ps.known c.occurrence.name (value_by unit ps c.value) y
      ∙ (λ i. option_or (k.1 y i) (value_if (same_name c.occurrence.name y) (same_value i)))
      ∙ sym (value-with_constant known c.occurrence.name (value_of unit (value_among known) c.value) y)

  by_test : (g : Bool) → is_given ps c.occurrence.name ≡ g → (o : Bool) → is_known unit ps c ≡ o → Keeps (if g then ps else if o then record ps { known = with_constant ps.known c.occurrence.name (value_by unit ps c.value) } else record ps { doubtful = c.occurrence.name ∷ ps.doubtful }) (with_constant known c.occurrence.name (value_of unit (value_among known) c.value))
  by_test true e o f =
      (k.0, λ y. k.1 y ∙ sym (value-given known c.occurrence.name (value_of unit (value_among known) c.value) y (has_value_here e)))
  by_test false e true f = (k.0, new_value)
  by_test false e false f = absurd (false≢true (sym f ∙ is_known_here))

-- ---- the constants of a statement, and of statements

keeps_constants : (unit : List Statement) (ps : Parameters) (known : Constants) (cs : List NamedConstant) → Keeps ps known → list_all (is_counted unit) (flat_map names_with_lists_in (map (λ (c : NamedConstant). c.value) cs)) ≡ true → are_constants_given unit ps cs ≡ true → Keeps (with_parameters unit ps cs) (given_by unit known cs)
keeps_constants unit ps known [] k counted given = k
keeps_constants unit ps known (c ∷ cs) k counted given =
    let count = all-parts (is_counted unit) (names_with_lists_in c.value) (flat_map names_with_lists_in (map (λ (c : NamedConstant). c.value) cs)) counted in
    let both = and_parts (is_constant_given unit ps c) (are_constants_given unit (with_parameter unit ps c) cs) given in
    keeps_constants unit (with_parameter unit ps c) (with_constant known c.occurrence.name (value_of unit (value_among known) c.value)) cs (keeps_constant unit ps known c k count.0 both.0) count.1 both.1

pub with_parameters-append : (unit : List Statement) (ps : Parameters) (cs ds : List NamedConstant) → with_parameters unit ps (cs ++ ds) ≡ with_parameters unit (with_parameters unit ps cs) ds
with_parameters-append unit ps [] ds = refl
with_parameters-append unit ps (c ∷ cs) ds = with_parameters-append unit (with_parameter unit ps c) cs ds

pub given_by-append : (unit : List Statement) (known : Constants) (cs ds : List NamedConstant) → given_by unit known (cs ++ ds) ≡ given_by unit (given_by unit known cs) ds
given_by-append unit known [] ds = refl
given_by-append unit known (c ∷ cs) ds = given_by-append unit (with_constant known c.occurrence.name (value_of unit (value_among known) c.value)) cs ds

abbrev is_statement_counted : Units → List Statement → Statement → Bool
is_statement_counted program unit s = list_all (is_counted unit) (names_with_lists s) && (list_all (is_reference_counted program unit) (names_with_lists s) && list_all (is_call_counted program) (calls_in s.form))

abbrev counts_in : Units → List Statement → List Statement → Violations
counts_in program unit ss = flat_map (λ (s : Statement). when (not (is_statement_counted program unit s)) (at_line 303 s.line)) ss

-- the constants of a statement that is counted have counted expressions
counted_constants : (unit : List Statement) (s : Statement) → list_all (is_counted unit) (names_with_lists s) ≡ true → list_all (is_counted unit) (flat_map names_with_lists_in (map (λ (c : NamedConstant). c.value) (constants_in s.form))) ≡ true
counted_constants unit s e =
    let p = is_counted unit in
    let f = names_with_lists_in in
    let after_conditions = (all_of-parts p f s.conditions _ e).1 in
    let after_bounds = (all_of-parts p f (flat_map trees_in_declarator (declarators_in s.form)) _ after_conditions).1 in
    (all_of-parts p f (map (λ (c : NamedConstant). c.value) (constants_in s.form)) _ after_bounds).0

given_constants : (functions : FunctionTypes) (unit : List Statement) (ps : Parameters) (s : Statement) → is_statement_typed functions unit ps s ≡ true → are_constants_given unit ps (constants_in s.form) ≡ true
given_constants functions unit ps s e = (and_parts _ _ (and_parts _ _ (and_parts _ _ e).1).1).0

keeps : (functions : FunctionTypes) (program : Units) (unit before after : List Statement) (ps : Parameters) (known : Constants) → Keeps ps known → type_violations_from functions unit ps (before ++ after) ≡ [] → counts_in program unit (before ++ after) ≡ [] → Keeps (with_parameters unit ps (named_constants before)) (given_by unit known (named_constants before))
keeps functions program unit [] after ps known k typed counted = k
keeps functions program unit (s ∷ ss) after ps known k typed counted =
    let cs = constants_in s.form in
    let types = none-append (when (not (is_statement_typed functions unit ps s)) (at_line 302 s.line)) _ typed in
    let counts = none-append (when (not (is_statement_counted program unit s)) (at_line 303 s.line)) _ counted in
    let given = given_constants functions unit ps s (none-when (is_statement_typed functions unit ps s) _ types.0) in
    let count = counted_constants unit s (and_parts _ _ (none-when (is_statement_counted program unit s) _ counts.0)).0 in
    let more = keeps functions program unit ss after (with_parameters unit ps cs) (given_by unit known cs) (keeps_constants unit ps known cs k count given) types.1 counts.1 in
    subst (λ (qs : Parameters). Keeps qs (given_by unit known (cs ++ named_constants ss))) (sym (with_parameters-append unit ps cs (named_constants ss))) (
    subst (λ (ds : Constants). Keeps (with_parameters unit (with_parameters unit ps cs) (named_constants ss)) ds) (sym (given_by-append unit known cs (named_constants ss))) more)

-- ---- an accepted program

pub constants_agree : (program : Units) (unit before after : List Statement) (u : ℕ) → IsAccepted program → slice_get program u ≡ Some unit → unit ≡ before ++ after → Keeps (with_parameters unit no_parameters (named_constants before)) (given_by unit [] (named_constants before))
constants_agree program unit before after u accepted is parts =
    let here = none-each (violations_in program) program u unit (none-append (flat_map (violations_in program) program) _ accepted).0 is in
    let after_untyped = (none-append (type_missing_violations (function_types program) unit) _ here).1 in
    let types = none-append (type_violations (function_types program) unit) _ after_untyped in
    let counts = none-append (count_violations program unit) _ types.1 in
    keeps (function_types program) program unit before after no_parameters [] (refl, λ x. refl) (sym (ap (type_violations_from (function_types program) unit no_parameters) parts) ∙ types.0) (sym (ap (counts_in program unit) parts) ∙ counts.0)
