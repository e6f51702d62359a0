-- What names of accepted programs stand for.
use Rattle.std.proofs.Common.{◌≡◌, ℕ, zero, suc, Bool, true, false, List, [], ◌∷◌, ◌++◌, map, Option, Some, None, refl, sym, ap, ◌∙◌, subst, true≢false, ◌&&◌, not, max, slice_get, if◌then◌else◌, is_some, option_to_list}
use Rattle.std.specs.List.{flat_map, filter}
use Rattle.std.specs.Option.{option_map, option_map_or}
use Rattle.std.proofs.lemmas.Bool.{and_parts, false_from_ne_true, not-false}
use Rattle.std.proofs.lemmas.List.{map-append}
use Rattle.std.proofs.lemmas.Option.{none-some, same_Some}
use Rattle.hep_source.proofs.NameTests.{equal_names, same_name-self}
use Rattle.hep_machine.specs.Words.{function_by_header, function_called, function_name, is_external, is_referenced, listed_meaning, names_listed, names_listed_by, names_of_occurrences, occurrences_in_statement, Occurrence}
use Rattle.hep_machine.specs.Words.{CommonBlock, Declarator, NamedConstant, Target, Name, Form, Statement, index_where, is_among, same_name, Units, dummies_of, is_named, subroutine_by_header, subroutine_called, subroutine_name, block_holding, block_of, blocks_in, blocks_of_unit, constants_in, declarator_among, declarators_in, declarators_of, is_array, is_common, is_constant_name, is_dummy, is_nonempty, named_constants, names_declared, names_of_constants, dimensions_of}
use Rattle.hep_source.specs.declared.statement.Form.TheVariants as form
use Rattle.hep_conditions.specs.Words.{FunctionTypes, function_types, is_function_in, function_names, function_names_alone, misused_results, misnamed, result_names}
use Rattle.hep_conditions.specs.Names.{names_of_result}
use Rattle.hep_conditions.specs.Words.{IsAccepted, Use, assigned_names, block_names, both_ways, bounded_names, called_names, common_names, constant_names, data_names, dummy_names, given_twice, header_name, is_unknown, letters_repeated, misused_constants, names_of_targets, repeated, typed_names, unit_uses}
use Rattle.hep_conditions.specs.Words.{unknown_references, unknown_subroutines, unknown_targets, used_both_ways, uses_by, variable_names, Calling, NameWithList, calls_in, names_with_lists, targets_assigned, targets_in_data, targets_purged, at_line, at_occurrence, when}
use Rattle.hep_accepted_laws.specs.Meanings.{IsOneThing, how_many, name_in_header, name_of_unit}
use Rattle.hep_accepted_laws.proofs.Members.{Has, among_has, find_has, flat_has, has_behind, has_filter, has_flat, has_front, has_map, image_at, map_at, new_uses, one_place, one_source}
use Rattle.hep_accepted_laws.proofs.Parts.{and_past, found_at, none-append, none-each, none-when, unviolated, unviolated_names}
use Rattle.hep_source.proofs.Tests.{at-front}

-- ---- a name that is used so in a unit

abbrev Used : (Statement → List Name) → List Statement → Name → Type 0
Used names unit x = (s : Statement) × Has unit s × Has (names s) x

use_of : (names : Statement → List Name) (unit : List Statement) (x : Name) (used : Used names unit x) → Has (uses_by names unit) (x, used.0.line)
use_of names unit x used =
    has_flat (λ (s : Statement). map (λ (y : Name). (y, s.line)) (names s)) unit used.0 (x, used.0.line) used.1 (has_map (λ (y : Name). (y, used.0.line)) (names used.0) x used.2)

-- no name is used in both ways
no_use_both : (us ws : List Use) (x : Name) (l m : ℕ) → both_ways us ws ≡ [] → Has us (x, l) → Has ws (x, m) → ⊥
no_use_both us ws x l m none a b =
    let row = none-each (λ (u : Use). flat_map (λ (w : Use). when (same_name u.0 w.0) (at_line 309 (max u.1 w.1))) ws) us a.0 (x, l) none a.1 in
    let cell = none-each (λ (w : Use). when (same_name x w.0) (at_line 309 (max l w.1))) ws b.0 (x, m) row b.1 in
    true≢false (sym (same_name-self x) ∙ none-when (same_name x x) (at_line 309 (max l m)) cell)

not_both : (one other : Statement → List Name) (unit : List Statement) (x : Name) → used_both_ways unit one other ≡ [] → Used one unit x → Used other unit x → ⊥
not_both one other unit x none a b = no_use_both (uses_by one unit) (uses_by other unit) x a.0.line b.0.line none (use_of one unit x a) (use_of other unit x b)

-- ---- the parts of 309

record Unambiguous (functions : FunctionTypes) (unit : List Statement) : Type 0 where
  twice : given_twice unit ≡ []
  dummies : used_both_ways unit dummy_names common_names ≡ []
  constants : misused_constants unit ≡ []
  results : misused_results unit ≡ []
  called : used_both_ways unit called_names (variable_names functions unit) ≡ []
  alone : used_both_ways unit (function_names functions unit) (function_names_alone functions unit) ≡ []

unambiguous : (program : Units) (u : ℕ) (unit : List Statement) → IsAccepted program → slice_get program u ≡ Some unit → Unambiguous (function_types program) unit
unambiguous program u unit accepted iu =
    let letters = none-append (letters_repeated unit) _ (unviolated program unit u accepted iu).ambiguous in
    let twice = none-append (given_twice unit) _ letters.1 in
    let dummies = none-append (used_both_ways unit dummy_names common_names) _ twice.1 in
    let constants = none-append (misused_constants unit) _ dummies.1 in
    let results = none-append (misused_results unit) _ constants.1 in
    let named = none-append (misnamed unit) _ results.1 in
    let called = none-append (used_both_ways unit called_names (variable_names (function_types program) unit)) (used_both_ways unit (function_names (function_types program) unit) (function_names_alone (function_types program) unit)) named.1 in
    record { twice = twice.0; dummies = dummies.0; constants = constants.0; results = results.0; called = called.0; alone = called.1 }

abbrev ways : List (Statement → List Name)
ways = dummy_names ∷ bounded_names ∷ common_names ∷ data_names ∷ assigned_names ∷ called_names ∷ []

constant_not : (program : Units) (u n : ℕ) (unit : List Statement) (way : Statement → List Name) (x : Name) → IsAccepted program → slice_get program u ≡ Some unit → slice_get ways n ≡ Some way → Used constant_names unit x → Used way unit x → ⊥
constant_not program u n unit way x accepted iu is a b =
    not_both constant_names way unit x (none-each (used_both_ways unit constant_names) ways n way (unambiguous program u unit accepted iu).constants is) a b

-- ---- what a name is

constant_used : (unit : List Statement) (x : Name) → is_constant_name unit x ≡ true → Used constant_names unit x
constant_used unit x e =
    let among = among_has x (names_of_constants (named_constants unit)) e in
    let c = map_at (λ (d : NamedConstant). d.occurrence.name) (named_constants unit) among.0 x among.1 in
    let s = flat_has (λ (t : Statement). constants_in t.form) unit c.0 (among.0, c.1) in
    (s.0, s.1, subst (λ y. Has (constant_names s.0) y) c.2 (has_map (λ (d : NamedConstant). d.occurrence.name) (constants_in s.0.form) c.0 s.2))

dummy_used : (unit : List Statement) (x : Name) → is_dummy unit x ≡ true → Used dummy_names unit x
dummy_used [] x e = absurd (true≢false (sym e))
dummy_used (s ∷ ss) x e = (s, (zero, refl), among_has x (dummy_names s) e)

block_has : (x : Name) (bs : List CommonBlock) → is_some (block_holding x bs) ≡ true → (b : CommonBlock) × Has bs b × (is_among x (names_declared b.entries) ≡ true)
block_has x [] e = absurd (true≢false (sym e))
block_has x (b ∷ bs) e = by_test (is_among x (names_declared b.entries)) refl e (block_has x bs) where
  by_test : (t : Bool) → is_among x (names_declared b.entries) ≡ t → is_some (if t then Some (block_of b) else block_holding x bs) ≡ true
      → (is_some (block_holding x bs) ≡ true → (c : CommonBlock) × Has bs c × (is_among x (names_declared c.entries) ≡ true))
      → (c : CommonBlock) × Has (b ∷ bs) c × (is_among x (names_declared c.entries) ≡ true)
  by_test true f g more = (b, (zero, refl), f)
  by_test false f g more = let h = more g in (h.0, (suc (h.1).0, (h.1).1), h.2)

common_used : (unit : List Statement) (x : Name) → is_common unit x ≡ true → Used common_names unit x
common_used unit x e =
    let b = block_has x (blocks_of_unit unit) e in
    let s = flat_has (λ (t : Statement). blocks_in t.form) unit b.0 b.1 in
    (s.0, s.1, has_flat (λ (c : CommonBlock). names_declared c.entries) (blocks_in s.0.form) b.0 x s.2 (among_has x (names_declared b.0.entries) b.2))

-- the declarator that gives an array its dimensions
pub array_declarator : (unit : List Statement) (x : Name) → is_array unit x ≡ true → (d : Declarator) × Has (declarators_of unit) d × (d.occurrence.name ≡ x) × (is_nonempty d.dimensions ≡ true) × (dimensions_of unit x ≡ d.dimensions)
array_declarator unit x e = by_found (declarator_among x (declarators_of unit)) refl e where
  by_found : (o : Option Declarator) → declarator_among x (declarators_of unit) ≡ o → is_nonempty (option_map_or (λ (d : Declarator). d.dimensions) o []) ≡ true
      → (d : Declarator) × Has (declarators_of unit) d × (d.occurrence.name ≡ x) × (is_nonempty d.dimensions ≡ true) × (dimensions_of unit x ≡ d.dimensions)
  by_found None f g = absurd (true≢false (sym g))
  by_found (Some d) f g =
      let found = find_has (λ (d : Declarator). same_name d.occurrence.name x && is_nonempty d.dimensions) (declarators_of unit) d f in
      let parts = and_parts (same_name d.occurrence.name x) (is_nonempty d.dimensions) found.1 in
      (d, found.0, equal_names d.occurrence.name x parts.0, parts.1, ap (λ o. option_map_or (λ (d : Declarator). d.dimensions) o []) f)

array_used : (unit : List Statement) (x : Name) → is_array unit x ≡ true → Used bounded_names unit x
array_used unit x e =
    let d = array_declarator unit x e in
    let s = flat_has (λ (t : Statement). declarators_in t.form) unit d.0 d.1 in
    let kept = has_filter (λ (d : Declarator). is_nonempty d.dimensions) (declarators_in s.0.form) d.0 s.2 d.3 in
    (s.0, s.1, subst (λ y. Has (bounded_names s.0) y) d.2 (has_map (λ (d : Declarator). d.occurrence.name) (filter (λ (d : Declarator). is_nonempty d.dimensions) (declarators_in s.0.form)) d.0 kept))

-- ---- one thing

one_of : (c d m : Bool) → (c ≡ true → d ≡ true → ⊥) → (c ≡ true → m ≡ true → ⊥) → (d ≡ true → m ≡ true → ⊥) → how_many (c ∷ d ∷ m ∷ (not d && (not m && not c)) ∷ []) ≡ 1
one_of true true m f g h = absurd (f refl refl)
one_of true false true f g h = absurd (g refl refl)
one_of false true true f g h = absurd (h refl refl)
one_of false false true f g h = refl
one_of _ _ _ f g h = refl

pub one_thing : (program : Units) (u : ℕ) (unit : List Statement) (x : Name) → IsAccepted program → slice_get program u ≡ Some unit → IsOneThing unit x
one_thing program u unit x accepted iu =
    one_of (is_constant_name unit x) (is_dummy unit x) (is_common unit x)
    (λ c d. constant_not program u 0 unit dummy_names x accepted iu refl (constant_used unit x c) (dummy_used unit x d))
    (λ c m. constant_not program u 2 unit common_names x accepted iu refl (constant_used unit x c) (common_used unit x m))
    (λ d m. not_both dummy_names common_names unit x (unambiguous program u unit accepted iu).dummies (dummy_used unit x d) (common_used unit x m))

pub constant_is_scalar : (program : Units) (u : ℕ) (unit : List Statement) (x : Name) → IsAccepted program → slice_get program u ≡ Some unit → is_constant_name unit x ≡ true → is_array unit x ≡ false
constant_is_scalar program u unit x accepted iu c =
    false_from_ne_true (is_array unit x) (λ a. constant_not program u 1 unit bounded_names x accepted iu refl (constant_used unit x c) (array_used unit x a))

-- ---- constants stay

targets_used : (targets : Statement → List Target) (unit : List Statement) (k i : ℕ) (s : Statement) (t : Target) → slice_get unit k ≡ Some s → slice_get (targets s) i ≡ Some t → Used (λ (w : Statement). names_of_targets (targets w)) unit t.occurrence.name
targets_used targets unit k i s t ik it = (s, (k, ik), has_map (λ (v : Target). v.occurrence.name) (targets s) t (i, it))

pub constant_not_assigned : (program : Units) (u k i : ℕ) (unit : List Statement) (s : Statement) (t : Target) → IsAccepted program → slice_get program u ≡ Some unit → slice_get unit k ≡ Some s → slice_get (targets_assigned s.form) i ≡ Some t → is_constant_name unit t.occurrence.name ≡ false
constant_not_assigned program u k i unit s t accepted iu ik it =
    false_from_ne_true (is_constant_name unit t.occurrence.name) (λ c. constant_not program u 4 unit assigned_names t.occurrence.name accepted iu refl (constant_used unit t.occurrence.name c) (targets_used (λ (w : Statement). targets_assigned w.form) unit k i s t ik it))

pub constant_not_in_data : (program : Units) (u k i : ℕ) (unit : List Statement) (s : Statement) (t : Target) → IsAccepted program → slice_get program u ≡ Some unit → slice_get unit k ≡ Some s → slice_get (targets_in_data s.form) i ≡ Some t → is_constant_name unit t.occurrence.name ≡ false
constant_not_in_data program u k i unit s t accepted iu ik it =
    false_from_ne_true (is_constant_name unit t.occurrence.name) (λ c. constant_not program u 3 unit data_names t.occurrence.name accepted iu refl (constant_used unit t.occurrence.name c) (targets_used (λ (w : Statement). targets_in_data w.form) unit k i s t ik it))

call_used : (unit : List Statement) (k i : ℕ) (s : Statement) (c : Calling) → slice_get unit k ≡ Some s → slice_get (calls_in s.form) i ≡ Some c → Used called_names unit c.occurrence.name
call_used unit k i s c ik ic = (s, (k, ik), has_map (λ (d : Calling). d.occurrence.name) (calls_in s.form) c (i, ic))

pub constant_not_called : (program : Units) (u k i : ℕ) (unit : List Statement) (s : Statement) (c : Calling) → IsAccepted program → slice_get program u ≡ Some unit → slice_get unit k ≡ Some s → slice_get (calls_in s.form) i ≡ Some c → is_constant_name unit c.occurrence.name ≡ false
constant_not_called program u k i unit s c accepted iu ik ic =
    false_from_ne_true (is_constant_name unit c.occurrence.name) (λ e. constant_not program u 5 unit called_names c.occurrence.name accepted iu refl (constant_used unit c.occurrence.name e) (call_used unit k i s c ik ic))

pub called_are_no_variables : (program : Units) (u j k i n : ℕ) (unit : List Statement) (s t : Statement) (c : Calling) (x : Name) → IsAccepted program → slice_get program u ≡ Some unit → slice_get unit j ≡ Some s → slice_get unit k ≡ Some t → slice_get (calls_in s.form) i ≡ Some c → slice_get (variable_names (function_types program) unit t) n ≡ Some x → c.occurrence.name ≡ x → ⊥
called_are_no_variables program u j k i n unit s t c x accepted iu ij ik ic ix same =
    not_both called_names (variable_names (function_types program) unit) unit x (unambiguous program u unit accepted iu).called (subst (λ y. Used called_names unit y) same (call_used unit j i s c ij ic)) (t, (k, ik), (n, ix))

-- ---- functions

-- a function that a unit refers to stands in one of its statements with a list
reference_used : (functions : FunctionTypes) (unit : List Statement) (x : Name) → is_function_in functions unit x ≡ true → Used (function_names functions unit) unit x
reference_used functions unit x e =
    let referenced = (and_parts (is_some (functions x)) (is_referenced unit x) e).1 in
    let among = (and_parts (not (is_named (function_name unit) x)) (is_among x (names_listed unit)) (and_parts (is_external (listed_meaning unit x)) _ referenced).1).1 in
    let s = flat_has names_listed_by unit x (among_has x (names_listed unit) among) in
    (s.0, s.1, has_filter (is_function_in functions unit) (names_listed_by s.0) x s.2 e)

pub no_function_alone : (program : Units) (u k i : ℕ) (unit : List Statement) (s : Statement) (p : Occurrence) → IsAccepted program → slice_get program u ≡ Some unit → slice_get unit k ≡ Some s → slice_get (occurrences_in_statement unit s) i ≡ Some p → is_function_in (function_types program) unit p.name ≡ false
no_function_alone program u k i unit s p accepted iu ik ip =
    let fs : FunctionTypes = function_types program in
    false_from_ne_true (is_function_in fs unit p.name) (λ e.
    let named = has_map (λ (q : Occurrence). q.name) (occurrences_in_statement unit s) p (i, ip) in
    not_both (function_names fs unit) (function_names_alone fs unit) unit p.name (unambiguous program u unit accepted iu).alone (reference_used fs unit p.name e)
    (s, (k, ik), has_filter (is_function_in fs unit) (names_of_occurrences (occurrences_in_statement unit s)) p.name named e))

-- the name of a function, where its header stands
result_used : (unit : List Statement) (x : Name) → function_name unit ≡ Some x → Used result_names unit x
result_used [] x e = absurd (none-some x e)
result_used (s ∷ ss) x e = (s, (zero, refl), by_form s.form e) where
  by_form : (f : Form) → function_by_header f ≡ Some x → Has (names_of_result f) x
  by_form (form.Function t p ds) g = (zero, g)
  by_form _ g = absurd (none-some x g)

abbrev result_ways : List (Statement → List Name)
result_ways = dummy_names ∷ bounded_names ∷ common_names ∷ constant_names ∷ []

pub result_no_constant : (program : Units) (u : ℕ) (unit : List Statement) (x : Name) → IsAccepted program → slice_get program u ≡ Some unit → function_name unit ≡ Some x → is_constant_name unit x ≡ false
result_no_constant program u unit x accepted iu e =
    false_from_ne_true (is_constant_name unit x) (λ c.
    not_both result_names constant_names unit x (none-each (used_both_ways unit result_names) result_ways 3 constant_names (unambiguous program u unit accepted iu).results refl) (result_used unit x e) (constant_used unit x c))

-- ---- names that are given once

names_of_line : (line : ℕ) (xs : List Name) → map (λ (u : Use). u.0) (map (λ (x : Name). (x, line)) xs) ≡ xs
names_of_line line [] = refl
names_of_line line (x ∷ xs) = ap (λ zs. x ∷ zs) (names_of_line line xs)

names_of_uses : (names : Statement → List Name) (unit : List Statement) → map (λ (u : Use). u.0) (uses_by names unit) ≡ flat_map names unit
names_of_uses names [] = refl
names_of_uses names (s ∷ ss) =
    map-append (λ (u : Use). u.0) (map (λ (x : Name). (x, s.line)) (names s)) (uses_by names ss)
    ∙ (λ i. names_of_line s.line (names s) i ++ names_of_uses names ss i)

abbrev once : List (Statement → List Name)
once = dummy_names ∷ typed_names ∷ bounded_names ∷ common_names ∷ constant_names ∷ []

pub name_once : (names : Statement → List Name) (n : ℕ) → slice_get once n ≡ Some names → (program : Units) (u i j : ℕ) (unit : List Statement) (x : Name) → IsAccepted program → slice_get program u ≡ Some unit → slice_get (flat_map names unit) i ≡ Some x → slice_get (flat_map names unit) j ≡ Some x → i ≡ j
name_once names n is program u i j unit x accepted iu ix jx =
    let none = none-each (λ (f : Statement → List Name). repeated (uses_by f unit)) once n names (unambiguous program u unit accepted iu).twice is in
    let a = place i ix in
    let b = place j jx in
    let same : same_name a.0.0 b.0.0 ≡ true = (λ k. same_name (a.2 k) (b.2 k)) ∙ same_name-self x in
    let turned : same_name b.0.0 a.0.0 ≡ true = (λ k. same_name (b.2 k) (a.2 k)) ∙ same_name-self x in
    one_place same_name (λ (u : Use). u.0) (uses_by names unit) i j a.0 b.0 (new_uses 309 same_name [] (uses_by names unit) none) same turned a.1 b.1 where
      place : (n : ℕ) → slice_get (flat_map names unit) n ≡ Some x → (u : Use) × (slice_get (uses_by names unit) n ≡ Some u) × (u.0 ≡ x)
      place n g = map_at (λ (u : Use). u.0) (uses_by names unit) n x (ap (λ ys. slice_get ys n) (names_of_uses names unit) ∙ g)

dummy_at : (unit : List Statement) (i : ℕ) (x : Name) → slice_get (dummies_of unit) i ≡ Some x → slice_get (flat_map dummy_names unit) i ≡ Some x
dummy_at [] i x g = absurd (none-some x g)
dummy_at (s ∷ ss) i x g = at-front (dummy_names s) (flat_map dummy_names ss) i x g

pub dummies_once : (program : Units) (u i j : ℕ) (unit : List Statement) (x : Name) → IsAccepted program → slice_get program u ≡ Some unit → slice_get (dummies_of unit) i ≡ Some x → slice_get (dummies_of unit) j ≡ Some x → i ≡ j
dummies_once program u i j unit x accepted iu ix jx =
    name_once dummy_names 0 refl program u i j unit x accepted iu (dummy_at unit i x ix) (dummy_at unit j x jx)

constant_names_are : (unit : List Statement) → flat_map constant_names unit ≡ names_of_constants (named_constants unit)
constant_names_are [] = refl
constant_names_are (s ∷ ss) =
    ap (λ ys. constant_names s ++ ys) (constant_names_are ss) ∙ sym (map-append (λ (c : NamedConstant). c.occurrence.name) (constants_in s.form) (named_constants ss))

constant_at : (unit : List Statement) (i : ℕ) (c : NamedConstant) → slice_get (named_constants unit) i ≡ Some c → slice_get (flat_map constant_names unit) i ≡ Some c.occurrence.name
constant_at unit i c g = ap (λ ys. slice_get ys i) (constant_names_are unit) ∙ image_at (λ (d : NamedConstant). d.occurrence.name) (named_constants unit) i c g

pub constants_once : (program : Units) (u i j : ℕ) (unit : List Statement) (a b : NamedConstant) → IsAccepted program → slice_get program u ≡ Some unit → slice_get (named_constants unit) i ≡ Some a → slice_get (named_constants unit) j ≡ Some b → a.occurrence.name ≡ b.occurrence.name → i ≡ j
constants_once program u i j unit a b accepted iu ia jb same =
    name_once constant_names 4 refl program u i j unit b.occurrence.name accepted iu (constant_at unit i a ia ∙ ap (λ x. Some x) same) (constant_at unit j b jb)

-- ---- names with lists

unknown_names : (program : Units) (u k : ℕ) (unit : List Statement) (s : Statement) → IsAccepted program → slice_get program u ≡ Some unit → slice_get unit k ≡ Some s → (unknown_references program unit s ≡ []) × (unknown_targets unit s ≡ [])
unknown_names program u k unit s accepted iu ik =
    let all = none-each (λ (w : Statement). unknown_subroutines program w ++ (unknown_references program unit w ++ unknown_targets unit w)) unit k s (unviolated program unit u accepted iu).unknown_names ik in
    none-append (unknown_references program unit s) (unknown_targets unit s) (none-append (unknown_subroutines program s) (unknown_references program unit s ++ unknown_targets unit s) all).1

pub reference_known : (program : Units) (u k i : ℕ) (unit : List Statement) (s : Statement) (r : NameWithList) → IsAccepted program → slice_get program u ≡ Some unit → slice_get unit k ≡ Some s → slice_get (names_with_lists s) i ≡ Some r → is_unknown program unit r.occurrence.name ≡ false
reference_known program u k i unit s r accepted iu ik ir =
    none-when _ (at_occurrence 310 s.line r.occurrence) (none-each (λ (q : NameWithList). when (is_unknown program unit q.occurrence.name) (at_occurrence 310 s.line q.occurrence)) (names_with_lists s) i r (unknown_names program u k unit s accepted iu ik).0 ir)

target_known : (program : Units) (u k : ℕ) (unit : List Statement) (s : Statement) (t : Target) → IsAccepted program → slice_get program u ≡ Some unit → slice_get unit k ≡ Some s → Has (targets_assigned s.form ++ (targets_in_data s.form ++ targets_purged s.form)) t → is_nonempty t.subscripts ≡ true → is_array unit t.occurrence.name ≡ true
target_known program u k unit s t accepted iu ik it listed =
    not-false (is_array unit t.occurrence.name) (and_past (is_nonempty t.subscripts) (not (is_array unit t.occurrence.name)) listed (
    none-when _ (at_occurrence 310 s.line t.occurrence) (
    none-each (λ (v : Target). when (is_nonempty v.subscripts && not (is_array unit v.occurrence.name)) (at_occurrence 310 s.line v.occurrence)) (targets_assigned s.form ++ (targets_in_data s.form ++ targets_purged s.form)) it.0 t (unknown_names program u k unit s accepted iu ik).1 it.1)))

pub assigned_known : (program : Units) (u k i : ℕ) (unit : List Statement) (s : Statement) (t : Target) → IsAccepted program → slice_get program u ≡ Some unit → slice_get unit k ≡ Some s → slice_get (targets_assigned s.form) i ≡ Some t → is_nonempty t.subscripts ≡ true → is_array unit t.occurrence.name ≡ true
assigned_known program u k i unit s t accepted iu ik it listed =
    target_known program u k unit s t accepted iu ik (has_front (targets_assigned s.form) (targets_in_data s.form ++ targets_purged s.form) t (i, it)) listed

pub data_known : (program : Units) (u k i : ℕ) (unit : List Statement) (s : Statement) (t : Target) → IsAccepted program → slice_get program u ≡ Some unit → slice_get unit k ≡ Some s → slice_get (targets_in_data s.form) i ≡ Some t → is_nonempty t.subscripts ≡ true → is_array unit t.occurrence.name ≡ true
data_known program u k i unit s t accepted iu ik it listed =
    target_known program u k unit s t accepted iu ik (
    has_behind (targets_assigned s.form) (targets_in_data s.form ++ targets_purged s.form) t (has_front (targets_in_data s.form) (targets_purged s.form) t (i, it))) listed

pub purged_known : (program : Units) (u k i : ℕ) (unit : List Statement) (s : Statement) (t : Target) → IsAccepted program → slice_get program u ≡ Some unit → slice_get unit k ≡ Some s → slice_get (targets_purged s.form) i ≡ Some t → is_nonempty t.subscripts ≡ true → is_array unit t.occurrence.name ≡ true
purged_known program u k i unit s t accepted iu ik it listed =
    target_known program u k unit s t accepted iu ik (
    has_behind (targets_assigned s.form) (targets_in_data s.form ++ targets_purged s.form) t (has_behind (targets_in_data s.form) (targets_purged s.form) t (i, it))) listed

-- ---- names of units

header_is : (f : Form) (x : Name) → name_in_header f ≡ Some x → header_name f ≡ x ∷ []
header_is (form.Program p) x e = ap (λ y. y ∷ []) (same_Some p.name x e)
header_is (form.Subroutine p dummies) x e = ap (λ y. y ∷ []) (same_Some p.name x e)
header_is (form.Function t p dummies) x e = ap (λ y. y ∷ []) (same_Some p.name x e)
header_is _ x e = absurd (none-some x e)

-- a unit's name and the line of its header
unit_use : (unit : List Statement) (x : Name) → name_of_unit unit ≡ Some x → (line : ℕ) × (slice_get (unit_uses unit) 0 ≡ Some (x, line))
unit_use [] x e = absurd (none-some x e)
unit_use (s ∷ ss) x e = (s.line, ap (λ (ys : List Name). slice_get (map (λ (y : Name). (y, s.line)) ys ++ unit_uses ss) 0) (header_is s.form x e))

pub units_apart : (program : Units) (i j : ℕ) (a b : List Statement) (x : Name) → IsAccepted program → slice_get program i ≡ Some a → slice_get program j ≡ Some b → name_of_unit a ≡ Some x → name_of_unit b ≡ Some x → i ≡ j
units_apart program i j a b x accepted ia jb na nb =
    let none = (none-append (repeated (flat_map unit_uses program)) (both_ways (flat_map unit_uses program) (flat_map (uses_by block_names) program)) (unviolated_names program accepted)).0 in
    let p = unit_use a x na in
    let q = unit_use b x nb in
    one_source same_name (λ (u : Use). u.0) unit_uses program i j a b (x, p.0) (x, q.0) (new_uses 309 same_name [] (flat_map unit_uses program) none) (same_name-self x) (same_name-self x) ia jb (0, p.1) (0, q.1)

subroutine_named : (f : Form) (x : Name) → subroutine_by_header f ≡ Some x → name_in_header f ≡ Some x
subroutine_named (form.Subroutine p dummies) x e = e
subroutine_named _ x e = absurd (none-some x e)

named_unit : (unit : List Statement) (x : Name) → subroutine_name unit ≡ Some x → name_of_unit unit ≡ Some x
named_unit [] x e = absurd (none-some x e)
named_unit (s ∷ ss) x e = subroutine_named s.form x e

pub named_so : (o : Option Name) (x : Name) → is_named o x ≡ true → o ≡ Some x
named_so None x e = absurd (true≢false (sym e))
named_so (Some y) x e = ap (λ z. Some z) (equal_names y x e)

index_there : {A : Type 0} (test : A → Bool) (xs : List A) (v : ℕ) (x : A) → slice_get xs v ≡ Some x → test x ≡ true → (j : ℕ) × (index_where test xs ≡ Some j)
index_there test [] v x g e = absurd (none-some x g)
index_there test (y ∷ ys) zero x g e = (0, ap (λ b. if b then Some 0 else option_map suc (index_where test ys)) (subst (λ z. test z ≡ true) (sym (same_Some y x g)) e))
index_there test (y ∷ ys) (suc v) x g e = by_test (test y) (index_there test ys v x g e) where
  by_test : (b : Bool) → (j : ℕ) × (index_where test ys ≡ Some j) → (j : ℕ) × ((if b then Some 0 else option_map suc (index_where test ys)) ≡ Some j)
  by_test true h = (0, refl)
  by_test false h = (suc h.0, ap (λ o. option_map suc o) h.1)

pub called_by_name : (program : Units) (v : ℕ) (unit : List Statement) (x : Name) → IsAccepted program → slice_get program v ≡ Some unit → subroutine_name unit ≡ Some x → subroutine_called program x ≡ Some v
called_by_name program v unit x accepted iv named =
    let j = index_there (λ (w : List Statement). is_named (subroutine_name w) x) program v unit iv (ap (λ o. is_named o x) named ∙ same_name-self x) in
    let callee = found_at (λ (w : List Statement). is_named (subroutine_name w) x) program j.0 j.1 in
    let same = units_apart program j.0 v callee.0 unit x accepted callee.1 iv (named_unit callee.0 x (named_so (subroutine_name callee.0) x callee.2)) (named_unit unit x named) in
    j.1 ∙ ap (λ n. Some n) same

function_header_named : (f : Form) (x : Name) → function_by_header f ≡ Some x → name_in_header f ≡ Some x
function_header_named (form.Function t p dummies) x e = e
function_header_named _ x e = absurd (none-some x e)

named_function : (unit : List Statement) (x : Name) → function_name unit ≡ Some x → name_of_unit unit ≡ Some x
named_function [] x e = absurd (none-some x e)
named_function (s ∷ ss) x e = function_header_named s.form x e

pub referred_by_name : (program : Units) (v : ℕ) (unit : List Statement) (x : Name) → IsAccepted program → slice_get program v ≡ Some unit → function_name unit ≡ Some x → function_called program x ≡ Some v
referred_by_name program v unit x accepted iv named =
    let j = index_there (λ (w : List Statement). is_named (function_name w) x) program v unit iv (ap (λ o. is_named o x) named ∙ same_name-self x) in
    let callee = found_at (λ (w : List Statement). is_named (function_name w) x) program j.0 j.1 in
    let same = units_apart program j.0 v callee.0 unit x accepted callee.1 iv (named_function callee.0 x (named_so (function_name callee.0) x callee.2)) (named_function unit x named) in
    j.1 ∙ ap (λ n. Some n) same

-- no unit has the name of a common block
pub units_and_blocks_apart : (program : Units) (i j k n : ℕ) (a b : List Statement) (s : Statement) (c : CommonBlock) (x : Name) → IsAccepted program → slice_get program i ≡ Some a → slice_get program j ≡ Some b → slice_get b k ≡ Some s → slice_get (blocks_in s.form) n ≡ Some c → name_of_unit a ≡ Some x → block_of c ≡ Some x → ⊥
units_and_blocks_apart program i j k n a b s c x accepted ia jb ks nc named block =
    let p = unit_use a x named in
    let us = has_flat unit_uses program a (x, p.0) (i, ia) (0, p.1) in
    let name : Has (block_names s) x = has_flat (λ (d : CommonBlock). option_to_list (block_of d)) (blocks_in s.form) c x (n, nc) (0, ap (λ o. slice_get (option_to_list o) 0) block) in
    let ws = has_flat (uses_by block_names) program b (x, s.line) (j, jb) (use_of block_names b x (s, (k, ks), name)) in
    let none = (none-append (repeated (flat_map unit_uses program)) (both_ways (flat_map unit_uses program) (flat_map (uses_by block_names) program)) (unviolated_names program accepted)).1 in
    no_use_both (flat_map unit_uses program) (flat_map (uses_by block_names) program) x p.0 s.line none us ws
