-- Where a condition has no violation, its tests hold of each part.
use Rattle.std.proofs.Common.{◌≡◌, ℕ, zero, suc, Bool, true, false, List, [], ◌∷◌, ◌++◌, map, Option, Some, None, refl, sym, subst, true≢false, arith, ◌&&◌, slice_get, is_none, if◌then◌else◌, ◌<◌}
use Rattle.std.specs.List.{flat_map, list_all, list_any}
use Rattle.std.specs.Option.{option_map}
use Rattle.std.proofs.lemmas.Bool.{and_from, and_parts, or_parts}
use Rattle.std.proofs.lemmas.Option.{none-some, same_Some}
use Rattle.hep_machine.specs.Words.{Statement, index_where, Units}
use Rattle.hep_conditions.specs.declared.violation.Violation.{Violation}
use Rattle.hep_conditions.specs.Words.{argument_violations, resume_violations, IsAccepted, function_types, violations_in, type_violations, count_violations, data_violations, label_violations, ambiguous_in, ambiguous_units, name_violations, type_missing_violations, unknown_name_violations, common_violations, jump_violations, structure_violations, when}

-- ---- lists without elements

pub none-append : {A : Type 0} (xs ys : List A) → xs ++ ys ≡ [] → (xs ≡ []) × (ys ≡ [])
none-append [] ys e = (refl, e)
none-append (x ∷ xs) ys e = absurd cc

pub none-each : {A B : Type 0} (f : A → List B) (xs : List A) (i : ℕ) (x : A) → flat_map f xs ≡ [] → slice_get xs i ≡ Some x → f x ≡ []
none-each f [] i x e is = absurd (none-some x is)
none-each f (y ∷ ys) zero x e is = subst (λ z. f z ≡ []) (same_Some y x is) (none-append (f y) (flat_map f ys) e).0
none-each f (y ∷ ys) (suc i) x e is = none-each f ys i x (none-append (f y) (flat_map f ys) e).1 is

pub none-when : (b : Bool) (v : Violation) → when b v ≡ [] → b ≡ false
none-when false v e = refl
none-when true v e = absurd cc

pub none-map : {A B : Type 0} (f : A → B) (xs : List A) → map f xs ≡ [] → xs ≡ []
none-map f [] e = refl
none-map f (x ∷ xs) e = absurd cc

-- ---- tests

pub and_past : (p q : Bool) → p ≡ true → (p && q) ≡ false → q ≡ false
and_past true q e f = f
and_past false q e f = absurd (true≢false (sym e))

pub all-each : {A : Type 0} (f : A → Bool) (xs : List A) (i : ℕ) (x : A) → list_all f xs ≡ true → slice_get xs i ≡ Some x → f x ≡ true
all-each f [] i x e is = absurd (none-some x is)
all-each f (y ∷ ys) zero x e is = subst (λ z. f z ≡ true) (same_Some y x is) (and_parts (f y) (list_all f ys) e).0
all-each f (y ∷ ys) (suc i) x e is = all-each f ys i x (and_parts (f y) (list_all f ys) e).1 is

pub any-each : {A : Type 0} (f : A → Bool) (xs : List A) (i : ℕ) (x : A) → list_any f xs ≡ false → slice_get xs i ≡ Some x → f x ≡ false
any-each f [] i x e is = absurd (none-some x is)
any-each f (y ∷ ys) zero x e is = subst (λ z. f z ≡ false) (same_Some y x is) (or_parts (f y) (list_any f ys) e).0
any-each f (y ∷ ys) (suc i) x e is = any-each f ys i x (or_parts (f y) (list_any f ys) e).1 is

-- what is true of each is true of all
pub all_from : {A : Type 0} (f : A → Bool) (xs : List A) → ((i : ℕ) (x : A) → slice_get xs i ≡ Some x → f x ≡ true) → list_all f xs ≡ true
all_from f [] h = refl
all_from f (x ∷ xs) h = and_from (f x) (list_all f xs) (h 0 x refl) (all_from f xs (λ i. h (suc i)))

-- ---- an option that isn't missing

pub some_value : {A : Type 0} (o : Option A) → is_none o ≡ false → (x : A) × (o ≡ Some x)
some_value (Some x) e = (x, refl)
some_value None e = absurd (true≢false e)

-- ---- what stands at the index that is found

pub found_at : {A : Type 0} (test : A → Bool) (xs : List A) (i : ℕ) → index_where test xs ≡ Some i → (x : A) × (slice_get xs i ≡ Some x) × (test x ≡ true)
found_at test [] i e = absurd (none-some i e)
found_at test (x ∷ xs) i e = by_test (test x) refl i e (found_at test xs) where
  later : (o : Option ℕ) → index_where test xs ≡ o → (j : ℕ) → option_map suc o ≡ Some j → ((n : ℕ) → index_where test xs ≡ Some n → (y : _) × (slice_get xs n ≡ Some y) × (test y ≡ true)) → (y : _) × (slice_get (x ∷ xs) j ≡ Some y) × (test y ≡ true)
  later None f j g found = absurd (none-some j g)
  later (Some n) f j g found = subst (λ m. (y : _) × (slice_get (x ∷ xs) m ≡ Some y) × (test y ≡ true)) (same_Some (suc n) j g) (found n f)

  by_test : (b : Bool) → test x ≡ b → (j : ℕ) → (if b then Some 0 else option_map suc (index_where test xs)) ≡ Some j → ((n : ℕ) → index_where test xs ≡ Some n → (y : _) × (slice_get xs n ≡ Some y) × (test y ≡ true)) → (y : _) × (slice_get (x ∷ xs) j ≡ Some y) × (test y ≡ true)
  by_test true f j g found = subst (λ m. (y : _) × (slice_get (x ∷ xs) m ≡ Some y) × (test y ≡ true)) (same_Some 0 j g) (x, refl, f)
  by_test false f j g found = later (index_where test xs) refl j g found

-- ---- numbers

pub same_index : (i j : ℕ) → (i < j → ⊥) → (j < i → ⊥) → i ≡ j
same_index i j f g = grind arith

-- ---- the conditions of a unit of an accepted program

pub record Unviolated (program : Units) (unit : List Statement) : Type 0 where
  pub type_missing : type_missing_violations (function_types program) unit ≡ []
  pub types : type_violations (function_types program) unit ≡ []
  pub counts : count_violations program unit ≡ []
  pub arguments : argument_violations (function_types program) program unit ≡ []
  pub labels : label_violations unit ≡ []
  pub structure : structure_violations (function_types program) unit ≡ []
  pub jumps : jump_violations unit ≡ []
  pub unknown_names : unknown_name_violations program unit ≡ []
  pub assigned : data_violations unit ≡ []
  pub ambiguous : ambiguous_in (function_types program) unit ≡ []

pub unviolated : (program : Units) (unit : List Statement) (u : ℕ) → IsAccepted program → slice_get program u ≡ Some unit → Unviolated program unit
unviolated program unit u accepted is =
    let all = none-append (flat_map (violations_in program) program) (common_violations program ++ name_violations program) accepted in
    let names = (none-append (common_violations program) (name_violations program) all.1).1 in
    let ambiguities = none-append (ambiguous_units program) (flat_map (ambiguous_in (function_types program)) program) names in
    let v1 = none-append (type_missing_violations (function_types program) unit) _ (none-each (violations_in program) program u unit all.0 is) in
    let v2 = none-append (type_violations (function_types program) unit) _ v1.1 in
    let v3 = none-append (count_violations program unit) _ v2.1 in
    let v4 = none-append (argument_violations (function_types program) program unit) _ v3.1 in
    let v5 = none-append (label_violations unit) _ v4.1 in
    let v6 = none-append (structure_violations (function_types program) unit) _ v5.1 in
    let v7 = none-append (jump_violations unit) _ v6.1 in
    let v8 = none-append (unknown_name_violations program unit) _ v7.1 in
    let v9 = none-append (data_violations unit) (resume_violations unit) v8.1 in
    record {
      type_missing = v1.0;
      types = v2.0;
      counts = v3.0;
      arguments = v4.0;
      labels = v5.0;
      structure = v6.0;
      jumps = v7.0;
      unknown_names = v8.0;
      assigned = v9.0;
      ambiguous = none-each (ambiguous_in (function_types program)) program u unit ambiguities.1 is;
    }

pub unviolated_names : (program : Units) → IsAccepted program → ambiguous_units program ≡ []
unviolated_names program accepted =
    let all = none-append (flat_map (violations_in program) program) (common_violations program ++ name_violations program) accepted in
    (none-append (ambiguous_units program) (flat_map (ambiguous_in (function_types program)) program) (none-append (common_violations program) (name_violations program) all.1).1).0
