-- Where all names of a unit have types, no place in it is without.
use Rattle.std.proofs.Common.{◌≡◌, ℕ, Bool, true, false, not, ◌&&◌, if◌then◌else◌, List, [], ◌∷◌, ◌++◌, refl, ap, sym, ◌∙◌, true≢false}
use Rattle.std.specs.List.{flat_map, list_all}
use Rattle.std.specs.Option.{is_none}
use Rattle.std.proofs.lemmas.Bool.{and_parts}
use Rattle.hep_machine.specs.Words.{Name, Occurrence, Statement, same_name, is_among, with_name, with_names, names_of_occurrences, type_of, occurrences_in_statement, occurrences_of, names_of}
use Rattle.hep_source.proofs.NameTests.{equal_names}
use Rattle.hep_conditions.specs.Words.{FunctionTypes, is_function_in, untyped_in, type_missing_violations, when, at_occurrence}
use Rattle.hep_names.specs.Parts.{untyped, is_typed}

-- ---- a test that all names of a list pass, each once

module _ (test : Name → Bool) where
  passed : (x : Name) (xs : List Name) → is_among x xs ≡ true → list_all test xs ≡ true → test x ≡ true
  passed x [] m h = absurd (true≢false (sym m))
  passed x (y ∷ ys) m h = by (same_name x y) refl m (λ n. passed x ys n (and_parts (test y) (list_all test ys) h).1)
    where
      by : (t : Bool) → same_name x y ≡ t → (if t then true else is_among x ys) ≡ true → (is_among x ys ≡ true → test x ≡ true) → test x ≡ true
      by true e n later = ap test (equal_names x y e) ∙ (and_parts (test y) (list_all test ys) h).0
      by false e n later = later n

  first-all : (xs : List Name) (y : Name) → list_all test (xs ++ y ∷ []) ≡ true → (list_all test xs ≡ true) × (test y ≡ true)
  first-all [] y h = (refl, (and_parts (test y) true h).0)
  first-all (x ∷ xs) y h =
      let p = and_parts (test x) (list_all test (xs ++ y ∷ [])) h in
      let q = first-all xs y p.1 in
      (rw (p.0, q.0) refl, q.1)

  one-all : (xs : List Name) (y : Name) → list_all test (with_name xs y) ≡ true → (list_all test xs ≡ true) × (test y ≡ true)
  one-all xs y h = by (is_among y xs) refl h
    where
      by : (t : Bool) → is_among y xs ≡ t → list_all test (if t then xs else xs ++ y ∷ []) ≡ true → (list_all test xs ≡ true) × (test y ≡ true)
      by true e g = (g, passed y xs e g)
      by false e g = first-all xs y g

  once-all : (xs ys : List Name) → list_all test (with_names xs ys) ≡ true → (list_all test xs ≡ true) × (list_all test ys ≡ true)
  once-all xs [] h = (h, refl)
  once-all xs (y ∷ ys) h =
      let p = once-all (with_name xs y) ys h in
      let q = one-all xs y p.0 in
      (q.0, rw (q.1, p.1) refl)

-- ---- places of names

module _ (functions : FunctionTypes) (unit : List Statement) where
  typed-place : (line : ℕ) (p : Occurrence) → is_typed unit p.name ≡ true → untyped functions unit line p ≡ []
  typed-place line p h = by (is_none (type_of unit p.name)) h
    where
      by : (t : Bool) → not t ≡ true → when (t && not (is_function_in functions unit p.name)) (at_occurrence 301 line p) ≡ []
      by true e = absurd (true≢false (sym e))
      by false e = refl

  typed-places : (line : ℕ) (ps rest : List Occurrence) → list_all (is_typed unit) (names_of_occurrences (ps ++ rest)) ≡ true
      → (flat_map (untyped functions unit line) ps ≡ []) × (list_all (is_typed unit) (names_of_occurrences rest) ≡ true)
  typed-places line [] rest h = (refl, h)
  typed-places line (p ∷ ps) rest h =
      let q = and_parts (is_typed unit p.name) (list_all (is_typed unit) (names_of_occurrences (ps ++ rest))) h in
      let r = typed-places line ps rest q.1 in
      (ap (λ vs. vs ++ flat_map (untyped functions unit line) ps) (typed-place line p q.0) ∙ r.0, r.1)

  typed-statements : (ss : List Statement) → list_all (is_typed unit) (names_of_occurrences (flat_map (occurrences_in_statement unit) ss)) ≡ true → flat_map (untyped_in functions unit) ss ≡ []
  typed-statements [] h = refl
  typed-statements (s ∷ ss) h =
      let r = typed-places s.line (occurrences_in_statement unit s) (flat_map (occurrences_in_statement unit) ss) h in
      ap (λ vs. vs ++ flat_map (untyped_in functions unit) ss) r.0 ∙ typed-statements ss r.1

  pub typed-unit : list_all (is_typed unit) (names_of unit) ≡ true → type_missing_violations functions unit ≡ []
  typed-unit h = typed-statements unit (once-all (is_typed unit) [] (names_of_occurrences (occurrences_of unit)) h).1
