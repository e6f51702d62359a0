-- The number of a name is found by its variable.
use Rattle.std.proofs.Common.{◌≡◌, ◌≢◌, inl, inr, ℕ, zero, suc, ◌+◌, ◌<◌, ◌≤◌, Bool, true, false, List, [], ◌∷◌, length, Option, Some, None, sym, ap, ◌∙◌, arith, if◌then◌else◌, slice_get, get_or}
use Rattle.std.specs.Option.{option_map, unwrap_or}
use Rattle.std.proofs.lemmas.Bool.{cases_lt}
use Rattle.std.proofs.lemmas.List.{length-map}
use Rattle.std.proofs.lemmas.Option.{none-some, same_Some, slice_get-get_or, slice_get-map, slice_get_within}
use Rattle.hep_machine.specs.Words.{Name, Statement, Units, index_among, names_of, same_name, unit_at}
use Rattle.hep_source.proofs.NameTests.{same_name-self}
use Rattle.hep_code.specs.declared.variable.Variable.{Variable}
use Rattle.hep_code.specs.declared.variable.Variable.TheVariants.{Absent}
use Rattle.hep_image.specs.Names.{first_variable, variable_index, variable_number}
use Rattle.hep_image.specs.Places.{variable_of}
use Rattle.hep_image.proofs.Numbers.{unit-there, variable-at}
use Rattle.hep_event.proofs.VariableNames.{one-name}
use Rattle.hep_accepted_laws.proofs.Members.{map_at}
use Rattle.hep_event.proofs.Declared.{placed-named}
use Rattle.hep_event.specs.Variables.{IsFirstAmong, variables_of_names, variables_of_units}

-- no name stands at an index before the one that is found of it
index-first : (x : Name) (xs : List Name) (i : ℕ) → slice_get xs i ≡ Some x → unwrap_or (index_among x xs) 0 ≤ i
index-first x [] i e = absurd (none-some x e)
index-first x (y ∷ ys) zero e =
    let same : same_name x y ≡ true = ap (same_name x) (same_Some y x e) ∙ same_name-self x in
    let here : unwrap_or (if same_name x y then Some 0 else option_map suc (index_among x ys)) 0 ≡ 0 = ap (λ t. unwrap_or (if t then Some 0 else option_map suc (index_among x ys)) 0) same in
    omega (arith, here)
index-first x (y ∷ ys) (suc i) e = by_name (same_name x y) (index-first x ys i e) where
  by_index : (o : Option ℕ) → unwrap_or o 0 ≤ i → unwrap_or (option_map suc o) 0 ≤ suc i
  by_index None h = omega arith
  by_index (Some j) h = omega (arith, h)

  by_name : (t : Bool) → unwrap_or (index_among x ys) 0 ≤ i → unwrap_or (if t then Some 0 else option_map suc (index_among x ys)) 0 ≤ suc i
  by_name true h = omega arith
  by_name false h = by_index (index_among x ys) h

pub index-is : (program : Units) (u : ℕ) (x : Name) (v : Variable) (o : Option ℕ) → u < length program → variable_of program (unit_at program u) x ≡ v → v ≢ Absent
    → IsFirstAmong (variables_of_names program (unit_at program u)) v o → o ≡ Some (variable_index (unit_at program u) x)
index-is program u x v o inside is placed = by o where
  unit : List Statement
  unit = unit_at program u

  variables : Name → Variable
  variables = variable_of program unit

  placed_so : variables x ≢ Absent
  placed_so = λ absent. placed (sym is ∙ absent)

  at : ℕ
  at = variable_index unit x

  there : slice_get (variables_of_names program unit) at ≡ Some v
  there = slice_get-map variables (names_of unit) at ∙ (ap (option_map variables) (variable-at unit x (placed-named program unit x placed_so)) ∙ ap (λ w. Some w) is)

  by : (o : Option ℕ) → IsFirstAmong (variables_of_names program unit) v o → o ≡ Some at
  by None none = absurd (none at there)
  by (Some i) found =
      let own = map_at variables (names_of unit) i v found.0 in
      let same : x ≡ own.0 = one-name program u unit (unit-there program u inside) x own.0 (is ∙ sym own.2) placed_so in
      let low = index-first x (names_of unit) i (own.1 ∙ ap (λ y. Some y) (sym same)) in
      elim (cases_lt at i) [
        | inl less ↦ absurd (found.1 at less there)
        | inr high ↦ let both : i ≡ at = omega (arith, low, high) in ap (λ n. Some n) both
      ]

-- the number of a variable's name
pub number-is : (program : Units) (u : ℕ) (x : Name) (i n : ℕ) → Some i ≡ Some (variable_index (unit_at program u) x) → n ≡ first_variable program u + i → Some n ≡ Some (variable_number program u x)
number-is program u x i n found is =
    let same : i ≡ variable_index (unit_at program u) x = same_Some i (variable_index (unit_at program u) x) found in
    ap (λ k. Some k) is ∙ ap (λ k. Some (first_variable program u + k)) same

-- an index that was found is one of the unit's names
pub index-inside : (program : Units) (u : ℕ) (v : Variable) (i : ℕ) → slice_get (variables_of_names program (unit_at program u)) i ≡ Some v → i < length (names_of (unit_at program u))
index-inside program u v i e =
    let own = map_at (variable_of program (unit_at program u)) (names_of (unit_at program u)) i v e in
    slice_get_within (names_of (unit_at program u)) i own.0 own.1

-- what stands at the index of a unit
pub unit-variables : (program : Units) (u : ℕ) → u < length program → slice_get (variables_of_units program) u ≡ Some (variables_of_names program (unit_at program u))
unit-variables program u inside = slice_get-map (variables_of_names program) program u ∙ ap (option_map (variables_of_names program)) (unit-there program u inside)

-- those that are kept of a unit
pub kept-variables : (program : Units) (u : ℕ) (units : List (List Variable)) (kept : List Variable) → u < length program → units ≡ variables_of_units program → kept ≡ get_or units u kept
    → kept ≡ variables_of_names program (unit_at program u)
kept-variables program u units kept inside all is =
    let within : u < length units = omega (arith, inside, ap length all, length-map program (variables_of_names program)) in
    same_Some kept (variables_of_names program (unit_at program u)) (
    ap (λ vs. Some vs) is ∙ sym (slice_get-get_or units u kept within) ∙ ap (λ (vss : List (List Variable)). slice_get vss u) all ∙ unit-variables program u inside)
