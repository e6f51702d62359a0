-- Arrays in the code are among the arrays of their unit.
use Rattle.std.proofs.Common.{◌≡◌, ℕ, zero, suc, Bool, true, false, List, [], ◌∷◌, Option, Some, None, refl, sym, ap, ◌∙◌, subst, true≢false, cond, slice_get, if◌then◌else◌}
use Rattle.std.specs.List.{filter}
use Rattle.std.specs.Option.{option_map, unwrap_or}
use Rattle.std.proofs.lemmas.Option.{none-some, same_Some}
use Rattle.hep_source.proofs.NameTests.{equal_names, same_name-self}
use Rattle.hep_machine.specs.Words.{Name, Occurrence, Statement, index_among, same_name, Units, unit_at, is_array, names_of, occurrences_of}
use Rattle.hep_code.specs.declared.instruction.Instruction.{Instruction}
use Rattle.hep_code.specs.declared.variable.Variable.{Variable}
use Rattle.hep_code.specs.declared.variable.Variable.TheVariants as variables
use Rattle.hep_image.specs.declared.array.Start.{Start}
use Rattle.hep_image.specs.declared.array.Start.TheVariants.{Local, Common, Dummy}
use Rattle.hep_image.specs.Places.{array_of, arrays_of, scalar, start_of, variable_by, variable_of}
use Rattle.hep_accepted_laws.proofs.Members.{Has, has_filter, has_more, image_at, name_of_unit}
use Rattle.hep_accepted_laws.specs.Instructions.{variables_in}
use Rattle.hep_accepted_laws.specs.PlacedCode.{IsArrayAt, code_in}
use Rattle.hep_accepted_laws.proofs.Coded.{AllMeet}
use Rattle.hep_conditions.specs.Words.{function_types}
use Rattle.hep_accepted_laws.proofs.AcceptedFacts.{Facts, array_no_constant}
use Rattle.hep_accepted_laws.proofs.Placed.{all_right, of_instruction, wishing, unit_of_program}
use Rattle.hep_accepted_laws.proofs.Starts.{begins}

-- a name that is there is found
index_there : (x : Name) (xs : List Name) → Has xs x → (i : ℕ) × (index_among x xs ≡ Some i) × (slice_get xs i ≡ Some x)
index_there x [] h = absurd (none-some x h.1)
index_there x (y ∷ ys) h = by_test (same_name x y) refl h (λ g. index_there x ys g) where
  by_test : (b : Bool) → same_name x y ≡ b → Has (y ∷ ys) x → (Has ys x → (i : ℕ) × (index_among x ys ≡ Some i) × (slice_get ys i ≡ Some x)) → (i : ℕ) × ((if b then Some 0 else option_map suc (index_among x ys)) ≡ Some i) × (slice_get (y ∷ ys) i ≡ Some x)
  by_test true f g more = (0, refl, ap (λ z. Some z) (sym (equal_names x y f)))
  by_test false f (zero, g) more = absurd (other (same_name-self x ∙ refl) (ap (same_name x) (same_Some y x g)) f) where
    other : same_name x x ≡ true → same_name x y ≡ same_name x x → same_name x y ≡ false → ⊥
    other p q r = true≢false (sym (q ∙ p) ∙ r)
  by_test false f (suc i, g) more = let found = more (i, g) in (suc found.0, ap (option_map suc) found.1, found.2)

module _ (program : Units) (unit : List Statement) where
  abbrev pub IsThere : Variable → Type 0
  IsThere (variables.Array asynchronous i) = IsArrayAt program unit asynchronous i
  IsThere _ = Unit {0}

  scalar_there : (a : Bool) (at : Start) → IsThere (scalar a at)
  scalar_there a (Local c) = tt
  scalar_there a (Common c) = tt
  scalar_there a (Dummy c) = tt

  there_by : (x : Name) (o : Option Start) → start_of program unit x ≡ o → Has (names_of unit) x → IsThere (variable_by unit x o)
  there_by x None e h = tt
  there_by x (Some at) e h = by_test (is_array unit x) refl where
    found : is_array unit x ≡ true → (i : ℕ) × (index_among x (arrays_of unit) ≡ Some i) × (slice_get (arrays_of unit) i ≡ Some x)
    found array = index_there x (arrays_of unit) (has_filter (is_array unit) (names_of unit) x h array)

    array_there : is_array unit x ≡ true → IsArrayAt program unit x.asynchronous (unwrap_or (index_among x (arrays_of unit)) 0)
    array_there array =
        let i = found array in
        subst (λ o. IsArrayAt program unit x.asynchronous (unwrap_or o 0)) (sym i.1) (x, at, refl, array, i.2, image_at (array_of program unit) (arrays_of unit) i.0 x i.2, e)

    by_test : (b : Bool) → is_array unit x ≡ b → IsThere (if b then variables.Array x.asynchronous (unwrap_or (index_among x (arrays_of unit)) 0) else scalar x.asynchronous at)
    by_test true f = array_there f
    by_test false f = scalar_there x.asynchronous at

  variable_there : (x : Name) → Has (names_of unit) x → IsThere (variable_of program unit x)
  unfolding variable_of
  variable_there x h = there_by x (start_of program unit x) refl h

pub array_in_code : (program : Units) (u i j n : ℕ) (asynchronous : Bool) (x : Instruction) → Facts (function_types program) (unit_at program u) → slice_get (code_in program u) i ≡ Some x → slice_get (variables_in x) j ≡ Some (variables.Array asynchronous n) → IsArrayAt program (unit_at program u) asynchronous n
array_in_code program u i j n asynchronous x facts e g = of_instruction (IsThere program (unit_at program u)) x (all x (i, e)) j (variables.Array asynchronous n) g where
  there : (p : Occurrence) → Has (occurrences_of (unit_at program u)) p → IsThere program (unit_at program u) (variable_of program (unit_at program u) p.name)
  there p h = variable_there program (unit_at program u) p.name (name_of_unit (unit_at program u) p h)

  all : AllMeet (wishing (IsThere program (unit_at program u))) (code_in program u)
  all = all_right (function_types program) (unit_of_program program u) facts (IsThere program (unit_at program u)) (λ p h varies. there p h) (λ s t h i p. there t.occurrence p)

-- ---- arrays of a unit

pub kept_passes : (test : Name → Bool) (xs : List Name) (x : Name) → Has (filter test xs) x → Has xs x × (test x ≡ true)
kept_passes test [] x h = absurd (none-some x h.1)
kept_passes test (y ∷ ys) x h = by_test (test y) refl h (kept_passes test ys x) where
  later : Has ys x × (test x ≡ true) → Has (y ∷ ys) x × (test x ≡ true)
  later g = (has_more y ys x g.0, g.1)

  by_test : (b : Bool) → test y ≡ b → Has (cond b (y ∷ filter test ys) (filter test ys)) x → (Has (filter test ys) x → Has ys x × (test x ≡ true)) → Has (y ∷ ys) x × (test x ≡ true)
  by_test true f (zero, g) more = ((zero, g), ap test (sym (same_Some y x g)) ∙ f)
  by_test true f (suc i, g) more = later (more (i, g))
  by_test false f g more = later (more g)

pub array_of_unit : (program : Units) (u i : ℕ) (x : Name) → Facts (function_types program) (unit_at program u) → slice_get (arrays_of (unit_at program u)) i ≡ Some x → (at : Start) × (is_array (unit_at program u) x ≡ true) × (start_of program (unit_at program u) x ≡ Some at)
array_of_unit program u i x facts e =
    let parts = kept_passes (is_array (unit_at program u)) (names_of (unit_at program u)) x (i, e) in
    let at = begins program (unit_at program u) x parts.0 (array_no_constant (function_types program) (unit_at program u) facts x parts.1) in
    (at.0, parts.1, at.1)
