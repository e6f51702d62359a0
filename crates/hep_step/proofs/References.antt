-- What variables, arrays and elements pass, and so all actual arguments, is what the source machine's dummy arguments stand for.
use Rattle.std.proofs.Common.{◌≡◌, ◌≢◌, ℕ, ◌+◌, ◌-◌, ◌<◌, ◌≤◌, Bool, true, false, List, [], ◌∷◌, Option, Some, None, Result, Ok, Err, refl, sym, ap, ◌∙◌, subst, arith, length, ℤ, if◌then◌else◌, nat_le, not, ◌&&◌, map}
use Rattle.std.specs.Option.{unwrap_or}
use Rattle.std.proofs.lemmas.Bool.Decides.{nat_tests}
use Rattle.hep_machine.specs.Words.{Name, Statement, Value, index_among, Units, dummies_of, integers_of, dummy_for, first_element, from_element, dummies_for, dummy_before, is_array, is_nonempty, referred, Actual, evaluated, Layout, Scope, StorageSequence, element_in, element_of, storage_of, unit_of, Bounds, counted_element, element_number, elements, is_most, most_elements, State, Dummy, further}
use Rattle.hep_machine.specs.declared.event.Kind.{Kind}
use Rattle.hep_machine.specs.declared.event.Kind.TheVariants.{Range}
use Rattle.hep_machine.specs.declared.slot.Slot.{Slot}
use Rattle.hep_code.specs.declared.variable.Variable.TheVariants.{Absent}
use Rattle.hep_layout.specs.Words.{RunsFrom}
use Rattle.hep_layout.proofs.Storages.{dummy-runs, element-counted}
use Rattle.hep_image.specs.declared.array.Start.{Start}
use Rattle.hep_image.specs.declared.array.Start.TheVariants as start
use Rattle.hep_image.specs.Addressing.{base_at, bounds_at, cells_in, rest_at}
use Rattle.hep_image.specs.Places.{array_of, arrays_of, extents_of, scalar}
use Rattle.hep_image.specs.Constant.{HasConstantShape}
use Rattle.hep_image.proofs.Activations.{scope-sized}
use Rattle.hep_image.proofs.AddressedVariables.{IsFound}
use Rattle.hep_image.proofs.NamedNumbers.{array-listed, at-index, by-kind}
use Rattle.hep_image.proofs.Variables.{any-found}
use Rattle.hep_step.specs.ArgumentAgreement.{CallerOf, IsCaller, IsPassedAs, AreGivenAs, ArePlaced, IsGiven, arrays_calling, given_passed, scope_calling, storage_passed, unit_calling, variables_calling}
use Rattle.hep_step.specs.ArgumentPassing.{count_of, passed_at, passed_from_element, passed_of_array, passed_of_scalar, given_for, given_units, made_before}
use Rattle.hep_code.specs.Words.{passed_actual}
use Rattle.hep_step.specs.declared.dummy_storage.DummyStorage.{DummyStorage}

-- ---- elements by their numbers

-- a sequence of so many storage units in a row, from the element of a number on
abbrev from_first : ℕ → ℕ → Result ℕ Kind → Result (ℕ × ℕ) Kind
from_first base count (Err k) = Err k
from_first base count (Ok n) = Ok (base + (n - 1), (count + 1) - n)

-- no element's number is above the most that an array may have, so that it may be counted or not
numbers-same : (e : StorageSequence) (base : ℕ) (ss : List ℤ) → e.rest ≤ most_elements → passed_from_element base e.rest (counted_element e.shape ss) ≡ from_first base e.rest (element_in e (element_number e.shape ss))
numbers-same e base ss few = by_number (element_number e.shape ss) where
  by_tests : (n : ℕ) (most there : Bool) → nat_le n most_elements ≡ most → nat_le n e.rest ≡ there → passed_from_element base e.rest (if most then Some n else None) ≡ from_first base e.rest (if there then Ok n else Err Range)
  by_tests n true true m t = rw t refl
  by_tests n true false m t = rw t refl
  by_tests n false true m t =
      let within : n ≤ e.rest = grind (arith, nat_tests) in
      let past : most_elements < n = grind (arith, nat_tests) in
      absurd (omega (arith, within, past, few))
  by_tests n false false m t = refl

  by_number : (o : Option ℕ) → passed_from_element base e.rest (if is_most o then o else None) ≡ from_first base e.rest (element_in e o)
  by_number None = refl
  by_number (Some n) = by_tests n (nat_le n most_elements) (nat_le n e.rest) refl refl

-- ---- variables that are found

-- a variable of the caller is, by the cells of the arena
abbrev pub IsFoundBy : CallerOf → Name → Start → Type 0
IsFoundBy c = IsFound c.program c.state c.layout (cells_in c.arena.contents) c.activation c.frame

module _ (c : CallerOf) (x : Name) (at : Start) (found : IsFoundBy c x at) where
  abbrev unit : List Statement
  unit = unit_calling c

  abbrev scope : Scope
  scope = scope_calling c

  abbrev e : StorageSequence
  e = storage_of scope x

  abbrev cells : ℕ → Slot
  cells = cells_in c.arena.contents

  abbrev first : ℕ
  first = c.frame.first

  abbrev base : ℕ
  base = base_at cells first at

  -- what x passes by the source machine
  abbrev Same : Result (ℕ × ℕ) Kind → List Value → Type 0
  Same r vs = r ≡ from_first base e.rest (first_element scope (x, vs))

  element-first : (vs : List Value) (b : Bool) → is_array unit x ≡ b → first_element scope (x, vs) ≡ (if b && not (is_nonempty vs) then Ok 1 else element_of e vs)
  element-first vs b is = ap (λ c. if c && not (is_nonempty vs) then Ok 1 else element_of e vs) is

  -- a scalar's one element
  one-element : (vs : List Value) (rest : ℕ) (shape : Bounds) → shape ≡ [] → rest ≡ 1 → passed_of_scalar base vs ≡ from_first base rest (element_of (record { start = e.start; rest = rest; shape = shape }) vs)
  one-element vs rest shape none one = by_values vs ∙ sym (λ i. from_first base (one i) (element_of (record { start = e.start; rest = one i; shape = none i }) vs)) where
    by_values : (vs : List Value) → passed_of_scalar base vs ≡ from_first base 1 (element_of (record { start = e.start; rest = 1; shape = [] }) vs)
    by_values [] = let there : base ≡ base + (1 - 1) = omega arith in ap (λ n. Ok (n, 1)) there
    by_values (v ∷ vs) = refl

  scalar-same : (vs : List Value) → is_array unit x ≡ false → Same (passed_of_scalar base vs) vs
  scalar-same vs is = let one = found.scalar is in one-element vs e.rest e.shape one.0 one.1 ∙ ap (from_first base e.rest) (sym (element-first vs false is))

  array-same : (vs : List Value) → is_array unit x ≡ true → Same (passed_of_array cells first (Some (array_of c.program unit x)) vs) vs
  array-same vs is = by_values vs where
    starts : (array_of c.program unit x).start ≡ at
    starts = ap (λ o. unwrap_or o (start.Local 0)) found.starts

    count : count_of cells first (array_of c.program unit x) ≡ e.rest
    count = ap (λ (z : Start). unwrap_or (elements (bounds_at cells first (extents_of unit x))) (rest_at cells first z)) starts ∙ found.counted is

    whole : ◌≡◌ {A = Result (ℕ × ℕ) Kind} (Ok (base, e.rest)) (Ok (base + (1 - 1), (e.rest + 1) - 1))
    whole =
        let there : base ≡ base + (1 - 1) = omega arith in
        let all : e.rest ≡ (e.rest + 1) - 1 = omega arith in
        (λ i. Ok (there i, all i))

    by_values : (vs : List Value) → Same (passed_of_array cells first (Some (array_of c.program unit x)) vs) vs
    by_values [] = (λ i. Ok (base_at cells first (starts i), count i)) ∙ (whole ∙ ap (from_first base e.rest) (sym (element-first [] true is)))
    by_values (v ∷ vs) =
        (λ i. passed_from_element (base_at cells first (starts i)) (count i) (counted_element (found.shaped is i) (integers_of (v ∷ vs))))
        ∙ (numbers-same e base (integers_of (v ∷ vs)) found.few ∙ ap (from_first base e.rest) (sym (element-first (v ∷ vs) true is)))

  passed-same : (vs : List Value) → Same (storage_passed c x vs) vs
  passed-same vs =
      by-kind c.program unit x at (λ v. Same (passed_at cells first (arrays_calling c) v vs) vs) found.starts
      (λ is. ap (λ o. passed_of_array cells first o vs) (at-index x (array_of c.program unit) (arrays_of unit) (array-listed x unit is)) ∙ array-same vs is)
      (λ is. of_scalar x.asynchronous at ∙ scalar-same vs is)
    where
      of_scalar : (b : Bool) (z : Start) → passed_at cells first (arrays_calling c) (scalar b z) vs ≡ passed_of_scalar (base_at cells first z) vs
      of_scalar b (start.Local c) = refl
      of_scalar b (start.Common c) = refl
      of_scalar b (start.Dummy c) = refl

  -- the first element is there
  first-there : (vs : List Value) (n : ℕ) → 1 ≤ e.rest → first_element scope (x, vs) ≡ Ok n → n ≤ e.rest
  first-there vs n some h = by_test (is_array unit x && not (is_nonempty vs)) h where
    by_test : (b : Bool) → (if b then Ok 1 else element_of e vs) ≡ Ok n → n ≤ e.rest
    by_test true h = let one : 1 ≡ n = cc in omega (arith, one, some)
    by_test false h = (element-counted e vs n h).1

  found-passed : (vs : List Value) (b : ℕ) (y : Name) → 1 ≤ e.rest → IsPassedAs c.program c.state c.layout (storage_passed c x vs) (dummy_for scope b y (referred (x, vs)))
  found-passed vs b y some = subst (λ r. IsPassedAs c.program c.state c.layout r (from_element e (first_element scope (x, vs)))) (sym (passed-same vs)) (by_first (first_element scope (x, vs)) refl) where
    by_first : (r : Result ℕ Kind) → first_element scope (x, vs) ≡ r → IsPassedAs c.program c.state c.layout (from_first base e.rest r) (from_element e r)
    by_first (Err k) h = refl
    by_first (Ok n) h =
        let runs = dummy-runs c.program c.state c.layout scope b y (x, vs) (record { start = further e.start (n - 1); rest = (e.rest + 1) - n; shape = [] }) base found.runs (ap (from_element e) h) in
        let same : runs.0 ≡ n = cc in
        record {
          some = omega (arith, first-there vs n some h);
          rest = refl;
          shape = refl;
          run = subst (λ m. RunsFrom c.program c.state c.layout (further e.start (n - 1)) ((e.rest + 1) - n) (base + (m - 1))) same runs.2;
        }

-- ---- variables of a caller

module _ (c : CallerOf) (calls : IsCaller c) where
  own-shape : (x : Name) → index_among x (dummies_of (unit_calling c)) ≡ None → HasConstantShape (unit_calling c) x
  own-shape x none = λ is. let known = calls.closed (unit_of c.state c.activation) (unit_calling c) x calls.unit is none in (known.0, known.1)

  pub caller-found : (x : Name) → variables_calling c x ≢ Absent → (at : Start) × IsFoundBy c x at
  caller-found x there = any-found c.program c.state c.layout c.arena.contents c.activation c.frame x calls.described calls.framed calls.unit calls.bound calls.kept (own-shape x) there

  pub reference-passed : (x : Name) (vs : List Value) (b : ℕ) (y : Name) → variables_calling c x ≢ Absent
      → IsPassedAs c.program c.state c.layout (storage_passed c x vs) (dummy_for (scope_calling c) b y (referred (x, vs)))
  reference-passed x vs b y there =
      let found = caller-found x there in
      found-passed c x found.0 found.1 vs b y (scope-sized c.program c.state c.activation calls.closed calls.bound x).0

-- ---- all actual arguments

module _ (program : Units) (s : State) (layout : Layout) (b : ℕ) where
  -- one dummy argument, or the same fault
  abbrev IsGivenAs : Name → Actual → Result DummyStorage Kind → Result Dummy Kind → Type 0
  IsGivenAs x y (Ok g) (Ok d) = IsGiven program s layout b x y g d
  IsGivenAs x y (Err k) (Err l) = k ≡ l
  IsGivenAs x y _ _ = ⊥

  units-given : (x : Name) (r : Name × List Value) (units : Result (ℕ × ℕ) Kind) (d : Result Dummy Kind) → IsPassedAs program s layout units d → IsGivenAs x (referred r) (given_units units) d
  units-given x r (Ok units) (Ok d) h = h
  units-given x r (Err k) (Err l) h = h
  units-given x r _ _ h = absurd h

  given-before : (x : Name) (y : Actual) (xs : List Name) (ys : List Actual) (g : Result DummyStorage Kind) (d : Result Dummy Kind) (gs : Result (List DummyStorage) Kind) (ds : Result (List Dummy) Kind)
      → IsGivenAs x y g d → AreGivenAs program s layout b xs ys gs ds → AreGivenAs program s layout b (x ∷ xs) (y ∷ ys) (made_before g gs) (dummy_before d ds)
  given-before x y xs ys (Err k) (Err l) gs ds h hs = h
  given-before x y xs ys (Ok g) (Ok d) (Err k) (Err l) h hs = hs
  given-before x y xs ys (Ok g) (Ok d) (Ok gs) (Ok ds) h hs = (h, hs)
  given-before x y xs ys (Ok g) (Ok d) _ _ h hs = absurd hs
  given-before x y xs ys _ _ gs ds h hs = absurd h

module _ (c : CallerOf) (calls : IsCaller c) (b : ℕ) where
  abbrev given : Actual → Result DummyStorage Kind
  given y = given_for (cells_in c.arena.contents) c.frame.first (arrays_calling c) (passed_actual (variables_calling c) y)

  abbrev all_given : List Actual → Result (List DummyStorage) Kind
  all_given ys = given_passed c (map (passed_actual (variables_calling c)) ys)

  abbrev one : Name → Actual → Result Dummy Kind
  one = dummy_for (scope_calling c) b

  abbrev all : List Name → List Actual → Result (List Dummy) Kind
  all = dummies_for (scope_calling c) b

  pub all-given : (xs : List Name) (actuals : List Actual) → ArePlaced (variables_calling c) actuals → length xs ≡ length actuals → AreGivenAs c.program c.state c.layout b xs actuals (all_given actuals) (all xs actuals)
  all-given [] [] placed e = tt
  all-given (x ∷ xs) (evaluated v ∷ ys) placed e =
      given-before c.program c.state c.layout b x (evaluated v) xs ys (given (evaluated v)) (one x (evaluated v)) (all_given ys) (all xs ys) (refl, refl) (all-given xs ys placed (omega (arith, e)))
  all-given (x ∷ xs) (referred r ∷ ys) placed e =
      given-before c.program c.state c.layout b x (referred r) xs ys (given (referred r)) (one x (referred r)) (all_given ys) (all xs ys)
      (units-given c.program c.state c.layout b x r _ (one x (referred r)) (reference-passed c calls r.0 r.1 b x placed.0))
      (all-given xs ys placed.1 (omega (arith, e)))
  all-given _ _ placed e = absurd (omega (arith, e))
