-- Constants that are given values in turn.
use Rattle.std.proofs.Common.{◌≡◌, Bool, true, false, if◌then◌else◌, List, [], ◌∷◌, ◌++◌, Option, Some, None, is_some, refl, ap, sym, ◌∙◌, true≢false}
use Rattle.std.specs.Option.{option_or}
use Rattle.hep_machine.specs.Words.{same_name, NamedConstant, Name, Statement, Value, Constants, value_among, with_constant, given_by, value_of, constants_in, named_constants}
use Rattle.hep_source.proofs.NameTests.{equal_names}
use Rattle.hep_conditions.proofs.Agreeing.{given_by-append}

-- ---- constants that are the same for each name

value_if : Bool → Value → Option Value
value_if b v = if b then Some v else None

appended : (cs : Constants) (x : Name) (v : Value) (y : Name) → value_among (cs ++ (x, v) ∷ []) y ≡ option_or (value_among cs y) (value_if (same_name x y) v)
unfolding value_if
appended [] x v y = refl
appended (c ∷ cs) x v y = by (same_name c.0 y) (appended cs x v y)
  where
    by : (b : Bool) → value_among (cs ++ (x, v) ∷ []) y ≡ option_or (value_among cs y) (if same_name x y then Some v else None)
        → (if b then Some c.1 else value_among (cs ++ (x, v) ∷ []) y) ≡ option_or (if b then Some c.1 else value_among cs y) (if same_name x y then Some v else None)
    by true h = refl
    by false h = h

with-same : (k m : Constants) (x : Name) (v : Option Value) → value_among k ≡ value_among m → value_among (with_constant k x v) ≡ value_among (with_constant m x v)
with-same k m x None h = h
with-same k m x (Some v) h = λ i y. at y i
  where
    at : (y : Name) → value_among (k ++ (x, v) ∷ []) y ≡ value_among (m ++ (x, v) ∷ []) y
    at y = appended k x v y ∙ (ap (λ (values : Name → Option Value). option_or (values y) (value_if (same_name x y) v)) h ∙ sym (appended m x v y))

pub given-same : (unit : List Statement) (cs : List NamedConstant) (k m : Constants) → value_among k ≡ value_among m → value_among (given_by unit k cs) ≡ value_among (given_by unit m cs)
given-same unit [] k m h = h
given-same unit (c ∷ cs) k m h =
    given-same unit cs (with_constant k c.occurrence.name (value_of unit (value_among k) c.value)) (with_constant m c.occurrence.name (value_of unit (value_among m) c.value))
    (with-same k m c.occurrence.name (value_of unit (value_among k) c.value) h
    ∙ ap (λ (values : Name → Option Value). value_among (with_constant m c.occurrence.name (value_of unit values c.value))) h)

-- a name that has a value keeps it
pub added-same : (k : Constants) (x : Name) (v : Value) → value_among (if is_some (value_among k x) then k else with_constant k x (Some v)) ≡ value_among (with_constant k x (Some v))
unfolding value_if
added-same k x v = by (is_some (value_among k x)) refl
  where
    kept : is_some (value_among k x) ≡ true → (y : Name) → value_among k y ≡ value_among (k ++ (x, v) ∷ []) y
    kept h y = by_test (value_among k y) refl (same_name x y) refl ∙ sym (appended k x v y)
      where
        by_test : (o : Option Value) → value_among k y ≡ o → (b : Bool) → same_name x y ≡ b → value_among k y ≡ option_or (value_among k y) (value_if (same_name x y) v)
        by_test (Some w) e b f = e ∙ sym (ap (λ p. option_or p (value_if (same_name x y) v)) e)
        by_test None e false f = e ∙ sym (ap (λ p. option_or p (value_if (same_name x y) v)) e ∙ ap (λ t. value_if t v) f)
        by_test None e true f = absurd (true≢false (sym h ∙ ap is_some (ap (value_among k) (equal_names x y f) ∙ e)))

    by : (b : Bool) → is_some (value_among k x) ≡ b → value_among (if b then k else with_constant k x (Some v)) ≡ value_among (with_constant k x (Some v))
    by true e = λ i y. kept e y i
    by false e = refl

-- ---- constants that are given in turn

pub give-turn : (unit : List Statement) (cs more : List NamedConstant) (c : NamedConstant) (k m : Constants) (all : Name → Option Value) → cs ≡ c ∷ more
    → value_among (given_by unit k cs) ≡ all → value_among m ≡ value_among (with_constant k c.occurrence.name (value_of unit (value_among k) c.value))
    → value_among (given_by unit m more) ≡ all
give-turn unit cs more c k m all next so_far e =
    given-same unit more m (with_constant k c.occurrence.name (value_of unit (value_among k) c.value)) e
    ∙ (ap (λ ds. value_among (given_by unit k ds)) (sym next) ∙ so_far)

pub constants-turn : (unit ss more : List Statement) (s : Statement) (cs : List NamedConstant) (k m : Constants) (all : Name → Option Value) → ss ≡ s ∷ more
    → value_among (given_by unit k (named_constants ss)) ≡ all → cs ≡ constants_in s.form → value_among m ≡ value_among (given_by unit k cs)
    → value_among (given_by unit m (named_constants more)) ≡ all
constants-turn unit ss more s cs k m all next so_far here e =
    given-same unit (named_constants more) m (given_by unit k (constants_in s.form)) (e ∙ ap (λ ds. value_among (given_by unit k ds)) here)
    ∙ (ap value_among (sym (given_by-append unit k (constants_in s.form) (named_constants more)))
    ∙ (ap (λ us. value_among (given_by unit k (named_constants us))) (sym next) ∙ so_far))

pub added-here : (k m : Constants) (x : Name) (v : Value) (o : Option Value) → o ≡ Some v → m ≡ (if is_some (value_among k x) then k else with_constant k x (Some v))
    → value_among m ≡ value_among (with_constant k x o)
added-here k m x v o e h = ap value_among h ∙ (added-same k x v ∙ ap (λ w. value_among (with_constant k x w)) (sym e))
