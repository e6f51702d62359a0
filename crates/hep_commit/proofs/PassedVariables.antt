-- What is passed as a variable is no private scalar of the unit that passes it.
use Rattle.std.proofs.Common.{◌≡◌, ◌⊎◌, inl, inr, ℕ, Bool, true, false, true≢false, ◌&&◌, not, List, [], ◌∷◌, Option, Some, None, refl, sym, ap, ◌∙◌, subst, if◌then◌else◌, slice_get}
use Rattle.std.specs.List.{flat_map}
use Rattle.hep_machine.specs.Words.{Tree, Trees, constant, occurrence, with_list, parenthesized, signed, negated, binary, Name, Occurrence, Form, Statement, Value, is_array, is_external, constant_value, Actual, evaluated, referred, Part, whole, first_redex, actual_of, actual_of_listed, actual_of_name, mapped_part, part_of, parts_of, Reference, is_among}
use Rattle.hep_machine.specs.Words.{Meaning, element, external, pure, state, function_named, listed_meaning}
use Rattle.hep_source.specs.declared.statement.Form.TheVariants as form
use Rattle.hep_conditions.specs.Words.{Calling, calls_in, list_of, names_with_lists}
use Rattle.hep_image.specs.Private.{bare_actuals, bare_actuals_of, bare_in_list, is_private}
use Rattle.hep_conditions.specs.Statements.{bare_actuals_in, bare_name}
use Rattle.hep_accepted_laws.specs.PartlyEvaluated.{AreActualsFilled, AreFilled, Chosen, IsFilledActual, IsValue}
use Rattle.hep_accepted_laws.specs.WorkOrigins.{IsCalledBy, IsGivenBy, IsReferredBy}
use Rattle.hep_accepted_laws.proofs.Members.{Has, has_among, has_behind, has_flat, has_front}
use Rattle.hep_accepted_laws.proofs.RunCalls.{IsActual, are-actuals}
use Rattle.hep_accepted_laws.proofs.Actuals.{each-before, no-element}

-- ---- tests

first-false : (a b c : Bool) → b ≡ true → (a && (not b && c)) ≡ false
first-false true true c e = refl
first-false true false c e = absurd (true≢false (sym e))
first-false false b c e = refl

last-false : (a b c : Bool) → c ≡ true → (a && (b && not c)) ≡ false
last-false true true true e = refl
last-false true true false e = absurd (true≢false (sym e))
last-false true false c e = refl
last-false false b c e = refl

-- an array isn't private, and what is passed by itself isn't
array-not : (unit : List Statement) (x : Name) → is_array unit x ≡ true → is_private unit x ≡ false
array-not unit x e = first-false (not x.asynchronous) (is_array unit x) (not (is_among x (bare_actuals unit))) e

bare-not : (unit : List Statement) (x : Name) → is_among x (bare_actuals unit) ≡ true → is_private unit x ≡ false
bare-not unit x e = last-false (not x.asynchronous) (not (is_array unit x)) (is_among x (bare_actuals unit)) e

-- ---- one actual argument

no-value : (p : Part Value) (r : Reference) → mapped_part evaluated p ≡ whole (referred r) → ⊥
no-value (whole v) r e = absurd cc
no-value (first_redex q) r e = absurd cc

-- the name that is passed
abbrev name_in : Name → Part Actual → Name
name_in x (whole (referred r)) = r.0
name_in x _ = x

name-passed : (o : Option Value) (x : Name) (r : Reference) → actual_of_name o x ≡ whole (referred r) → r.0 ≡ x
name-passed None x r e = ap (name_in x) (sym e)
name-passed (Some v) x r e = absurd cc

list-passed : (vs : Part (List Value)) (x : Name) (r : Reference) → mapped_part {A = List Value} {B = Actual} (λ subscripts. referred (x, subscripts)) vs ≡ whole (referred r) → r.0 ≡ x
list-passed (whole vs) x r e = ap (name_in x) (sym e)
list-passed (first_redex q) x r e = absurd cc

module _ (unit : List Statement) (r : Reference) where
  abbrev IsShared : Type 0
  IsShared = is_private unit r.0 ≡ false

  by_meaning : (x : Name) (m : Meaning) (vs : Part (List Value)) (v : Part Value) → (m ≡ element → ⊥) → actual_of_listed m x vs v ≡ whole (referred r) → ⊥
  by_meaning x element vs v other e = other refl
  by_meaning x (pure f) vs v other e = no-value v r e
  by_meaning x (state f) vs v other e = no-value v r e
  by_meaning x external vs v other e = no-value v r e

  of-element : (p : Occurrence) (us : Trees) → is_array unit p.name ≡ true → actual_of unit (with_list p us) ≡ whole (referred r) → IsShared
  of-element p us array is =
      let meaning : listed_meaning unit p.name ≡ element = ap (λ b. if b then element else function_named p.name) array in
      let same = list-passed (parts_of unit us) p.name r (ap (λ m. actual_of_listed m p.name (parts_of unit us) (part_of unit (with_list p us))) (sym meaning) ∙ is) in
      subst (λ x. is_private unit x ≡ false) (sym same) (array-not unit p.name array)

  of-function : (p : Occurrence) (us : Trees) → is_array unit p.name ≡ false → actual_of unit (with_list p us) ≡ whole (referred r) → IsShared
  of-function p us array is =
      let meaning : listed_meaning unit p.name ≡ function_named p.name = ap (λ b. if b then element else function_named p.name) array in
      absurd (by_meaning p.name (listed_meaning unit p.name) (parts_of unit us) (part_of unit (with_list p us)) (λ is_element. no-element p.name (sym meaning ∙ is_element)) is)

  of-constant : (q : Tree) (v : Value) → q ≡ constant v → actual_of unit q ≡ whole (referred r) → IsShared
  of-constant q v e is = absurd (no-value (whole v) r (ap (actual_of unit) (sym e) ∙ is))

  of-tree : (t q : Tree) → ((x : Name) → Has (bare_name t) x → is_among x (bare_actuals unit) ≡ true) → IsFilledActual unit t q → actual_of unit q ≡ whole (referred r) → IsShared
  of-tree (constant v) q bare e is = of-constant q v e is
  of-tree (occurrence p) q bare e is =
      subst (λ x. is_private unit x ≡ false) (sym (name-passed (constant_value unit p.name) p.name r (ap (actual_of unit) (sym e) ∙ is))) (bare-not unit p.name (bare p.name (0, refl)))
  of-tree (with_list p ts) q bare filled is = by_kind (is_array unit p.name) refl filled where
    by_kind : (b : Bool) → is_array unit p.name ≡ b → Chosen b ((us : Trees) × (q ≡ with_list p us) × AreFilled unit ts us) (
        ((us : Trees) × (q ≡ with_list p us) × Chosen (is_external (listed_meaning unit p.name)) (AreActualsFilled unit ts us) (AreFilled unit ts us)) ⊎ IsValue q) → IsShared
    by_kind true array (us, e, g) = of-element p us array (ap (actual_of unit) (sym e) ∙ is)
    by_kind false array (inl (us, e, g)) = of-function p us array (ap (actual_of unit) (sym e) ∙ is)
    by_kind false array (inr (v, e)) = of-constant q v e is
  of-tree (parenthesized t) q bare (s, e, g) is = absurd (no-value (part_of unit (parenthesized s)) r (ap (actual_of unit) (sym e) ∙ is))
  of-tree (signed o t) q bare (inl (s, e, g)) is = absurd (no-value (part_of unit (signed o s)) r (ap (actual_of unit) (sym e) ∙ is))
  of-tree (signed o t) q bare (inr (v, e)) is = of-constant q v e is
  of-tree (negated t) q bare (inl (s, e, g)) is = absurd (no-value (part_of unit (negated s)) r (ap (actual_of unit) (sym e) ∙ is))
  of-tree (negated t) q bare (inr (v, e)) is = of-constant q v e is
  of-tree (binary o b c) q bare (inl (d, s, e, g, i)) is = absurd (no-value (part_of unit (binary o d s)) r (ap (actual_of unit) (sym e) ∙ is))
  of-tree (binary o b c) q bare (inr (v, e)) is = of-constant q v e is

-- ---- those of a CALL, a CREATE or a reference

given-shared : (unit : List Statement) (ts : List Tree) (actuals : List Actual) (j : ℕ) (r : Reference) → IsGivenBy unit ts actuals → ((x : Name) → Has (flat_map bare_name ts) x → is_among x (bare_actuals unit) ≡ true)
    → slice_get actuals j ≡ Some (referred r) → is_private unit r.0 ≡ false
given-shared unit ts actuals j r h bare actual =
    let one = each-before (IsActual unit) h.filled actuals j (referred r) (are-actuals unit h.filled actuals h.are) actual in
    let passed = each-before (IsFilledActual unit) ts h.filled j one.0 h.is_filled one.1 in
    of-tree unit r passed.0 one.0 (λ x bare_there. bare x (has_flat bare_name ts passed.0 x (j, passed.1) bare_there)) passed.2 one.2

abbrev actuals_of_first : List Calling → List Tree
actuals_of_first [] = []
actuals_of_first (c ∷ cs) = c.actuals

bare-in : (f : Form) (c : Calling) (x : Name) → calls_in f ≡ c ∷ [] → Has (flat_map bare_name c.actuals) x → Has (bare_actuals_in f) x
bare-in (form.Call p ts) c x e h = subst (λ us. Has (flat_map bare_name us) x) (sym (ap actuals_of_first e)) h
bare-in (form.Create p ts) c x e h = subst (λ us. Has (flat_map bare_name us) x) (sym (ap actuals_of_first e)) h
bare-in _ c x e h = absurd cc

-- what stands by itself in a statement does so in its unit
bare-there : (unit : List Statement) (k : ℕ) (s : Statement) (x : Name) → slice_get unit k ≡ Some s → Has (bare_actuals_of unit s) x → is_among x (bare_actuals unit) ≡ true
bare-there unit k s x there h = has_among (bare_actuals unit) x (has_flat (bare_actuals_of unit) unit s x (k, there) h)

pub called-shared : (unit : List Statement) (k j : ℕ) (x : Name) (actuals : List Actual) (r : Reference) → IsCalledBy unit k x actuals → slice_get actuals j ≡ Some (referred r) → is_private unit r.0 ≡ false
called-shared unit k j x actuals r h actual =
    given-shared unit h.call.actuals actuals j r h.given
    (λ y bare. bare-there unit k h.statement y h.there (has_front (bare_actuals_in h.statement.form) (flat_map (bare_in_list unit) (names_with_lists h.statement)) y (bare-in h.statement.form h.call y h.only bare))) actual

pub referred-shared : (unit : List Statement) (k j : ℕ) (x : Name) (actuals : List Actual) (r : Reference) → IsReferredBy unit k x actuals → slice_get actuals j ≡ Some (referred r) → is_private unit r.0 ≡ false
referred-shared unit k j x actuals r h actual =
    given-shared unit (list_of h.reference.arguments) actuals j r h.given
    (λ y bare.
    let listed : Has (bare_in_list unit h.reference) y = subst (λ m. Has (if is_external m then flat_map bare_name (list_of h.reference.arguments) else []) y) (sym h.meaning) bare in
    bare-there unit k h.statement y h.there (has_behind (bare_actuals_in h.statement.form) (flat_map (bare_in_list unit) (names_with_lists h.statement)) y (
    has_flat (bare_in_list unit) (names_with_lists h.statement) h.reference y (h.index, h.among) listed))) actual
