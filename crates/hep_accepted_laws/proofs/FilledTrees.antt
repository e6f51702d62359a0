-- An expression is itself with no values put in, and stays partly evaluated as one more is.
use Rattle.std.proofs.Common.{◌≡◌, ◌⊎◌, inl, inr, Bool, true, false, List, Option, Some, None, refl, sym, ap, ◌∙◌, subst, if◌then◌else◌}
use Rattle.hep_machine.specs.Words.{Tree, Trees, constant, occurrence, with_list, parenthesized, signed, negated, binary, no_trees, trees, Occurrence, Name, Operator, Statement, Value, constant_value}
use Rattle.hep_machine.specs.Words.{Actual, actual_of, actual_of_listed, actual_of_name, actuals_in, evaluated, first_redex, mapped_part, Part, part_of, part_of_listed, parts_of, plug, plug_actuals_in, plug_all, plugged, plugged_arguments, plugged_first, plugged_listed, Reference, reference_of, referred, RedexOrReference, whole}
use Rattle.hep_machine.specs.Words.{element, external, is_array, is_external, listed_meaning, Meaning, pure, state, function_named}
use Rattle.hep_source.specs.declared.operator.Sign.{Sign}
use Rattle.hep_accepted_laws.specs.PartlyEvaluated.{AreActualsFilled, AreFilled, Chosen, IsFilled, IsFilledActual, IsValue}

-- ---- with no values

-- what can be chosen either way
chosen : (b : Bool) {A B : Type 0} → A → B → Chosen b A B
chosen true x y = x
chosen false x y = y

module _ (unit : List Statement) where
  mutual
    pub filled-self : (t : Tree) → IsFilled unit t t
    filled-self (constant v) = refl
    filled-self (occurrence p) = inl refl
    filled-self (with_list p ts) = inl (ts, refl, chosen (is_external (listed_meaning unit p.name)) (actuals-self ts) (all-self ts))
    filled-self (parenthesized t) = (t, refl, filled-self t)
    filled-self (signed s t) = inl (t, refl, filled-self t)
    filled-self (negated t) = inl (t, refl, filled-self t)
    filled-self (binary o a b) = inl (a, b, refl, filled-self a, filled-self b)

    all-self : (ts : Trees) → AreFilled unit ts ts
    all-self no_trees = refl
    all-self (trees t ts) = (t, ts, refl, filled-self t, all-self ts)

    pub actual-self : (t : Tree) → IsFilledActual unit t t
    actual-self (constant v) = refl
    actual-self (occurrence p) = refl
    actual-self (with_list p ts) =
        chosen (is_array unit p.name) (ts, refl, all-self ts) (inl (ts, refl, chosen (is_external (listed_meaning unit p.name)) (actuals-self ts) (all-self ts)))
    actual-self (parenthesized t) = (t, refl, filled-self t)
    actual-self (signed s t) = inl (t, refl, filled-self t)
    actual-self (negated t) = inl (t, refl, filled-self t)
    actual-self (binary o a b) = inl (a, b, refl, filled-self a, filled-self b)

    actuals-self : (ts : Trees) → AreActualsFilled unit ts ts
    actuals-self no_trees = refl
    actuals-self (trees t ts) = (t, ts, refl, actual-self t, actuals-self ts)

-- ---- one value more

-- a part that is a redex, or has one
pub first-or : {A B : Type 0} (P : B → Type 0) (p : Part A) (x y : B) → P x → P y → P (plugged_first p x y)
first-or P (whole z) x y h k = k
first-or P (first_redex r) x y h k = h

value-or : {A : Type 0} (P : Tree → Type 0) (p : Part A) (t : Tree) (v : Value) → P t → P (constant v) → P (plugged p t v)
value-or P (whole x) t v h k = k
value-or P (first_redex r) t v h k = h

module _ (unit : List Statement) (v : Value) where
  of-constant : (P : Tree → Type 0) (u : Tree) → IsValue u → ((w : Value) → P (constant w)) → P (plug unit u v)
  of-constant P u (w, e) h = subst (λ t. P (plug unit t v)) (sym e) (h w)

  abbrev IsListFilled : Occurrence → Trees → Tree → Type 0
  IsListFilled p ts u = ((us : Trees) × (u ≡ with_list p us) × Chosen (is_external (listed_meaning unit p.name)) (AreActualsFilled unit ts us) (AreFilled unit ts us)) ⊎ IsValue u

  -- a name with a list, by what it is
  plug-listed : (p : Occurrence) (ts u : Trees) (m : Meaning) → listed_meaning unit p.name ≡ m → Chosen (is_external m) (AreActualsFilled unit ts u) (AreFilled unit ts u)
      → (AreFilled unit ts u → AreFilled unit ts (plug_all unit u v)) → (AreActualsFilled unit ts u → AreActualsFilled unit ts (plug_actuals_in unit u v))
      → IsListFilled p ts (plugged_listed m (parts_of unit u) (reference_of unit u) (actuals_in unit u) (with_list p (plugged_arguments m (plug_actuals_in unit u v) (plug_all unit u v))) v)
  plug-listed p ts us element is h a c =
      value-or (IsListFilled p ts) (parts_of unit us) (with_list p (plug_all unit us v)) v (inl (plug_all unit us v, refl, subst (λ m. Chosen (is_external m) (AreActualsFilled unit ts (plug_all unit us v)) (AreFilled unit ts (plug_all unit us v))) (sym is) (a h))) (inr (v, refl))
  plug-listed p ts us (pure f) is h a c =
      value-or (IsListFilled p ts) (parts_of unit us) (with_list p (plug_all unit us v)) v (inl (plug_all unit us v, refl, subst (λ m. Chosen (is_external m) (AreActualsFilled unit ts (plug_all unit us v)) (AreFilled unit ts (plug_all unit us v))) (sym is) (a h))) (inr (v, refl))
  plug-listed p ts us (state f) is h a c =
      value-or (IsListFilled p ts) (reference_of unit us) (with_list p (plug_all unit us v)) v (inl (plug_all unit us v, refl, subst (λ m. Chosen (is_external m) (AreActualsFilled unit ts (plug_all unit us v)) (AreFilled unit ts (plug_all unit us v))) (sym is) (a h))) (inr (v, refl))
  plug-listed p ts us external is h a c =
      value-or (IsListFilled p ts) (actuals_in unit us) (with_list p (plug_actuals_in unit us v)) v (inl (plug_actuals_in unit us v, refl, subst (λ m. Chosen (is_external m) (AreActualsFilled unit ts (plug_actuals_in unit us v)) (AreFilled unit ts (plug_actuals_in unit us v))) (sym is) (c h))) (inr (v, refl))

  list-plugged : (p : Occurrence) (ts : Trees) (u : Tree) → ((us : Trees) → AreFilled unit ts us → AreFilled unit ts (plug_all unit us v)) → ((us : Trees) → AreActualsFilled unit ts us → AreActualsFilled unit ts (plug_actuals_in unit us v))
      → IsListFilled p ts u → IsListFilled p ts (plug unit u v)
  list-plugged p ts u a c (inl (us, e, h)) = subst (λ r. IsListFilled p ts (plug unit r v)) (sym e) (plug-listed p ts us (listed_meaning unit p.name) refl h (a us) (c us))
  list-plugged p ts u a c (inr h) = of-constant (IsListFilled p ts) u h (λ w. inr (w, refl))

  -- an operator's expression
  abbrev Plugs : Tree → Type 0
  Plugs t = (u : Tree) → IsFilled unit t u → IsFilled unit t (plug unit u v)

  signed-plugged : (s : Sign) (t u : Tree) → Plugs t → IsFilled unit (signed s t) u → IsFilled unit (signed s t) (plug unit u v)
  signed-plugged s t u f (inl (r, e, h)) =
      subst (λ q. IsFilled unit (signed s t) (plug unit q v)) (sym e) (
      value-or (IsFilled unit (signed s t)) (part_of unit r) (signed s (plug unit r v)) v (inl (plug unit r v, refl, f r h)) (inr (v, refl)))
  signed-plugged s t u f (inr h) = of-constant (IsFilled unit (signed s t)) u h (λ w. inr (w, refl))

  negated-plugged : (t u : Tree) → Plugs t → IsFilled unit (negated t) u → IsFilled unit (negated t) (plug unit u v)
  negated-plugged t u f (inl (r, e, h)) =
      subst (λ q. IsFilled unit (negated t) (plug unit q v)) (sym e) (
      value-or (IsFilled unit (negated t)) (part_of unit r) (negated (plug unit r v)) v (inl (plug unit r v, refl, f r h)) (inr (v, refl)))
  negated-plugged t u f (inr h) = of-constant (IsFilled unit (negated t)) u h (λ w. inr (w, refl))

  binary-plugged : (o : Operator) (a b u : Tree) → Plugs a → Plugs b → IsFilled unit (binary o a b) u → IsFilled unit (binary o a b) (plug unit u v)
  binary-plugged o a b u f g (inl (c, d, e, h, k)) =
      subst (λ q. IsFilled unit (binary o a b) (plug unit q v)) (sym e) (
      first-or (IsFilled unit (binary o a b)) (part_of unit c) (binary o (plug unit c v) d) (plugged (part_of unit d) (binary o c (plug unit d v)) v) (inl (plug unit c v, d, refl, f c h, k)) (
      value-or (IsFilled unit (binary o a b)) (part_of unit d) (binary o c (plug unit d v)) v (inl (c, plug unit d v, refl, h, g d k)) (inr (v, refl))))
  binary-plugged o a b u f g (inr h) = of-constant (IsFilled unit (binary o a b)) u h (λ w. inr (w, refl))

  -- an actual argument that is a name with a list
  actual-listed : (p : Occurrence) (ts : Trees) (u : Tree) (q : RedexOrReference) → ((us : Trees) → AreFilled unit ts us → AreFilled unit ts (plug_all unit us v))
      → ((us : Trees) → AreActualsFilled unit ts us → AreActualsFilled unit ts (plug_actuals_in unit us v)) → (b : Bool) → is_array unit p.name ≡ b
      → Chosen b ((us : Trees) × (u ≡ with_list p us) × AreFilled unit ts us) (IsListFilled p ts u) → actual_of unit u ≡ first_redex q
      → Chosen b ((us : Trees) × (plug unit u v ≡ with_list p us) × AreFilled unit ts us) (IsListFilled p ts (plug unit u v))
  actual-listed p ts u q a c false is h f = list-plugged p ts u a c h
  actual-listed p ts u q a c true is (us, e, h) f =
      let element_of : listed_meaning unit p.name ≡ element = ap (λ b. if b then element else function_named p.name) is in
      let sought_in : mapped_part {A = List Value} {B = Actual} (λ subscripts. referred (p.name, subscripts)) (parts_of unit us) ≡ first_redex q =
      ap (λ m. actual_of_listed m p.name (parts_of unit us) (part_of_listed m p.name (parts_of unit us) (reference_of unit us) (actuals_in unit us))) (sym element_of) ∙ (ap (actual_of unit) (sym e) ∙ f) in
      by_parts element_of (parts_of unit us) refl sought_in where
        by_parts : listed_meaning unit p.name ≡ element → (z : Part (List Value)) → parts_of unit us ≡ z → mapped_part {A = List Value} {B = Actual} (λ subscripts. referred (p.name, subscripts)) z ≡ first_redex q
            → (us : Trees) × (plug unit u v ≡ with_list p us) × AreFilled unit ts us
        by_parts m (whole vs) k l = absurd cc
        by_parts m (first_redex r) k l =
            let stays : plug unit (with_list p us) v ≡ with_list p (plug_all unit us v) = ap (λ m. plugged_listed m (parts_of unit us) (reference_of unit us) (actuals_in unit us) (with_list p (plugged_arguments m (plug_actuals_in unit us v) (plug_all unit us v))) v) m ∙ ap (λ z. plugged z (with_list p (plug_all unit us v)) v) k in
            (plug_all unit us v, ap (λ r. plug unit r v) e ∙ stays, a us h)

  actual-name : (o : Option Value) (z : Name) (q : RedexOrReference) → actual_of_name o z ≡ first_redex q → ⊥
  actual-name None z q h = absurd cc
  actual-name (Some w) z q h = absurd cc

  pub first-with : {A B : Type 0} (P : B → Type 0) (p : Part A) (x y : B) → ((r : RedexOrReference) → p ≡ first_redex r → P x) → P y → P (plugged_first p x y)
  first-with P (whole z) x y h k = k
  first-with P (first_redex r) x y h k = h r refl

  mutual
    pub filled-plug : (t u : Tree) → IsFilled unit t u → IsFilled unit t (plug unit u v)
    filled-plug (constant w) u e = ap (λ r. plug unit r v) e
    filled-plug (occurrence p) u (inl e) = inr (v, ap (λ r. plug unit r v) e)
    filled-plug (occurrence p) u (inr h) = of-constant (IsFilled unit (occurrence p)) u h (λ w. inr (w, refl))
    filled-plug (with_list p ts) u h = list-plugged p ts u (all-plug ts) (actuals-plug ts) h
    filled-plug (parenthesized t) u (r, e, h) = (plug unit r v, ap (λ q. plug unit q v) e, filled-plug t r h)
    filled-plug (signed s t) u h = signed-plugged s t u (filled-plug t) h
    filled-plug (negated t) u h = negated-plugged t u (filled-plug t) h
    filled-plug (binary o a b) u h = binary-plugged o a b u (filled-plug a) (filled-plug b) h

    pub all-plug : (ts us : Trees) → AreFilled unit ts us → AreFilled unit ts (plug_all unit us v)
    all-plug no_trees us e = ap (λ rs. plug_all unit rs v) e
    all-plug (trees t ts) us (r, rs, e, h, k) =
        subst (λ qs. AreFilled unit (trees t ts) (plug_all unit qs v)) (sym e) (
        first-or (AreFilled unit (trees t ts)) (part_of unit r) (trees (plug unit r v) rs) (trees r (plug_all unit rs v)) (plug unit r v, rs, refl, filled-plug t r h, k) (r, plug_all unit rs v, refl, h, all-plug ts rs k))

    pub actual-plug : (t u : Tree) (q : RedexOrReference) → IsFilledActual unit t u → actual_of unit u ≡ first_redex q → IsFilledActual unit t (plug unit u v)
    actual-plug (constant w) u q h f = ap (λ r. plug unit r v) h
    actual-plug (occurrence p) u q e f = absurd (actual-name (constant_value unit p.name) p.name q (ap (actual_of unit) (sym e) ∙ f))
    actual-plug (with_list p ts) u q h f = actual-listed p ts u q (all-plug ts) (actuals-plug ts) (is_array unit p.name) refl h f
    actual-plug (parenthesized t) u q (r, e, h) f = (plug unit r v, ap (λ q. plug unit q v) e, filled-plug t r h)
    actual-plug (signed s t) u q h f = signed-plugged s t u (filled-plug t) h
    actual-plug (negated t) u q h f = negated-plugged t u (filled-plug t) h
    actual-plug (binary o a b) u q h f = binary-plugged o a b u (filled-plug a) (filled-plug b) h

    pub actuals-plug : (ts us : Trees) → AreActualsFilled unit ts us → AreActualsFilled unit ts (plug_actuals_in unit us v)
    actuals-plug no_trees us e = ap (λ rs. plug_actuals_in unit rs v) e
    actuals-plug (trees t ts) us (r, rs, e, h, k) =
        subst (λ qs. AreActualsFilled unit (trees t ts) (plug_actuals_in unit qs v)) (sym e) (
        first-with (AreActualsFilled unit (trees t ts)) (actual_of unit r) (trees (plug unit r v) rs) (trees r (plug_actuals_in unit rs v)) (λ q f. (plug unit r v, rs, refl, actual-plug t r q h f, k)) (r, plug_actuals_in unit rs v, refl, h, actuals-plug ts rs k))
