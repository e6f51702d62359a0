-- The code of a bound comes to the bound's value: X3.9-1978, 5.5.1.
use Rattle.std.proofs.Common.{◌≡◌, ℕ, suc, ◌-◌, true, List, [], ◌∷◌, ◌++◌, take, drop, length, length-append, refl, ap, sym, ◌∙◌, arith, Option, Some, None, append_assoc, append-nil}
use Rattle.std.proofs.Math.Seq.{take-append_seam, drop-append_seam}
use Rattle.std.specs.Option.{option_map, option_and_then}
use Rattle.hep_machine.specs.Words.{Name, Operator, Statement, Tree, Trees, constant, occurrence, with_list, parenthesized, signed, negated, binary, no_trees, trees, signed_value, negated_value, combined_value, Values, value_of, values_of, with_one, with_two, both, by_meaning, Meaning, element, pure, state, external, listed_meaning}
use Rattle.hep_source.specs.declared.operator.Sign.{Sign as SignBefore}
use Rattle.hep_source.specs.declared.value.Value.{Value as Constant}
use Rattle.hep_code.specs.Words.{count}
use Rattle.hep_code.specs.declared.bound.BoundOperation.{BoundOperation}
use Rattle.hep_code.specs.declared.bound.BoundOperation.TheVariants.{Value, InCommon, InDummy, Sign, Not, Combine, Apply, Nowhere}
use Rattle.hep_code.specs.BoundCode.{Sources, is_source, code_of_listed, code_of_bound, code_of_bounds, arity, behind, only_value, value_on, value_at, after_operation, after_code, coded_value}

-- values behind others, if there are some
abbrev pub all_behind : List Constant → Option (List Constant) → Option (List Constant)
all_behind stack o = option_map (λ vs. stack ++ vs) o

and_then_some : {A : Type 0} (o : Option A) → option_and_then (λ x. Some x) o ≡ o
and_then_some None = refl
and_then_some (Some x) = refl

module _ (common dummies : ℕ → Option Constant) where
  abbrev pub after : List BoundOperation → List Constant → Option (List Constant)
  after = after_code common dummies

  -- code behind code goes on with what the first has left
  after-more : (os ps : List BoundOperation) (stack : List Constant) → after (os ++ ps) stack ≡ option_and_then (after ps) (after os stack)
  after-more [] ps stack = refl
  after-more (o ∷ os) ps stack = by_first (after-more os ps) (after_operation common dummies o stack) where
    by_first : ((vs : List Constant) → after (os ++ ps) vs ≡ option_and_then (after ps) (after os vs)) → (r : Option (List Constant)) → option_and_then (after (os ++ ps)) r ≡ option_and_then (after ps) (option_and_then (after os) r)
    by_first more None = refl
    by_first more (Some vs) = more vs

  -- an operation with its operands behind the other values
  operated : (o : BoundOperation) (stack vs : List Constant) → arity o ≡ length vs → after (o ∷ []) (stack ++ vs) ≡ behind stack (value_on common dummies o vs)
  operated o stack vs h =
      let kept : length (stack ++ vs) - arity o ≡ length stack = omega (arith, h, length-append stack vs) in
      and_then_some (after_operation common dummies o (stack ++ vs)) ∙ (
      ap (λ n. behind (take n (stack ++ vs)) (value_on common dummies o (drop n (stack ++ vs)))) kept ∙ (
      ap (λ xs. behind xs (value_on common dummies o (drop (length stack) (stack ++ vs)))) (take-append_seam stack vs) ∙
      ap (λ xs. behind stack (value_on common dummies o xs)) (drop-append_seam stack vs)))

  -- one that takes none
  pub alone : (o : BoundOperation) (stack : List Constant) → arity o ≡ 0 → after (o ∷ []) stack ≡ behind stack (value_at common dummies o)
  alone o stack h = ap (after (o ∷ [])) (sym (append-nil stack)) ∙ operated o stack [] h

  from_source : (o : BoundOperation) (stack : List Constant) → is_source o ≡ true → after (o ∷ []) stack ≡ behind stack (value_at common dummies o)
  from_source (Value v) stack h = alone (Value v) stack refl
  from_source (InCommon p) stack h = alone (InCommon p) stack refl
  from_source (InDummy k) stack h = alone (InDummy k) stack refl
  from_source Nowhere stack h = alone Nowhere stack refl
  from_source (Sign s) stack h = absurd cc
  from_source Not stack h = absurd cc
  from_source (Combine o) stack h = absurd cc
  from_source (Apply f n) stack h = absurd cc

  -- ---- code that comes to a value, and what is made of the value

  abbrev pub ComesTo : List BoundOperation → Option Constant → Type 0
  ComesTo os o = (stack : List Constant) → after os stack ≡ behind stack o

  abbrev pub ComeTo : List BoundOperation → Option (List Constant) → Type 0
  ComeTo os o = (stack : List Constant) → after os stack ≡ all_behind stack o

  signed_comes : (s : SignBefore) (os : List BoundOperation) (r : Option Constant) → ComesTo os r → ComesTo (os ++ Sign s ∷ []) (with_one (signed_value s) r)
  signed_comes s os r h stack = after-more os (Sign s ∷ []) stack ∙ (ap (option_and_then (after (Sign s ∷ []))) (h stack) ∙ by_value r) where
    by_value : (r : Option Constant) → option_and_then (after (Sign s ∷ [])) (behind stack r) ≡ behind stack (with_one (signed_value s) r)
    by_value None = refl
    by_value (Some v) = operated (Sign s) stack (v ∷ []) refl

  negated_comes : (os : List BoundOperation) (r : Option Constant) → ComesTo os r → ComesTo (os ++ Not ∷ []) (with_one negated_value r)
  negated_comes os r h stack = after-more os (Not ∷ []) stack ∙ (ap (option_and_then (after (Not ∷ []))) (h stack) ∙ by_value r) where
    by_value : (r : Option Constant) → option_and_then (after (Not ∷ [])) (behind stack r) ≡ behind stack (with_one negated_value r)
    by_value None = refl
    by_value (Some v) = operated Not stack (v ∷ []) refl

  combined_come : (o : Operator) (os ps : List BoundOperation) (q r : Option Constant) → ComesTo os q → ComesTo ps r → ComesTo (os ++ ps ++ Combine o ∷ []) (with_two (combined_value o) q r)
  combined_come o os ps q r h i stack =
      ap (λ xs. after xs stack) (append_assoc os ps (Combine o ∷ []))
      ∙ (after-more os (ps ++ Combine o ∷ []) stack ∙ (ap (option_and_then (after (ps ++ Combine o ∷ []))) (h stack) ∙ by_left q)) where
        by_right : (v : Constant) (r : Option Constant) → option_and_then (after (Combine o ∷ [])) (behind (stack ++ v ∷ []) r) ≡ behind stack (with_two (combined_value o) (Some v) r)
        by_right v None = refl
        by_right v (Some w) = ap (after (Combine o ∷ [])) (append_assoc stack (v ∷ []) (w ∷ [])) ∙ operated (Combine o) stack (v ∷ w ∷ []) refl

        by_left : (q : Option Constant) → option_and_then (after (ps ++ Combine o ∷ [])) (behind stack q) ≡ behind stack (with_two (combined_value o) q r)
        by_left None = refl
        by_left (Some v) =
            after-more ps (Combine o ∷ []) (stack ++ v ∷ []) ∙ (ap (option_and_then (after (Combine o ∷ []))) (i (stack ++ v ∷ [])) ∙ by_right v r)

  pub list_comes : (os ps : List BoundOperation) (q : Option Constant) (r : Option (List Constant)) → ComesTo os q → ComeTo ps r → ComeTo (os ++ ps) (both q r)
  list_comes os ps q r h i stack = after-more os ps stack ∙ (ap (option_and_then (after ps)) (h stack) ∙ by_first q) where
    by_rest : (v : Constant) (r : Option (List Constant)) → all_behind (stack ++ v ∷ []) r ≡ all_behind stack (both (Some v) r)
    by_rest v None = refl
    by_rest v (Some vs) = ap (λ xs. Some xs) (append_assoc stack (v ∷ []) vs)

    by_first : (q : Option Constant) → option_and_then (after ps) (behind stack q) ≡ all_behind stack (both q r)
    by_first None = refl
    by_first (Some v) = i (stack ++ v ∷ []) ∙ by_rest v r

  -- as many values as expressions
  abbrev IsCounted : ℕ → Option (List Constant) → Type 0
  IsCounted n None = Unit {0}
  IsCounted n (Some vs) = length vs ≡ n

  counted_more : (n : ℕ) (q : Option Constant) (r : Option (List Constant)) → IsCounted n r → IsCounted (suc n) (both q r)
  counted_more n None r h = tt
  counted_more n (Some v) None h = tt
  counted_more n (Some v) (Some vs) h = ap suc h

  listed_comes : (m : Meaning) (n : ℕ) (os : List BoundOperation) (r : Option (List Constant)) → ComeTo os r → IsCounted n r → ComesTo (code_of_listed m n os) (by_meaning m r)
  listed_comes (pure f) n os r h counted stack = after-more os (Apply f n ∷ []) stack ∙ (ap (option_and_then (after (Apply f n ∷ []))) (h stack) ∙ by_values r counted) where
    by_values : (r : Option (List Constant)) → IsCounted n r → option_and_then (after (Apply f n ∷ [])) (all_behind stack r) ≡ behind stack (by_meaning (pure f) r)
    by_values None counted = refl
    by_values (Some vs) counted = operated (Apply f n) stack vs (sym counted)
  listed_comes element n os r h counted stack = alone Nowhere stack refl
  listed_comes (state f) n os r h counted stack = alone Nowhere stack refl
  listed_comes external n os r h counted stack = alone Nowhere stack refl

  -- ---- expressions

  module _ (unit : List Statement) (source : Sources) (values : Values) (sources : (x : Name) → is_source (source x) ≡ true) (found : (x : Name) → values x ≡ value_at common dummies (source x)) where
    counted : (ts : Trees) → IsCounted (count ts) (values_of unit values ts)
    counted no_trees = refl
    counted (trees t ts) = counted_more (count ts) (value_of unit values t) (values_of unit values ts) (counted ts)

    mutual
      pub tree_comes : (t : Tree) → ComesTo (code_of_bound source unit t) (value_of unit values t)
      tree_comes (constant v) = λ stack. alone (Value v) stack refl
      tree_comes (occurrence p) = λ stack. from_source (source p.name) stack (sources p.name) ∙ ap (behind stack) (sym (found p.name))
      tree_comes (with_list p ts) =
          listed_comes (listed_meaning unit p.name) (count ts) (code_of_bounds source unit ts) (values_of unit values ts) (trees_come ts) (counted ts)
      tree_comes (parenthesized t) = tree_comes t
      tree_comes (signed s t) = signed_comes s (code_of_bound source unit t) (value_of unit values t) (tree_comes t)
      tree_comes (negated t) = negated_comes (code_of_bound source unit t) (value_of unit values t) (tree_comes t)
      tree_comes (binary o a b) =
          combined_come o (code_of_bound source unit a) (code_of_bound source unit b) (value_of unit values a) (value_of unit values b) (tree_comes a) (tree_comes b)

      trees_come : (ts : Trees) → ComeTo (code_of_bounds source unit ts) (values_of unit values ts)
      trees_come no_trees = λ stack. ap (λ xs. Some xs) (sym (append-nil stack))
      trees_come (trees t ts) =
          list_comes (code_of_bound source unit t) (code_of_bounds source unit ts) (value_of unit values t) (values_of unit values ts) (tree_comes t) (trees_come ts)

    -- with more code behind it
    more_comes : (t : Tree) (more : List BoundOperation) (stack : List Constant) (r : Option Constant) → value_of unit values t ≡ r → after (code_of_bound source unit t ++ more) stack ≡ option_and_then (after more) (behind stack r)
    more_comes t more stack r h =
        after-more (code_of_bound source unit t) more stack ∙ ap (option_and_then (after more)) (tree_comes t stack ∙ ap (behind stack) h)

    pub none_comes : (t : Tree) (more : List BoundOperation) (stack : List Constant) → value_of unit values t ≡ None → after (code_of_bound source unit t ++ more) stack ≡ None
    none_comes t more stack h = more_comes t more stack None h

    pub some_comes : (t : Tree) (more : List BoundOperation) (stack : List Constant) (v : Constant) → value_of unit values t ≡ Some v → after (code_of_bound source unit t ++ more) stack ≡ after more (stack ++ v ∷ [])
    some_comes t more stack v h = more_comes t more stack (Some v) h

    only_of : (r : Option Constant) → option_and_then only_value (behind [] r) ≡ r
    only_of None = refl
    only_of (Some v) = refl

    pub value_comes : (t : Tree) → coded_value common dummies (code_of_bound source unit t) ≡ value_of unit values t
    value_comes t = ap (option_and_then only_value) (tree_comes t []) ∙ only_of (value_of unit values t)
