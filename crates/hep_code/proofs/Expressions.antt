-- The code of a part of a statement: of a whole its values, and else its first redex behind the values that it needs; and so the code of an
-- expression and what is left of it: X3.9-1978, 6.6.
use Rattle.std.proofs.Common.{◌≡◌, ℕ, List, [], ◌∷◌, ◌++◌, map, refl, ap, sym, ◌∙◌, append_assoc, append-nil, suc, length, Option, Some, None}
use Rattle.std.proofs.lemmas.List.{map-append}
use Rattle.hep_machine.specs.Words.{RedexOrReference, evaluating, referring, Actual, evaluated, referred, actual_of, actual_of_name, actual_of_listed, actuals_in, mapped_part, plug_actuals_in, plugged_arguments, reference_part, Value, Redex, Part, whole, first_redex, Reference, signing, negating, applying, testing, combining, redex_of, then_part, part_of_name, part_of_listed, reference_of_listed, combined, part_of, parts_of, reference_of, plugged, plugged_first, plugged_listed, plug, plug_all, Name}
use Rattle.hep_machine.specs.Words.{Occurrence, Operator, Tree, Trees, constant, occurrence, with_list, parenthesized, signed, negated, binary, no_trees, trees, constant_value, Meaning, element, pure, state, external, listed_meaning}
use Rattle.hep_machine.specs.Evaluation.{reading}
use Rattle.hep_code.specs.declared.instruction.Evaluation.{Evaluation}
use Rattle.hep_code.specs.declared.instruction.Instruction.{Instruction}
use Rattle.hep_code.specs.declared.instruction.Instruction.TheVariants.{Push, Step, Pass}
use Rattle.std.specs.List.{flat_map}
use Rattle.hep_code.specs.declared.instruction.Argument.{Argument}
use Rattle.hep_code.specs.declared.instruction.Argument.TheVariants.{Evaluated, Referred}
use Rattle.hep_code.specs.declared.instruction.Operation.TheVariants.{Evaluate, Refer}
use Rattle.hep_code.specs.Words.{actual_code, actual_listed_code, actual_name_code, actuals_code_in, argument_of, argument_of_actual, argument_of_listed, argument_of_name, entries_of_sought, operands_of_actual, operands_of_sought, operation_of_sought, passes, operands_of_redex, evaluation_of, evaluating as evaluation_code, count, name_code, asked_listed, asked, asked_listed_code, listed_code, tree_code, trees_code, asked_code, AddressedUnit, names_of}
use Rattle.hep_source.specs.declared.operator.Sign.{Sign as SignBefore}
use Rattle.hep_code.specs.declared.instruction.Evaluation.TheVariants.{Load, Sign, Not, Combine, Apply, Test}

module _ (addressed : AddressedUnit) (line : ℕ) where
  -- the operation of what is sought, with what stands behind it
  abbrev pub sought_code : RedexOrReference → List Instruction
  sought_code r = Step line (operation_of_sought addressed r) ∷ entries_of_sought addressed r

  -- code begins with operands, of which the last ones are those of a redex, and with the operation of that; and the code that has a
  -- value in the place of the redex
  pub record FirstIs (r : RedexOrReference) (code : List Instruction) (after : Value → List Instruction) : Type 0 where
    pub before : List Value
    pub rest : List Instruction
    pub is : code ≡ map Push (before ++ operands_of_sought r) ++ (sought_code r ++ rest)
    pub filled : (v : Value) → after v ≡ map Push (before ++ v ∷ []) ++ rest

  -- the code of a part, and the code after its first redex; of a whole, its operands and what holds of it
  abbrev pub PartIs : {A : Type 0} → (A → List Value) → (A → Type 0) → Part A → List Instruction → (Value → List Instruction) → Type 0
  PartIs operands Holds (whole x) code after = (code ≡ map Push (operands x)) × Holds x
  PartIs operands Holds (first_redex r) code after = FirstIs r code after

  -- ---- one value, and nothing more of it

  abbrev pub one : Value → List Value
  one v = v ∷ []

  abbrev pub Any : {A : Type 0} → A → Type 0
  Any x = Unit {0}

-- ---- more code

module _ {addressed : AddressedUnit} {line : ℕ} {r : RedexOrReference} {code : List Instruction} {after : Value → List Instruction} where
  pub before_more : (more : List Instruction) → FirstIs addressed line r code after → FirstIs addressed line r (code ++ more) (λ v. after v ++ more)
  before_more more h =
      record {
        before = h.before;
        rest = h.rest ++ more;
        is = ap (λ c. c ++ more) h.is ∙ append_assoc (map Push (h.before ++ operands_of_sought r)) (sought_code addressed line r ++ h.rest) more
            ∙ ap (λ c. map Push (h.before ++ operands_of_sought r) ++ c) (append_assoc (sought_code addressed line r) h.rest more);
        filled = λ v. ap (λ c. c ++ more) (h.filled v) ∙ append_assoc (map Push (h.before ++ v ∷ [])) h.rest more;
      }

  pub behind_values : (xs : List Value) {front : List Instruction} → front ≡ map Push xs → FirstIs addressed line r code after → FirstIs addressed line r (front ++ code) (λ v. front ++ after v)
  behind_values xs e h =
      let joined : (ys : List Value) (more : List Instruction) → map Push xs ++ (map Push (h.before ++ ys) ++ more) ≡ map Push ((xs ++ h.before) ++ ys) ++ more =
      λ ys more. simp (append_assoc, map-append) in
      record {
        before = xs ++ h.before;
        rest = h.rest;
        is = ap (λ c. c ++ code) e ∙ ap (λ c. map Push xs ++ c) h.is ∙ joined (operands_of_sought r) (sought_code addressed line r ++ h.rest);
        filled = λ v. ap (λ c. c ++ after v) e ∙ ap (λ c. map Push xs ++ c) (h.filled v) ∙ joined (v ∷ []) h.rest;
      }

  pub same_after : {later : Value → List Instruction} → ((v : Value) → later v ≡ after v) → FirstIs addressed line r code after → FirstIs addressed line r code later
  same_after e h = record { before = h.before; rest = h.rest; is = h.is; filled = λ v. e v ∙ h.filled v }

-- values beside values
pub both_values : (xs ys : List Value) {front code : List Instruction} → front ≡ map Push xs → code ≡ map Push ys → front ++ code ≡ map Push (xs ++ ys)
both_values xs ys {front} {code} e f = ap (λ c. c ++ code) e ∙ ap (λ c. map Push xs ++ c) f ∙ sym (map-append Push xs ys)

-- a redex whose operands are all that stands before it
pub redex_alone : (addressed : AddressedUnit) (line : ℕ) (r : Redex) {e : Evaluation} {code : List Instruction} → code ≡ map Push (operands_of_redex r) → evaluation_of addressed.variables r ≡ e → FirstIs addressed line (evaluating r) (code ++ evaluation_code line e) (λ v. Push v ∷ [])
redex_alone addressed line r {e} is same = record {
  before = [];
  rest = [];
  is = ap (λ c. c ++ evaluation_code line e) is ∙ ap (λ f. map Push (operands_of_redex r) ++ evaluation_code line f) (sym same);
  filled = λ v. refl;
}

-- ---- expressions

module _ (addressed : AddressedUnit) (line : ℕ) where
  abbrev pub code : Tree → List Instruction
  code t = tree_code (names_of addressed) line t

  abbrev pub codes : Trees → List Instruction
  codes ts = trees_code (names_of addressed) line ts

  -- of a list, how many there are
  abbrev pub Counted : Trees → List Value → Type 0
  Counted ts vs = length vs ≡ count ts

  abbrev pub all : List Value → List Value
  all vs = vs

  -- of what FULL, EMPTY, VALUE, SETE or WAITF is asked of, its name and the number of its subscripts
  abbrev pub IsAsked : Name × ℕ → Reference → Type 0
  IsAsked a r = (r.0 ≡ a.0) × (length r.1 ≡ a.1)

  abbrev pub subscripts : Reference → List Value
  subscripts r = r.1

  abbrev pub ValueIs : Part Value → Tree → (Value → Tree) → Type 0
  ValueIs p t filled = PartIs addressed line (one addressed line) (Any addressed line) p (code t) (λ v. code (filled v))

  abbrev pub ValuesAre : Part (List Value) → Trees → (Value → Trees) → Type 0
  ValuesAre p ts filled = PartIs addressed line all (Counted ts) p (codes ts) (λ v. codes (filled v))

  -- ---- actual arguments, and what stands of them behind an operation

  abbrev pub passed : Actual → Instruction
  passed a = Pass (argument_of_actual addressed.variables a)

  abbrev pub argument_code : Tree → List Instruction
  argument_code t = actual_code (names_of addressed) line t

  abbrev pub argument_codes : Trees → List Instruction
  argument_codes ts = actuals_code_in (names_of addressed) line ts

  abbrev pub passed_trees : Trees → List Instruction
  passed_trees ts = passes (names_of addressed) ts

  -- of a list, what stands of them behind the operation
  abbrev pub ArePassed : Trees → List Actual → Type 0
  ArePassed ts actuals = (map passed actuals ≡ passed_trees ts) × (length actuals ≡ count ts)

  abbrev pub ActualsAre : Part (List Actual) → Trees → (Value → Trees) → Type 0
  ActualsAre (whole xs) ts filled = (argument_codes ts ≡ map Push (flat_map operands_of_actual xs)) × ArePassed ts xs
  ActualsAre (first_redex r) ts filled = FirstIs addressed line r (argument_codes ts) (λ v. argument_codes (filled v)) × ((v : Value) → passed_trees (filled v) ≡ passed_trees ts)

  -- and of one
  abbrev pub ActualPart : Part Actual → List Instruction → (Value → List Instruction) → Argument → (Value → Argument) → Type 0
  ActualPart (whole x) c after e later = (c ≡ map Push (operands_of_actual x)) × (argument_of_actual addressed.variables x ≡ e)
  ActualPart (first_redex r) c after e later = FirstIs addressed line r c after × ((v : Value) → later v ≡ e)

  abbrev pub ActualIs : Part Actual → Tree → (Value → Tree) → Type 0
  ActualIs p t filled = ActualPart p (argument_code t) (λ v. argument_code (filled v)) (argument_of (names_of addressed) t) (λ v. argument_of (names_of addressed) (filled v))

  -- ---- how many there are stays

  count_first : {A : Type 0} (p : Part A) (t u : Tree) (ts us : Trees) → count us ≡ count ts → count (plugged_first p (trees u ts) (trees t us)) ≡ suc (count ts)
  count_first (whole x) t u ts us e = ap suc e
  count_first (first_redex r) t u ts us e = refl

  pub count_stays : (ts : Trees) (v : Value) → count (plug_all addressed.unit ts v) ≡ count ts
  count_stays no_trees v = refl
  count_stays (trees t ts) v =
      count_first (part_of addressed.unit t) t (plug addressed.unit t v) ts (plug_all addressed.unit ts v) (count_stays ts v)

  actuals_first : {A : Type 0} (p : Part A) (t u : Tree) (ts us : Trees) → count us ≡ count ts → count (plugged_first p (trees u ts) (trees t us)) ≡ suc (count ts)
  actuals_first (whole x) t u ts us e = ap suc e
  actuals_first (first_redex r) t u ts us e = refl

  pub actual_count_stays : (ts : Trees) (v : Value) → count (plug_actuals_in addressed.unit ts v) ≡ count ts
  actual_count_stays no_trees v = refl
  actual_count_stays (trees t ts) v =
      actuals_first (actual_of addressed.unit t) t (plug addressed.unit t v) ts (plug_actuals_in addressed.unit ts v) (actual_count_stays ts v)

  -- ---- each kind of expression, by what its operands are so far

  name_is : (p : Occurrence) (known : Option Value) → PartIs addressed line (one addressed line) (Any addressed line) (part_of_name known p.name) (name_code (names_of addressed) line known p.name) (λ v. Push v ∷ [])
  name_is p None = redex_alone addressed line (reading (p.name, [])) refl refl
  name_is p (Some v) = (refl, tt)

  signed_is : (s : SignBefore) (t : Tree) (p : Part Value) (filled : Value → Tree) → ValueIs p t filled → ValueIs (redex_of (signing s) p) (signed s t) (λ v. plugged p (signed s (filled v)) v)
  signed_is s t (whole x) filled h = redex_alone addressed line (signing s x) h.0 refl
  signed_is s t (first_redex r) filled h = before_more (evaluation_code line (Sign s)) h

  negated_is : (t : Tree) (p : Part Value) (filled : Value → Tree) → ValueIs p t filled → ValueIs (redex_of negating p) (negated t) (λ v. plugged p (negated (filled v)) v)
  negated_is t (whole x) filled h = redex_alone addressed line (negating x) h.0 refl
  negated_is t (first_redex r) filled h = before_more (evaluation_code line Not) h

  binary_is : (o : Operator) (a b : Tree) (p q : Part Value) (f g : Value → Tree) → ValueIs p a f → ValueIs q b g → ValueIs (redex_of (combined o) (then_part (λ v w. (v, w)) p q)) (binary o a b) (λ v. plugged_first p (binary o (f v) b) (plugged q (binary o a (g v)) v))
  binary_is o a b (first_redex r) q f g h i = before_more (evaluation_code line (Combine o)) (before_more (code b) h)
  binary_is o a b (whole x) (first_redex r) f g h i = before_more (evaluation_code line (Combine o)) (behind_values (x ∷ []) h.0 i)
  binary_is o a b (whole x) (whole y) f g h i = redex_alone addressed line (combining o x y) (both_values (x ∷ []) (y ∷ []) h.0 i.0) refl

  list_is : (t : Tree) (ts : Trees) (p : Part Value) (q : Part (List Value)) (f : Value → Tree) (g : Value → Trees) → ValueIs p t f → ValuesAre q ts g → ValuesAre (then_part (λ v vs. v ∷ vs) p q) (trees t ts) (λ v. plugged_first p (trees (f v) ts) (trees t (g v)))
  list_is t ts (first_redex r) q f g h i = before_more (codes ts) h
  list_is t ts (whole x) (first_redex r) f g h i = behind_values (x ∷ []) h.0 i
  list_is t ts (whole x) (whole xs) f g h i = (both_values (x ∷ []) xs h.0 i.0, ap suc i.1)

  -- ---- a name with a list, by what it is

  -- what is asked of stays while its subscripts are evaluated
  abbrev pub AskedStays : Part Reference → Trees → (Value → Trees) → Type 0
  AskedStays (whole x) ts filled = Unit {0}
  AskedStays (first_redex r) ts filled = (v : Value) → asked (names_of addressed) (filled v) ≡ asked (names_of addressed) ts

  abbrev pub ReferenceIs : Part Reference → Trees → (Value → Trees) → Type 0
  ReferenceIs p ts filled =
      PartIs addressed line subscripts (IsAsked (asked (names_of addressed) ts)) p (asked_code (names_of addressed) line ts) (λ v. asked_code (names_of addressed) line (filled v))

  -- the code of a name with a list that is partly evaluated, its meaning ys it was
  abbrev listed_after : Meaning → Occurrence → Trees → List Instruction
  listed_after m p us = listed_code (names_of addressed) m line p.name us (codes us) (asked_code (names_of addressed) line us) (argument_codes us)

  after_list : (m : Meaning) (p : Occurrence) (us : Trees) → m ≡ listed_meaning addressed.unit p.name → code (with_list p us) ≡ listed_after m p us
  after_list m p us is = ap (λ m. listed_after m p us) (sym is)

  -- with a value in the first redex of its list
  abbrev list_after : Meaning → Occurrence → Trees → Value → Tree
  list_after m p ts v = with_list p (plugged_arguments m (plug_actuals_in addressed.unit ts v) (plug_all addressed.unit ts v))

  abbrev ListedIs : Meaning → Occurrence → Trees → Part (List Value) → Part Reference → Part (List Actual) → Type 0
  ListedIs m p ts q r ys =
      PartIs addressed line (one addressed line) (Any addressed line) (part_of_listed m p.name q r ys) (listed_after m p ts) (λ v. code (plugged_listed m q r ys (list_after m p ts v) v))

  listed_is : (m : Meaning) (p : Occurrence) (ts : Trees) (q : Part (List Value)) (r : Part Reference) (ys : Part (List Actual)) → m ≡ listed_meaning addressed.unit p.name → ValuesAre q ts (plug_all addressed.unit ts) → ReferenceIs r ts (plug_all addressed.unit ts) → AskedStays r ts (plug_all addressed.unit ts)
      → ActualsAre ys ts (plug_actuals_in addressed.unit ts) → ListedIs m p ts q r ys
  listed_is element p ts (whole xs) r ys is h i stays j = redex_alone addressed line (reading (p.name, xs)) h.0 (ap (Load (addressed.variables p.name)) h.1)
  listed_is element p ts (first_redex s) r ys is h i stays j =
      let us : Value → Trees = plug_all addressed.unit ts in
      same_after (λ v. after_list element p (us v) is ∙ ap (λ n. codes (us v) ++ evaluation_code line (Load (addressed.variables p.name) n)) (count_stays ts v))
      (before_more (evaluation_code line (Load (addressed.variables p.name) (count ts))) h)
  listed_is (pure f) p ts (whole xs) r ys is h i stays j = redex_alone addressed line (applying f xs) h.0 (ap (Apply f) h.1)
  listed_is (pure f) p ts (first_redex s) r ys is h i stays j =
      let us : Value → Trees = plug_all addressed.unit ts in
      same_after (λ v. after_list (pure f) p (us v) is ∙ ap (λ n. codes (us v) ++ evaluation_code line (Apply f n)) (count_stays ts v)) (before_more (evaluation_code line (Apply f (count ts))) h)
  listed_is (state f) p ts q (whole x) ys is h i stays j =
      redex_alone addressed line (testing f x) i.0 (ap (λ y. Test f (addressed.variables y) (length x.1)) i.1.0 ∙ ap (Test f (addressed.variables (asked (names_of addressed) ts).0)) i.1.1)
  listed_is (state f) p ts q (first_redex s) ys is h i stays j =
      let us : Value → Trees = plug_all addressed.unit ts in
      let step : Name × ℕ → List Instruction = λ a. evaluation_code line (Test f (addressed.variables a.0) a.1) in
      same_after (λ v. after_list (state f) p (us v) is ∙ ap (λ a. asked_code (names_of addressed) line (us v) ++ step a) (stays v)) (before_more (step (asked (names_of addressed) ts)) i)
  listed_is external p ts q r (whole xs) is h i stays j = record {
    before = [];
    rest = [];
    is = ap (λ c. c ++ (Step line (Refer (addressed.functions p.name) (count ts)) ∷ passed_trees ts)) j.0
        ∙ ap (λ n. map Push (flat_map operands_of_actual xs) ++ (Step line (Refer (addressed.functions p.name) n) ∷ passed_trees ts)) (sym j.1.1)
        ∙ ap (λ c. map Push (flat_map operands_of_actual xs) ++ (Step line (Refer (addressed.functions p.name) (length xs)) ∷ c)) (sym j.1.0 ∙ sym (append-nil (map passed xs)));
    filled = λ v. refl;
  }
  listed_is external p ts q r (first_redex s) is h i stays j =
      let us : Value → Trees = plug_actuals_in addressed.unit ts in
      same_after (λ v. after_list external p (us v) is
      ∙ ap (λ n. argument_codes (us v) ++ (Step line (Refer (addressed.functions p.name) n) ∷ passed_trees (us v))) (actual_count_stays ts v)
      ∙ ap (λ c. argument_codes (us v) ++ (Step line (Refer (addressed.functions p.name) (count ts)) ∷ c)) (j.1 v))
      (before_more (Step line (Refer (addressed.functions p.name) (count ts)) ∷ passed_trees ts) j.0)

  -- ---- what is asked of, by the meaning of its name

  -- the list of one with a value in its first redex
  abbrev element_after : Meaning → Occurrence → Trees → Part (List Value) → Part Reference → Part (List Actual) → Value → Trees
  element_after m p us q r ys v =
      plugged_first (part_of_listed m p.name q r ys) (trees (plugged_listed m q r ys (list_after m p us v) v) no_trees) (trees (with_list p us) no_trees)

  element_is : (m : Meaning) (p : Occurrence) (us : Trees) (q : Part (List Value)) (r : Part Reference) (ys : Part (List Actual)) → m ≡ listed_meaning addressed.unit p.name → ValuesAre q us (plug_all addressed.unit us) → PartIs addressed line subscripts (IsAsked (asked_listed m p.name (count us))) (reference_of_listed m p.name q) (asked_listed_code m (codes us)) (λ v. asked_code (names_of addressed) line (element_after m p us q r ys v))
  element_is element p us (whole xs) r ys is h = (h.0, (refl, h.1))
  element_is element p us (first_redex s) r ys is h = same_after (λ v. ap (λ m. asked_listed_code m (codes (plug_all addressed.unit us v))) (sym is)) h
  element_is _ p us q r ys is h = (refl, (refl, refl))

  element_stays : (m : Meaning) (p : Occurrence) (us : Trees) (q : Part (List Value)) (r : Part Reference) (ys : Part (List Actual)) → m ≡ listed_meaning addressed.unit p.name → AskedStays (reference_of_listed m p.name q) (trees (with_list p us) no_trees) (element_after m p us q r ys)
  element_stays element p us (whole xs) r ys is = tt
  element_stays element p us (first_redex s) r ys is = λ v. ap (asked_listed (listed_meaning addressed.unit p.name) p.name) (count_stays us v)
  element_stays _ p us q r ys is = tt

  asked_stays : (ts : Trees) → AskedStays (reference_of addressed.unit ts) ts (plug_all addressed.unit ts)
  asked_stays (trees (with_list p us) no_trees) =
      element_stays (listed_meaning addressed.unit p.name) p us (parts_of addressed.unit us) (reference_of addressed.unit us) (actuals_in addressed.unit us) refl
  asked_stays (trees (occurrence p) no_trees) = tt
  asked_stays _ = tt

  -- ---- actual arguments

  name_actual : (p : Occurrence) (known : Option Value) → ActualPart (actual_of_name known p.name) (actual_name_code known) (λ v. Push v ∷ []) (argument_of_name (names_of addressed) known p.name) (λ v. Evaluated)
  name_actual p None = (refl, refl)
  name_actual p (Some v) = (refl, refl)

  -- one that is an expression in parentheses, or with an operator
  inner_actual : (t : Tree) (p : Part Value) (f : Value → Tree) → ValueIs p t f → ActualPart (mapped_part evaluated p) (code t) (λ v. code (f v)) Evaluated (λ v. Evaluated)
  inner_actual t (whole x) f h = (h.0, refl)
  inner_actual t (first_redex r) f h = (h, λ v. refl)

  signed_actual : (s : SignBefore) (t : Tree) (p : Part Value) (f : Value → Tree) → ValueIs p t f → ActualIs (mapped_part evaluated (redex_of (signing s) p)) (signed s t) (λ v. plugged p (signed s (f v)) v)
  signed_actual s t (whole x) f h = (same_after (λ v. refl) (signed_is s t (whole x) f h), λ v. refl)
  signed_actual s t (first_redex r) f h = (same_after (λ v. refl) (signed_is s t (first_redex r) f h), λ v. refl)

  negated_actual : (t : Tree) (p : Part Value) (f : Value → Tree) → ValueIs p t f → ActualIs (mapped_part evaluated (redex_of negating p)) (negated t) (λ v. plugged p (negated (f v)) v)
  negated_actual t (whole x) f h = (same_after (λ v. refl) (negated_is t (whole x) f h), λ v. refl)
  negated_actual t (first_redex r) f h = (same_after (λ v. refl) (negated_is t (first_redex r) f h), λ v. refl)

  binary_actual : (o : Operator) (a b : Tree) (p q : Part Value) (f g : Value → Tree) → ValueIs p a f → ValueIs q b g
      → ActualIs (mapped_part evaluated (redex_of (combined o) (then_part (λ v w. (v, w)) p q))) (binary o a b) (λ v. plugged_first p (binary o (f v) b) (plugged q (binary o a (g v)) v))
  binary_actual o a b (first_redex r) q f g h i = (same_after (λ v. refl) (binary_is o a b (first_redex r) q f g h i), λ v. refl)
  binary_actual o a b (whole x) (first_redex r) f g h i = (same_after (λ v. refl) (binary_is o a b (whole x) (first_redex r) f g h i), λ v. refl)
  binary_actual o a b (whole x) (whole y) f g h i = (same_after (λ v. refl) (binary_is o a b (whole x) (whole y) f g h i), λ v. refl)

  -- the code and the argument of a name with a list that is partly evaluated, its meaning ys it was
  with_list_code : (m : Meaning) (p : Occurrence) (us : Trees) → m ≡ listed_meaning addressed.unit p.name → argument_code (with_list p us) ≡ actual_listed_code m (codes us) (listed_after m p us)
  with_list_code m p us is = ap (λ m. actual_listed_code m (codes us) (listed_after m p us)) (sym is)

  with_list_argument : (m : Meaning) (p : Occurrence) (us : Trees) → m ≡ listed_meaning addressed.unit p.name → argument_of (names_of addressed) (with_list p us) ≡ argument_of_listed (names_of addressed) m p.name (count us)
  with_list_argument m p us is = ap (λ m. argument_of_listed (names_of addressed) m p.name (count us)) (sym is)

  listed_actual : (m : Meaning) (p : Occurrence) (ts : Trees) (q : Part (List Value)) (r : Part Reference) (ys : Part (List Actual)) → m ≡ listed_meaning addressed.unit p.name → ValuesAre q ts (plug_all addressed.unit ts) → ListedIs m p ts q r ys
      → ActualPart (actual_of_listed m p.name q (part_of_listed m p.name q r ys)) (actual_listed_code m (codes ts) (listed_after m p ts)) (λ v. argument_code (plugged_listed m q r ys (list_after m p ts v) v))
      (argument_of_listed (names_of addressed) m p.name (count ts)) (λ v. argument_of (names_of addressed) (plugged_listed m q r ys (list_after m p ts v) v))
  listed_actual element p ts (whole xs) r ys is h i = (h.0, ap (Referred (addressed.variables p.name)) h.1)
  listed_actual element p ts (first_redex s) r ys is h i =
      let us : Value → Trees = plug_all addressed.unit ts in (
        same_after (λ v. with_list_code element p (us v) is) h,
        λ v. with_list_argument element p (us v) is ∙ ap (Referred (addressed.variables p.name)) (count_stays ts v),
      )
  listed_actual (pure f) p ts (whole xs) r ys is h i = (i, λ v. refl)
  listed_actual (pure f) p ts (first_redex s) r ys is h i =
      let us : Value → Trees = plug_all addressed.unit ts in
      (same_after (λ v. with_list_code (pure f) p (us v) is ∙ sym (after_list (pure f) p (us v) is)) i, λ v. with_list_argument (pure f) p (us v) is)
  listed_actual (state f) p ts q (whole x) ys is h i = (i, λ v. refl)
  listed_actual (state f) p ts q (first_redex s) ys is h i =
      let us : Value → Trees = plug_all addressed.unit ts in
      (same_after (λ v. with_list_code (state f) p (us v) is ∙ sym (after_list (state f) p (us v) is)) i, λ v. with_list_argument (state f) p (us v) is)
  listed_actual external p ts q r (whole xs) is h i = (i, λ v. refl)
  listed_actual external p ts q r (first_redex s) is h i =
      let us : Value → Trees = plug_actuals_in addressed.unit ts in
      (same_after (λ v. with_list_code external p (us v) is ∙ sym (after_list external p (us v) is)) i, λ v. with_list_argument external p (us v) is)

  actual_list : (t : Tree) (ts : Trees) (p : Part Actual) (q : Part (List Actual)) (f : Value → Tree) (g : Value → Trees) → ActualIs p t f → ActualsAre q ts g → ActualsAre (then_part (λ x xs. x ∷ xs) p q) (trees t ts) (λ v. plugged_first p (trees (f v) ts) (trees t (g v)))
  actual_list t ts (first_redex r) q f g h i = (before_more (argument_codes ts) h.0, λ v. ap (λ a. Pass a ∷ passed_trees ts) (h.1 v))
  actual_list t ts (whole x) (first_redex r) f g h i = (behind_values (operands_of_actual x) h.0 i.0, λ v. ap (λ is. Pass (argument_of (names_of addressed) t) ∷ is) (i.1 v))
  actual_list t ts (whole x) (whole xs) f g h i = (
    both_values (operands_of_actual x) (flat_map operands_of_actual xs) h.0 i.0,
    (ap (λ a. Pass a ∷ map passed xs) h.1 ∙ ap (λ is. Pass (argument_of (names_of addressed) t) ∷ is) i.1.0, ap suc i.1.1),
  )

  -- ---- expressions

  mutual
    pub tree_is : (t : Tree) → ValueIs (part_of addressed.unit t) t (plug addressed.unit t)
    tree_is (constant v) = (refl, tt)
    tree_is (occurrence p) = name_is p (constant_value addressed.unit p.name)
    tree_is (with_list p ts) =
        listed_is (listed_meaning addressed.unit p.name) p ts (parts_of addressed.unit ts) (reference_of addressed.unit ts) (actuals_in addressed.unit ts) refl (trees_are ts) (reference_is ts) (asked_stays ts) (actuals_are_in ts)
    tree_is (parenthesized t) = tree_is t
    tree_is (signed s t) = signed_is s t (part_of addressed.unit t) (plug addressed.unit t) (tree_is t)
    tree_is (negated t) = negated_is t (part_of addressed.unit t) (plug addressed.unit t) (tree_is t)
    tree_is (binary o a b) =
        binary_is o a b (part_of addressed.unit a) (part_of addressed.unit b) (plug addressed.unit a) (plug addressed.unit b) (tree_is a) (tree_is b)

    pub trees_are : (ts : Trees) → ValuesAre (parts_of addressed.unit ts) ts (plug_all addressed.unit ts)
    trees_are no_trees = (refl, refl)
    trees_are (trees t ts) =
        list_is t ts (part_of addressed.unit t) (parts_of addressed.unit ts) (plug addressed.unit t) (plug_all addressed.unit ts) (tree_is t) (trees_are ts)

    pub reference_is : (ts : Trees) → ReferenceIs (reference_of addressed.unit ts) ts (plug_all addressed.unit ts)
    reference_is (trees (with_list p us) no_trees) =
        element_is (listed_meaning addressed.unit p.name) p us (parts_of addressed.unit us) (reference_of addressed.unit us) (actuals_in addressed.unit us) refl (trees_are us)
    reference_is (trees (occurrence p) no_trees) = (refl, (refl, refl))
    reference_is _ = (refl, (refl, refl))

    pub actual_is : (t : Tree) → ActualIs (actual_of addressed.unit t) t (plug addressed.unit t)
    actual_is (constant x) = (refl, refl)
    actual_is (occurrence p) = name_actual p (constant_value addressed.unit p.name)
    actual_is (with_list p ts) =
        listed_actual (listed_meaning addressed.unit p.name) p ts (parts_of addressed.unit ts) (reference_of addressed.unit ts) (actuals_in addressed.unit ts) refl (trees_are ts) (
        listed_is (listed_meaning addressed.unit p.name) p ts (parts_of addressed.unit ts) (reference_of addressed.unit ts) (actuals_in addressed.unit ts) refl (trees_are ts) (reference_is ts) (asked_stays ts) (actuals_are_in ts))
    actual_is (parenthesized t) = inner_actual t (part_of addressed.unit t) (plug addressed.unit t) (tree_is t)
    actual_is (signed s t) = signed_actual s t (part_of addressed.unit t) (plug addressed.unit t) (tree_is t)
    actual_is (negated t) = negated_actual t (part_of addressed.unit t) (plug addressed.unit t) (tree_is t)
    actual_is (binary o a b) =
        binary_actual o a b (part_of addressed.unit a) (part_of addressed.unit b) (plug addressed.unit a) (plug addressed.unit b) (tree_is a) (tree_is b)

    pub actuals_are_in : (ts : Trees) → ActualsAre (actuals_in addressed.unit ts) ts (plug_actuals_in addressed.unit ts)
    actuals_are_in no_trees = (refl, (refl, refl))
    actuals_are_in (trees t ts) =
        actual_list t ts (actual_of addressed.unit t) (actuals_in addressed.unit ts) (plug addressed.unit t) (plug_actuals_in addressed.unit ts) (actual_is t) (actuals_are_in ts)
