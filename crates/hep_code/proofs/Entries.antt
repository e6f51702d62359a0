-- The code of actual arguments, of what is assigned or purged, of items and of the control of a DO, and what stands of them behind the
-- operation, which stays while they are evaluated: these entries, with the operands, are what the action has.
use Rattle.std.proofs.Common.{◌≡◌, ℕ, List, [], ◌∷◌, ◌++◌, map, length, refl, ap, sym, ◌∙◌, Option, Some, None, suc, drop}
use Rattle.std.specs.List.{flat_map}
use Rattle.hep_machine.specs.Words.{Target, Name, Occurrence, Operator, DoControl, PrintItem, Value, Tree, Trees, constant, occurrence, with_list, parenthesized, signed, negated, binary, trees, trees_of, constant_value, Reference, Part, whole, first_redex, redex_of, then_part, mapped_part, signing, negating, combined}
use Rattle.hep_machine.specs.Words.{part_of_listed, part_of, parts_of, reference_of, plugged, plugged_first, plugged_listed, plug, plug_all, list_part, plug_list, Actual, evaluated, actual_of_name, actual_of_listed, actual_of, actuals_of, plug_actuals, target_part, plug_target, targets_part, plug_targets, item_of}
use Rattle.hep_machine.specs.Words.{item_part, items_part, plug_item, plug_items, increment_of, control_part, plug_control, referred, Meaning, element, pure, state, external, listed_meaning}
use Rattle.hep_source.specs.declared.operator.Sign.{Sign as SignBefore}
use Rattle.hep_source.specs.declared.statement.PrintItem.TheVariants as print_item
use Rattle.hep_source.specs.declared.value.Value.TheVariants as value
use Rattle.hep_machine.specs.declared.record.Item.{Item}
use Rattle.hep_code.specs.declared.instruction.Argument.{Argument}
use Rattle.hep_code.specs.declared.instruction.Argument.TheVariants.{Evaluated, Referred}
use Rattle.hep_code.specs.declared.instruction.Instruction.{Instruction}
use Rattle.hep_code.specs.declared.instruction.Instruction.TheVariants.{Push, Pass, Show}
use Rattle.hep_code.specs.declared.instruction.Printed.TheVariants.{Operand}
use Rattle.hep_code.specs.declared.variable.Variable.{Variable}
use Rattle.hep_code.specs.Words.{operands_of_actual, argument_of_actual, referred_argument, operands_of_item, printed_item, count, actual_name_code, actual_listed_code, actual_code, actuals_code, argument_of_name, argument_of_listed, argument_of, target_code, targets_code, argument_of_target, item_code, items_code, printed_of, control_code, AddressedUnit, names_of, by_reference, passed_from, passed_reference, passed_actual, items_from}
use Rattle.hep_code.proofs.Expressions.{ActualPart, actual_is, argument_code, passed, FirstIs, PartIs, one, Any, before_more, behind_values, both_values, same_after, code, codes, ValueIs, ValuesAre, count_stays, tree_is, trees_are}
use Rattle.std.proofs.Math.Seq.{take-append_seam, drop-append_seam}
use Rattle.hep_machine.specs.declared.record.Item.TheVariants as item

-- where a part has a redex
abbrev pub IfFirst : {A : Type 0} → Part A → Type 0 → Type 0
IfFirst (whole x) P = Unit {0}
IfFirst (first_redex r) P = P

module _ (addressed : AddressedUnit) (line : ℕ) where
  -- the code of a part with what stands of it behind the operation: of a whole, that of what it is, and else the same with a value in its
  -- first redex
  abbrev pub HasEntry : {A E : Type 0} → (A → List Value) → (A → E) → Part A → List Instruction → (Value → List Instruction) → E → (Value → E) → Type 0
  HasEntry operands entry (whole x) c after e later = (c ≡ map Push (operands x)) × (entry x ≡ e)
  HasEntry operands entry (first_redex r) c after e later = FirstIs addressed line r c after × ((v : Value) → later v ≡ e)

  pub mapped_entry : {A E F : Type 0} (operands : A → List Value) (entry : A → E) (g : E → F) (p : Part A) (c : List Instruction) (after : Value → List Instruction) (e : E) (later : Value → E) → HasEntry operands entry p c after e later → HasEntry operands (λ x. g (entry x)) p c after (g e) (λ v. g (later v))
  mapped_entry operands entry g (whole x) c after e later h = (h.0, ap g h.1)
  mapped_entry operands entry g (first_redex r) c after e later h = (h.0, λ v. ap g (h.1 v))

  -- one more before a list
  pub list_entries : {A T : Type 0} (operands : A → List Value) (entry : A → Instruction) (c : T → List Instruction) (entry_of : T → Instruction) (p : Part A) (q : Part (List A)) (t : T) (ts : List T) (f : Value → T) (g : Value → List T) → HasEntry operands entry p (c t) (λ v. c (f v)) (entry_of t) (λ v. entry_of (f v)) → HasEntry (flat_map operands) (map entry) q (flat_map c ts) (λ v. flat_map c (g v)) (map entry_of ts) (λ v. map entry_of (g v)) → HasEntry (flat_map operands) (map entry) (then_part (λ x xs. x ∷ xs) p q) (flat_map c (t ∷ ts)) (λ v. flat_map c (plugged_first p (f v ∷ ts) (t ∷ g v))) (map entry_of (t ∷ ts)) (λ v. map entry_of (plugged_first p (f v ∷ ts) (t ∷ g v)))
  list_entries operands entry c entry_of (first_redex r) q t ts f g h i = (before_more (flat_map c ts) h.0, λ v. ap (λ i. i ∷ map entry_of ts) (h.1 v))
  list_entries operands entry c entry_of (whole x) (first_redex r) t ts f g h i = (behind_values (operands x) h.0 i.0, λ v. ap (λ is. entry_of t ∷ is) (i.1 v))
  list_entries operands entry c entry_of (whole x) (whole xs) t ts f g h i = (
    both_values (operands x) (flat_map operands xs) h.0 i.0,
    ap (λ y. y ∷ map entry xs) h.1 ∙ ap (λ is. entry_of t ∷ is) i.1,
  )

  -- ---- actual arguments: 15.9.2 and 15.9.3

  abbrev pub passed_tree : Tree → Instruction
  passed_tree t = Pass (argument_of (names_of addressed) t)

  of_actual : (p : Part Actual) (c : List Instruction) (after : Value → List Instruction) (e : Argument) (later : Value → Argument) → ActualPart addressed line p c after e later → HasEntry operands_of_actual (passed addressed line) p c after (Pass e) (λ v. Pass (later v))
  of_actual (whole x) c after e later h = (h.0, ap Pass h.1)
  of_actual (first_redex r) c after e later h = (h.0, λ v. ap Pass (h.1 v))

  actual_entry : (t : Tree) → HasEntry operands_of_actual (passed addressed line) (actual_of addressed.unit t) (argument_code addressed line t) (λ v. argument_code addressed line (plug addressed.unit t v)) (passed_tree t) (λ v. passed_tree (plug addressed.unit t v))
  actual_entry t =
      of_actual (actual_of addressed.unit t) (argument_code addressed line t) (λ v. argument_code addressed line (plug addressed.unit t v)) (argument_of (names_of addressed) t) (λ v. argument_of (names_of addressed) (plug addressed.unit t v))
      (actual_is addressed line t)

  pub actuals_are : (ts : List Tree) → HasEntry (flat_map operands_of_actual) (map (passed addressed line)) (actuals_of addressed.unit ts) (actuals_code (names_of addressed) line ts) (λ v. actuals_code (names_of addressed) line (plug_actuals addressed.unit ts v)) (map passed_tree ts) (λ v. map passed_tree (plug_actuals addressed.unit ts v))
  actuals_are [] = (refl, refl)
  actuals_are (t ∷ ts) =
      list_entries operands_of_actual (passed addressed line) (argument_code addressed line) passed_tree (actual_of addressed.unit t) (actuals_of addressed.unit ts) t ts (plug addressed.unit t) (plug_actuals addressed.unit ts) (actual_entry t) (actuals_are ts)

  -- ---- what is assigned (10.1 and 10.2) or purged (docs/LANGUAGE.md, 9)

  -- where a variable is, and the number of its subscripts
  abbrev pub place_of_target : Target → Variable × ℕ
  place_of_target t = (addressed.variables t.occurrence.name, count (trees_of t.subscripts))

  abbrev pub place_of_reference : Reference → Variable × ℕ
  place_of_reference r = (addressed.variables r.0, length r.1)

  abbrev pub subscripts : Reference → List Value
  subscripts r = r.1

  trees_first : (p : Part Value) (t u : Tree) (ts us : List Tree) → trees_of (plugged_first p (u ∷ ts) (t ∷ us)) ≡ plugged_first p (trees u (trees_of ts)) (trees t (trees_of us))
  trees_first (whole x) t u ts us = refl
  trees_first (first_redex r) t u ts us = refl

  plugged_trees : (ts : List Tree) (v : Value) → trees_of (plug_list addressed.unit ts v) ≡ plug_all addressed.unit (trees_of ts) v
  plugged_trees [] v = refl
  plugged_trees (t ∷ ts) v =
      trees_first (part_of addressed.unit t) t (plug addressed.unit t v) ts (plug_list addressed.unit ts v)
      ∙ ap (λ us. plugged_first (part_of addressed.unit t) (trees (plug addressed.unit t v) (trees_of ts)) (trees t us)) (plugged_trees ts v)

  target_by : (x : Name) (ts : List Tree) (q : Part (List Value)) → ValuesAre addressed line q (trees_of ts) (plug_all addressed.unit (trees_of ts)) → HasEntry subscripts place_of_reference (mapped_part (λ vs. (x, vs)) q) (codes addressed line (trees_of ts)) (λ v. codes addressed line (trees_of (plug_list addressed.unit ts v))) (addressed.variables x, count (trees_of ts)) (λ v. (addressed.variables x, count (trees_of (plug_list addressed.unit ts v))))
  target_by x ts (whole xs) h = (h.0, ap (λ n. (addressed.variables x, n)) h.1)
  target_by x ts (first_redex r) h = (
    same_after (λ v. ap (codes addressed line) (plugged_trees ts v)) h,
    λ v. ap (λ n. (addressed.variables x, n)) (ap count (plugged_trees ts v) ∙ count_stays addressed line (trees_of ts) v),
  )

  pub target_is : (t : Target) → HasEntry subscripts place_of_reference (target_part addressed.unit t) (target_code (names_of addressed) line t) (λ v. target_code (names_of addressed) line (plug_target addressed.unit t v)) (place_of_target t) (λ v. place_of_target (plug_target addressed.unit t v))
  target_is t =
      target_by t.occurrence.name t.subscripts (list_part addressed.unit t.subscripts) (trees_are addressed line (trees_of t.subscripts))

  abbrev pub purged : Reference → Instruction
  purged r = Pass (referred_argument addressed.variables r)

  abbrev pub purged_target : Target → Instruction
  purged_target t = Pass (argument_of_target (names_of addressed) t)

  pub targets_are : (ts : List Target) → HasEntry (flat_map subscripts) (map purged) (targets_part addressed.unit ts) (targets_code (names_of addressed) line ts) (λ v. targets_code (names_of addressed) line (plug_targets addressed.unit ts v)) (map purged_target ts) (λ v. map purged_target (plug_targets addressed.unit ts v))
  targets_are [] = (refl, refl)
  targets_are (t ∷ ts) =
      list_entries subscripts purged (target_code (names_of addressed) line) purged_target (target_part addressed.unit t) (targets_part addressed.unit ts) t ts (plug_target addressed.unit t) (plug_targets addressed.unit ts)
      (mapped_entry subscripts place_of_reference (λ e. Pass (Referred e.0 e.1)) (target_part addressed.unit t) (target_code (names_of addressed) line t) (λ v. target_code (names_of addressed) line (plug_target addressed.unit t v)) (place_of_target t) (λ v. place_of_target (plug_target addressed.unit t v)) (target_is t))
      (targets_are ts)

  -- ---- items of a PRINT: 12.8.2

  abbrev pub shown : Item → Instruction
  shown i = Show (printed_item i)

  abbrev pub shown_item : PrintItem → Instruction
  shown_item i = Show (printed_of i)

  value_shown : (v : Value) → (operands_of_item (item_of v) ≡ v ∷ []) × (printed_item (item_of v) ≡ Operand)
  value_shown (value.Int z) = (refl, refl)
  value_shown (value.Truth b) = (refl, refl)

  item_by : (t : Tree) (p : Part Value) (f : Value → Tree) → ValueIs addressed line p t f → HasEntry operands_of_item shown (mapped_part item_of p) (code addressed line t) (λ v. code addressed line (f v)) (Show Operand) (λ v. Show Operand)
  item_by t (whole x) f h = (h.0 ∙ ap (map Push) (sym (value_shown x).0), ap Show (value_shown x).1)
  item_by t (first_redex r) f h = (h, λ v. refl)

  item_is : (i : PrintItem) → HasEntry operands_of_item shown (item_part addressed.unit i) (item_code (names_of addressed) line i) (λ v. item_code (names_of addressed) line (plug_item addressed.unit i v)) (shown_item i) (λ v. shown_item (plug_item addressed.unit i v))
  item_is (print_item.Expression t) = item_by t (part_of addressed.unit t) (plug addressed.unit t) (tree_is addressed line t)
  item_is (print_item.Characters cs) = (refl, refl)

  pub items_are : (is : List PrintItem) → HasEntry (flat_map operands_of_item) (map shown) (items_part addressed.unit is) (items_code (names_of addressed) line is) (λ v. items_code (names_of addressed) line (plug_items addressed.unit is v)) (map shown_item is) (λ v. map shown_item (plug_items addressed.unit is v))
  items_are [] = (refl, refl)
  items_are (i ∷ is) =
      list_entries operands_of_item shown (item_code (names_of addressed) line) shown_item (item_part addressed.unit i) (items_part addressed.unit is) i is (plug_item addressed.unit i) (plug_items addressed.unit is) (item_is i) (items_are is)

  -- ---- DO: 11.10.3

  abbrev pub three : Value × Value × Value → List Value
  three m = m.0 ∷ m.1 ∷ m.2 ∷ []

  -- with a value in the first redex of the initial value, the limit or the increment
  abbrev control_after : DoControl → Part Value → Part Value → Value → DoControl
  control_after c p q v =
      plugged_first p (record c { initial = plug addressed.unit c.initial v }) (
      plugged_first q (record c { limit = plug addressed.unit c.limit v }) (record c { increment = Some (plug addressed.unit (increment_of c.increment) v) }))

  control_by : (c : DoControl) (p q r : Part Value) → ValueIs addressed line p c.initial (plug addressed.unit c.initial) → ValueIs addressed line q c.limit (plug addressed.unit c.limit) → ValueIs addressed line r (increment_of c.increment) (plug addressed.unit (increment_of c.increment)) → HasEntry three (λ m. c.variable.name) (then_part (λ m (rest_after : Value × Value). (m, rest_after.0, rest_after.1)) p (then_part (λ m n. (m, n)) q r)) (control_code (names_of addressed) line c) (λ v. control_code (names_of addressed) line (control_after c p q v)) c.variable.name (λ v. (control_after c p q v).variable.name)
  control_by c (first_redex s) q r h i j = (before_more (code addressed line c.limit ++ code addressed line (increment_of c.increment)) h, λ v. refl)
  control_by c (whole x) (first_redex s) r h i j = (behind_values (x ∷ []) h.0 (before_more (code addressed line (increment_of c.increment)) i), λ v. refl)
  control_by c (whole x) (whole y) (first_redex s) h i j = (behind_values (x ∷ []) h.0 (behind_values (y ∷ []) i.0 j), λ v. refl)
  control_by c (whole x) (whole y) (whole z) h i j = (both_values (x ∷ []) (y ∷ z ∷ []) h.0 (both_values (y ∷ []) (z ∷ []) i.0 j.0), refl)

  pub control_is : (c : DoControl) → HasEntry three (λ m. c.variable.name) (control_part addressed.unit c) (control_code (names_of addressed) line c) (λ v. control_code (names_of addressed) line (plug_control addressed.unit c v)) c.variable.name (λ v. (plug_control addressed.unit c v).variable.name)
  control_is c =
      control_by c (part_of addressed.unit c.initial) (part_of addressed.unit c.limit) (part_of addressed.unit (increment_of c.increment)) (tree_is addressed line c.initial) (tree_is addressed line c.limit) (tree_is addressed line (increment_of c.increment))

-- ---- the entries of a CALL, CREATE, PURGE or PRINT

module _ (variables : Name → Variable) where
  -- a reference by its subscripts, and the operands behind them
  reference_first : (r : Reference) (n : ℕ) (entries : List Instruction) (vs : List Value) → passed_from (suc n) (Pass (referred_argument variables r) ∷ entries) (r.1 ++ vs) ≡ passed_reference variables r ∷ passed_from n entries vs
  reference_first r n entries vs =
      ap (λ xs. by_reference (variables r.0) xs ∷ passed_from n entries (drop (length r.1) (r.1 ++ vs))) (take-append_seam r.1 vs)
      ∙ ap (λ xs. passed_reference variables r ∷ passed_from n entries xs) (drop-append_seam r.1 vs)

  pub actuals_passed : (xs : List Actual) (more : List Instruction) → passed_from (length xs) (map (λ a. Pass (argument_of_actual variables a)) xs ++ more) (flat_map operands_of_actual xs) ≡ map (passed_actual variables) xs
  actuals_passed [] more = refl
  actuals_passed (evaluated v ∷ xs) more = ap (λ ys. passed_actual variables (evaluated v) ∷ ys) (actuals_passed xs more)
  actuals_passed (referred r ∷ xs) more =
      reference_first r (length xs) (map (λ a. Pass (argument_of_actual variables a)) xs ++ more) (flat_map operands_of_actual xs)
      ∙ ap (λ ys. passed_reference variables r ∷ ys) (actuals_passed xs more)

  pub references_passed : (rs : List Reference) (more : List Instruction) → passed_from (length rs) (map (λ r. Pass (referred_argument variables r)) rs ++ more) (flat_map (λ (r : Reference). r.1) rs) ≡ map (passed_reference variables) rs
  references_passed [] more = refl
  references_passed (r ∷ rs) more =
      reference_first r (length rs) (map (λ r. Pass (referred_argument variables r)) rs ++ more) (flat_map (λ (r : Reference). r.1) rs)
      ∙ ap (λ ys. passed_reference variables r ∷ ys) (references_passed rs more)

pub items_shown : (xs : List Item) (more : List Instruction) → items_from (length xs) (map (λ i. Show (printed_item i)) xs ++ more) (flat_map operands_of_item xs) ≡ xs
items_shown [] more = refl
items_shown (item.Int z ∷ xs) more = ap (λ ys. item.Int z ∷ ys) (items_shown xs more)
items_shown (item.Truth b ∷ xs) more = ap (λ ys. item.Truth b ∷ ys) (items_shown xs more)
items_shown (item.Text cs ∷ xs) more = ap (λ ys. item.Text cs ∷ ys) (items_shown xs more)
