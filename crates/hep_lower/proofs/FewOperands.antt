-- In the code of an expression there are less than two instructions for each of its parts, and in that of a statement at most as many
-- operands as it has names and constants. In the code of a unit there are at most two instructions for each of its parts.
use Rattle.std.proofs.Common.{◌≡◌, ◌⊎◌, inl, inr, ℕ, suc, ◌+◌, ◌-◌, ◌*◌, ◌<◌, ◌≤◌, Bool, true, false, List, [], ◌∷◌, ◌++◌, map, take, length, Option, Some, None, refl, ap, sym, ◌∙◌, subst, arith, append_assoc, length-append, nat_lt, if◌then◌else◌, zero}
use Rattle.std.specs.List.{flat_map, sum_by}
use Rattle.std.proofs.lemmas.Bool.Decides.{nat_tests}
use Rattle.std.proofs.lemmas.List.Sums.{sum_by-cons}
use Rattle.std.proofs.lemmas.Option.{same_Some, none-some}
use Rattle.hep_machine.specs.Words.{Tree, Trees, constant, occurrence, with_list, parenthesized, signed, negated, binary, no_trees, trees, trees_of, Target, Name, DoControl, Form, PrintItem, Statement, Value, Units, increment_of, Meaning, element, pure, state, external, unit_at}
use Rattle.hep_source.specs.declared.statement.Form.TheVariants as form
use Rattle.hep_source.specs.declared.statement.PrintItem.TheVariants as item
use Rattle.hep_code.specs.declared.instruction.Argument.{Argument}
use Rattle.hep_code.specs.declared.instruction.Evaluation.{Evaluation}
use Rattle.hep_code.specs.declared.instruction.Evaluation.TheVariants.{Load, Sign, Not, Combine, Apply, Test}
use Rattle.hep_code.specs.declared.instruction.Instruction.{Instruction}
use Rattle.hep_code.specs.declared.instruction.Instruction.TheVariants.{Push, Step, To, Pass, Show}
use Rattle.hep_code.specs.declared.instruction.Operation.{Operation}
use Rattle.hep_code.specs.declared.instruction.Operation.TheVariants.{Store, Choose, BySign, Condition, Branch, EnterLoop, Call, Create, Purge, Print, Refer}
use Rattle.hep_code.specs.declared.variable.Variable.{Variable}
use Rattle.hep_code.specs.Words.{actuals_code_in, ending_of, passes, arity, operands_passed, operands_shown, operands_of_entry, operands_of_entries, operands_by, operands_ahead, line_ahead, line_too_deep, count, evaluating, name_code, asked, asked_listed, asked_listed_code, listed_code, tree_code, trees_code, asked_code, actual_name_code, actual_listed_code, actual_code, actuals_code, argument_of, argument_of_name, argument_of_listed, argument_of_target, target_code, item_code, printed_of, control_code, most_operands, addressed_unit, operands_code, operation_code, conditions_code, loop_end_code, statement_code, statements_code, NameTable, Table, AddressedUnit, code_of, table_of, form_code}
use Rattle.hep_image.specs.Places.{addresses_of}
use Rattle.hep_lower.specs.PartCounts.{HasLongStatement, IsOfLongStatement, in_tree, in_trees, in_list, in_optional, in_target, in_control, in_item, in_form, names_and_constants, labels_of_form, parts_of_statement, parts_of_unit, parts_of}
use Rattle.hep_lower.specs.Refusals.{IsFirstDeep, IsCodeBeyond, instructions_in}
use Rattle.std.proofs.lemmas.List.{length-map}

-- ---- code that gives values

-- in front of each of these instructions, with those behind them, there are at most m operands, and this line is ahead
abbrev pub AreWithin : ℕ → ℕ → List Instruction → List Instruction → Type 0
AreWithin line m behind [] = Unit {0}
AreWithin line m behind (i ∷ is) =
    (operands_ahead (i ∷ (is ++ behind)) ≤ m) × (line_ahead (i ∷ (is ++ behind)) ≡ line) × AreWithin line m behind is

raised : (line m n : ℕ) (behind is : List Instruction) → m ≤ n → AreWithin line m behind is → AreWithin line n behind is
raised line m n behind [] le h = tt
raised line m n behind (i ∷ is) le h = (omega (arith, le, h.0), h.1, raised line m n behind is le h.2)

joined : (line m : ℕ) (behind is js : List Instruction) → AreWithin line m (js ++ behind) is → AreWithin line m behind js
    → AreWithin line m behind (is ++ js)
joined line m behind [] js h k = k
joined line m behind (i ∷ is) js h k =
    let e = append_assoc is js behind in
    let rest = joined line m behind is js h.2 k in
    (omega (arith, h.0, ap (λ all. operands_ahead (i ∷ all)) e), ap (λ all. line_ahead (i ∷ all)) e ∙ h.1, rest)

-- code of a statement with this line that gives so many values, has so many names and constants, and with the values at most two
-- instructions for each of so many parts
pub record Gives (line : ℕ) (code : List Instruction) (values words parts : ℕ) : Type 0 where
  pub few : values ≤ words
  pub short : length code + values ≤ 2 * parts
  pub ahead : (behind : List Instruction) → line_ahead behind ≡ line → operands_ahead (code ++ behind) ≡ operands_ahead behind - values
  pub lined : (behind : List Instruction) → line_ahead behind ≡ line → line_ahead (code ++ behind) ≡ line
  pub within : (behind : List Instruction) → line_ahead behind ≡ line → AreWithin line ((operands_ahead behind - values) + words) behind code

nothing : {line words parts : ℕ} → Gives line [] 0 words parts
nothing = record { few = omega arith; short = omega arith; ahead = λ behind h. omega arith; lined = λ behind h. h; within = λ behind h. tt }

pushed : {line : ℕ} (v : Value) → Gives line (Push v ∷ []) 1 1 1
pushed v =
    record { few = omega arith; short = omega arith; ahead = λ behind h. refl; lined = λ behind h. h; within = λ behind h. (omega arith, h, tt) }

more : {line v m n p q : ℕ} {c : List Instruction} → m ≤ n → p ≤ q → Gives line c v m p → Gives line c v n q
more {line = line} {v = v} {m = m} {n = n} {c = c} le less g =
    record {
      few = omega (arith, le, g.few);
      short = omega (arith, less, g.short);
      ahead = g.ahead;
      lined = g.lined;
      within = λ behind h.
          let k = operands_ahead behind - v in raised line (k + m) (k + n) behind c (omega (arith, le)) (g.within behind h);
    }

both : {line v w p x y q : ℕ} {c d : List Instruction} → Gives line c v w p → Gives line d x y q → Gives line (c ++ d) (v + x) (w + y) (p + q)
both {line = line} {v = v} {w = w} {x = x} {y = y} {c = c} {d = d} g h =
    record {
      few = omega (arith, g.few, h.few);
      short = omega (arith, length-append c d, g.short, h.short);
      ahead = λ behind is.
          let e = ap operands_ahead (append_assoc c d behind) in
          omega (arith, e, g.ahead (d ++ behind) (h.lined behind is), h.ahead behind is);
      lined = λ behind is. ap line_ahead (append_assoc c d behind) ∙ g.lined (d ++ behind) (h.lined behind is);
      within = λ behind is.
          let all = d ++ behind in
          let m = (operands_ahead behind - (v + x)) + (w + y) in
          let first = g.within all (h.lined behind is) in
          let less : (operands_ahead all - v) + w ≤ m = omega (arith, h.ahead behind is, h.few) in
          let last : (operands_ahead behind - x) + y ≤ m = omega (arith, g.few) in
          joined line m behind c d (raised line _ m all c less first) (raised line _ m behind d last (h.within behind is));
    }

-- what is done with all of them gives one value
evaluated : {line v w n p : ℕ} {c : List Instruction} (e : Evaluation) → arity e ≡ v → w ≤ n → 1 ≤ n → Gives line c v w p
    → Gives line (c ++ evaluating line e) 1 n (1 + p)
evaluated {line = line} {v = v} {w = w} {n = n} {c = c} e same le some g =
    let last = evaluating line e in
    record {
      few = some;
      short = omega (arith, length-append c last, g.short);
      ahead = λ behind is. omega (arith, ap operands_ahead (append_assoc c last behind), g.ahead (last ++ behind) refl, same);
      lined = λ behind is. ap line_ahead (append_assoc c last behind) ∙ g.lined (last ++ behind) refl;
      within = λ behind is.
          let all = last ++ behind in
          let m = (operands_ahead behind - 1) + n in
          let less : (operands_ahead all - v) + w ≤ m = omega (arith, same, le) in
          joined line m behind c last (raised line _ m all c less (g.within all refl)) (omega (arith, same, g.few, le), refl, tt);
    }

each_gives : {A : Type 0} {line : ℕ} (f : A → List Instruction) (v w p : A → ℕ) → ((x : A) → Gives line (f x) (v x) (w x) (p x))
    → (xs : List A) → Gives line (flat_map f xs) (sum_by v xs) (sum_by w xs) (sum_by p xs)
each_gives f v w p h [] = nothing
each_gives {line = line} f v w p h (x ∷ xs) =
    rw (sum_by-cons v x xs, sum_by-cons w x xs, sum_by-cons p x xs) (both (h x) (each_gives f v w p h xs))

-- ---- lists

module _ (operator : ℕ) where
  list_is : (ts : List Tree) → in_trees operator (trees_of ts) ≡ in_list operator ts
  list_is [] = refl
  list_is (t ∷ ts) = omega (arith, list_is ts, sum_by-cons (in_tree operator) t ts)

-- ---- expressions

abbrev pub subscripts_of : Target → ℕ
subscripts_of t = count (trees_of t.subscripts)

abbrev pub shown : PrintItem → ℕ
shown i = operands_shown (printed_of i)

module _ (names : NameTable) (line : ℕ) where
  abbrev code : Tree → List Instruction
  code t = tree_code names line t

  abbrev codes : Trees → List Instruction
  codes ts = trees_code names line ts

  abbrev TreesGive : Trees → Type 0
  TreesGive ts = Gives line (codes ts) (count ts) (in_trees 0 ts) (in_trees 1 ts)

  abbrev AskedGives : Trees → Type 0
  AskedGives ts = Gives line (asked_code names line ts) (asked names ts).1 (in_trees 0 ts) (in_trees 1 ts)

  name_gives : (o : Option Value) (x : Name) → Gives line (name_code names line o x) 1 1 1
  name_gives None x = evaluated (Load (names.variables x) 0) refl (omega arith) (omega arith) (nothing {words = 0} {parts = 0})
  name_gives (Some v) x = pushed v

  asked_listed_gives : (m : Meaning) (x : Name) (ts : Trees) (n k : ℕ) → in_trees 0 ts ≤ n → in_trees 1 ts ≤ k → TreesGive ts
      → Gives line (asked_listed_code m (codes ts)) (asked_listed m x (count ts)).1 n k
  asked_listed_gives element x ts n k le less g = more le less g
  asked_listed_gives (pure f) x ts n k le less g = nothing
  asked_listed_gives (state f) x ts n k le less g = nothing
  asked_listed_gives external x ts n k le less g = nothing

  -- ---- actual arguments

  abbrev pub passed : Tree → ℕ
  passed t = operands_passed (argument_of names t)

  abbrev passed_all : Trees → ℕ
  passed_all no_trees = 0
  passed_all (trees t ts) = passed t + passed_all ts

  -- how they are passed stands behind the operation, where it counts with their code
  record ActualGives (value : List Instruction) (t : Tree) : Type 0 where
    pub gives : Gives line value (passed t) (in_tree 0 t) (in_tree 1 t)
    pub short : length value + 1 ≤ 2 * in_tree 1 t

  record ActualsGive (ts : Trees) : Type 0 where
    pub gives : Gives line (actuals_code_in names line ts) (passed_all ts) (in_trees 0 ts) (in_trees 1 ts)
    pub short : length (actuals_code_in names line ts) + count ts ≤ 2 * in_trees 1 ts

  of_value : (t : Tree) (value : List Instruction) → passed t ≡ 1 → Gives line value 1 (in_tree 0 t) (in_tree 1 t) → ActualGives value t
  of_value t value same g = record { gives = subst (λ n. Gives line value n (in_tree 0 t) (in_tree 1 t)) (sym same) g; short = g.short }

  passes_ahead : (ts : Trees) (behind : List Instruction) → operands_ahead (passes names ts ++ behind) ≡ operands_ahead behind
  passes_ahead no_trees behind = refl
  passes_ahead (trees t ts) behind = passes_ahead ts behind

  passes_lined : (ts : Trees) (behind : List Instruction) → line_ahead (passes names ts ++ behind) ≡ line_ahead behind
  passes_lined no_trees behind = refl
  passes_lined (trees t ts) behind = passes_lined ts behind

  passes_take : (ts : Trees) (behind : List Instruction) → operands_of_entries (take (count ts) (passes names ts ++ behind)) ≡ passed_all ts
  passes_take no_trees behind = refl
  passes_take (trees t ts) behind = ap (λ n. passed t + n) (passes_take ts behind)

  passes_long : (ts : Trees) → length (passes names ts) ≡ count ts
  passes_long no_trees = refl
  passes_long (trees t ts) = ap suc (passes_long ts)

  passes_within : (m : ℕ) (behind : List Instruction) → operands_ahead behind ≤ m → line_ahead behind ≡ line → (ts : Trees) → AreWithin line m behind (passes names ts)
  passes_within m behind le is no_trees = tt
  passes_within m behind le is (trees t ts) = (omega (arith, passes_ahead ts behind, le), passes_lined ts behind ∙ is, passes_within m behind le is ts)

  -- a reference of a function of the program
  referred : (u : ℕ) (ts : Trees) → ActualsGive ts
      → Gives line (actuals_code_in names line ts ++ (Step line (Refer u (count ts)) ∷ passes names ts)) 1 (1 + in_trees 0 ts) (1 + in_trees 1 ts)
  referred u ts g =
      let c = actuals_code_in names line ts in
      let o = Refer u (count ts) in
      let last = Step line o ∷ passes names ts in
      record {
        few = omega arith;
        short = omega (arith, length-append c last, g.short, passes_long ts);
        ahead = λ behind is.
            omega (arith, ap operands_ahead (append_assoc c last behind), g.gives.ahead (last ++ behind) refl, passes_take ts behind, passes_ahead ts behind);
        lined = λ behind is. ap line_ahead (append_assoc c last behind) ∙ g.gives.lined (last ++ behind) refl;
        within = λ behind is.
            let all = last ++ behind in
            let m = (operands_ahead behind - 1) + (1 + in_trees 0 ts) in
            let less : (operands_ahead all - passed_all ts) + in_trees 0 ts ≤ m = omega (arith, passes_take ts behind, passes_ahead ts behind) in
            let here : operands_ahead all ≤ m = omega (arith, passes_take ts behind, passes_ahead ts behind, g.gives.few) in
            joined line m behind c last (raised line _ m all c less (g.gives.within all refl)) (here, refl, passes_within m behind (omega arith) is ts);
      }

  listed_gives : (m : Meaning) (x : Name) (ts : Trees) → TreesGive ts → AskedGives ts → ActualsGive ts
      → Gives line (listed_code names m line x ts (codes ts) (asked_code names line ts) (actuals_code_in names line ts)) 1 (1 + in_trees 0 ts) (1 + in_trees 1 ts)
  listed_gives element x ts g h i = evaluated (Load (names.variables x) (count ts)) refl (omega arith) (omega arith) g
  listed_gives (pure f) x ts g h i = evaluated (Apply f (count ts)) refl (omega arith) (omega arith) g
  listed_gives (state f) x ts g h i =
      evaluated (Test f (names.variables (asked names ts).0) (asked names ts).1) refl (omega arith) (omega arith) h
  listed_gives external x ts g h i = referred (names.functions x) ts i

  actual_name_gives : (o : Option Value) (x : Name) → Gives line (actual_name_code o) (operands_passed (argument_of_name names o x)) 1 1
  actual_name_gives None x = nothing
  actual_name_gives (Some v) x = pushed v

  name_short : (o : Option Value) → length (actual_name_code o) + 1 ≤ 2
  name_short None = omega arith
  name_short (Some v) = omega arith

  actual_listed_gives : (m : Meaning) (x : Name) (ts : Trees) (value : List Instruction) → TreesGive ts → Gives line value 1 (1 + in_trees 0 ts) (1 + in_trees 1 ts)
      → Gives line (actual_listed_code m (codes ts) value) (operands_passed (argument_of_listed names m x (count ts))) (1 + in_trees 0 ts) (1 + in_trees 1 ts)
  actual_listed_gives element x ts value g h = more (omega arith) (omega arith) g
  actual_listed_gives (pure f) x ts value g h = h
  actual_listed_gives (state f) x ts value g h = h
  actual_listed_gives external x ts value g h = h

  actual_listed_short : (m : Meaning) (ts : Trees) (value : List Instruction) → TreesGive ts → Gives line value 1 (1 + in_trees 0 ts) (1 + in_trees 1 ts)
      → length (actual_listed_code m (codes ts) value) + 1 ≤ 2 * (1 + in_trees 1 ts)
  actual_listed_short element ts value g h = omega (arith, g.short)
  actual_listed_short (pure f) ts value g h = h.short
  actual_listed_short (state f) ts value g h = h.short
  actual_listed_short external ts value g h = h.short

  mutual
    pub tree_gives : (t : Tree) → Gives line (code t) 1 (in_tree 0 t) (in_tree 1 t)
    tree_gives (constant v) = pushed v
    tree_gives (occurrence p) = name_gives (names.constants p.name) p.name
    tree_gives (with_list p ts) = listed_gives (names.meanings p.name) p.name ts (trees_give ts) (asked_gives ts) (actuals_in_give ts)
    tree_gives (parenthesized t) = tree_gives t
    tree_gives (signed s t) = let g = tree_gives t in evaluated (Sign s) refl (omega arith) (omega (arith, g.few)) g
    tree_gives (negated t) = let g = tree_gives t in evaluated Not refl (omega arith) (omega (arith, g.few)) g
    tree_gives (binary o a b) =
        let g = both (tree_gives a) (tree_gives b) in evaluated (Combine o) refl (omega arith) (omega (arith, g.few)) g

    trees_give : (ts : Trees) → TreesGive ts
    trees_give no_trees = nothing
    trees_give (trees t ts) =
        let e : 1 + count ts ≡ suc (count ts) = omega arith in
        subst (λ n. Gives line (code t ++ codes ts) n (in_trees 0 (trees t ts)) (in_trees 1 (trees t ts))) e (both (tree_gives t) (trees_give ts))

    asked_gives : (ts : Trees) → AskedGives ts
    asked_gives (trees (with_list p us) no_trees) =
        asked_listed_gives (names.meanings p.name) p.name us (in_trees 0 (trees (with_list p us) no_trees)) (in_trees 1 (trees (with_list p us) no_trees)) (omega arith) (omega arith) (trees_give us)
    asked_gives (trees (with_list p us) (trees t ts)) = nothing
    asked_gives (trees (occurrence p) no_trees) = nothing
    asked_gives (trees (occurrence p) (trees t ts)) = nothing
    asked_gives _ = nothing

    actual_gives : (t : Tree) → ActualGives (actual_code names line t) t
    actual_gives (occurrence p) = record { gives = actual_name_gives (names.constants p.name) p.name; short = name_short (names.constants p.name) }
    actual_gives (with_list p ts) =
        let m = names.meanings p.name in
        let value = listed_code names m line p.name ts (codes ts) (asked_code names line ts) (actuals_code_in names line ts) in
        let g = listed_gives m p.name ts (trees_give ts) (asked_gives ts) (actuals_in_give ts) in
        record { gives = actual_listed_gives m p.name ts value (trees_give ts) g; short = actual_listed_short m ts value (trees_give ts) g }
    actual_gives (constant v) = of_value (constant v) (code (constant v)) refl (pushed v)
    actual_gives (parenthesized t) = of_value (parenthesized t) (code t) refl (tree_gives t)
    actual_gives (signed s t) =
        let g = tree_gives t in
        of_value (signed s t) (code (signed s t)) refl (evaluated (Sign s) refl (omega arith) (omega (arith, g.few)) g)
    actual_gives (negated t) =
        let g = tree_gives t in
        of_value (negated t) (code (negated t)) refl (evaluated Not refl (omega arith) (omega (arith, g.few)) g)
    actual_gives (binary o a b) =
        let g = both (tree_gives a) (tree_gives b) in
        of_value (binary o a b) (code (binary o a b)) refl (evaluated (Combine o) refl (omega arith) (omega (arith, g.few)) g)

    actuals_in_give : (ts : Trees) → ActualsGive ts
    actuals_in_give no_trees = record { gives = nothing; short = omega arith }
    actuals_in_give (trees t ts) =
        let g = actual_gives t in
        let h = actuals_in_give ts in
        record {
          gives = both g.gives h.gives;
          short = omega (arith, length-append (actual_code names line t) (actuals_code_in names line ts), g.short, h.short);
        }

  -- ---- actual arguments, targets and items

  pub actuals_give : (ts : List Tree) → Gives line (actuals_code names line ts) (sum_by passed ts) (1 + in_list 0 ts) (in_list 1 ts)
  actuals_give ts = more (omega arith) (omega arith) (each_gives (actual_code names line) passed (in_tree 0) (in_tree 1) (λ t. (actual_gives t).gives) ts)

  pub actuals_short : (ts : List Tree) → length (actuals_code names line ts) + length ts ≤ 2 * in_list 1 ts
  actuals_short [] = omega arith
  actuals_short (t ∷ ts) =
      omega (arith, length-append (actual_code names line t) (actuals_code names line ts), sum_by-cons (in_tree 1) t ts, (actual_gives t).short, actuals_short ts)

  pub target_gives : (t : Target) → Gives line (target_code names line t) (count (trees_of t.subscripts)) (in_target 0 t) (in_target 1 t)
  target_gives t = more (omega (arith, list_is 0 t.subscripts)) (omega (arith, list_is 1 t.subscripts)) (trees_give (trees_of t.subscripts))

  pub targets_short : (xs : List Target) → length (flat_map (target_code names line) xs) + length xs ≤ 2 * sum_by (in_target 1) xs
  targets_short [] = omega arith
  targets_short (x ∷ xs) =
      omega (arith, length-append (target_code names line x) (flat_map (target_code names line) xs), sum_by-cons (in_target 1) x xs, list_is 1 x.subscripts, (trees_give (trees_of x.subscripts)).short, targets_short xs)

  item_gives : (i : PrintItem) → Gives line (item_code names line i) (operands_shown (printed_of i)) (in_item 0 i) (in_item 1 i)
  item_gives (item.Expression t) = tree_gives t
  item_gives (item.Characters cs) = nothing

  item_short : (i : PrintItem) → length (item_code names line i) + 1 ≤ 2 * in_item 1 i
  item_short (item.Expression t) = (tree_gives t).short
  item_short (item.Characters cs) = omega arith

  pub items_short : (is : List PrintItem) → length (flat_map (item_code names line) is) + length is ≤ 2 * sum_by (in_item 1) is
  items_short [] = omega arith
  items_short (i ∷ is) =
      omega (arith, length-append (item_code names line i) (flat_map (item_code names line) is), sum_by-cons (in_item 1) i is, item_short i, items_short is)

  -- where a DO has no increment, its variable counts for the 1
  increment_gives : (o : Option Tree) → Gives line (code (increment_of o)) 1 (1 + in_optional 0 o) (1 + in_optional 1 o)
  increment_gives None = pushed _
  increment_gives (Some t) = more (omega arith) (omega arith) (tree_gives t)

  pub control_gives : (c : DoControl) → Gives line (control_code names line c) 3 (in_control 0 c) (in_control 1 c)
  control_gives c =
      more (omega arith) (omega arith) (both (tree_gives c.initial) (both (tree_gives c.limit) (increment_gives c.increment)))

  pub targets_give : (xs : List Target) → Gives line (flat_map (target_code names line) xs) (sum_by subscripts_of xs) (sum_by (in_target 0) xs) (sum_by (in_target 1) xs)
  targets_give xs = each_gives (target_code names line) subscripts_of (in_target 0) (in_target 1) target_gives xs

  pub items_give : (is : List PrintItem) → Gives line (flat_map (item_code names line) is) (sum_by shown is) (sum_by (in_item 0) is) (sum_by (in_item 1) is)
  items_give is = each_gives (item_code names line) shown (in_item 0) (in_item 1) item_gives is

-- ---- the first line that is too deep

-- it is that of what stands behind, or this line, of a statement with so many names and constants
abbrev IsTold : ℕ → ℕ → Option ℕ → Option ℕ → Type 0
IsTold line m first behind = (first ≡ behind) ⊎ ((first ≡ Some line) × (most_operands < m))

module _ (line : ℕ) where
  same_told : (m : ℕ) {a b c : Option ℕ} → a ≡ b → IsTold line m b c → IsTold line m a c
  same_told m e (inl f) = inl (e ∙ f)
  same_told m e (inr f) = inr (e ∙ f.0, f.1)

  told_more : (m n : ℕ) {a b : Option ℕ} → m ≤ n → IsTold line m a b → IsTold line n a b
  told_more m n le (inl e) = inl e
  told_more m n le (inr e) = inr (e.0, omega (arith, le, e.1))

  told_both : (k m n : ℕ) {a b c : Option ℕ} → k ≤ n → m ≤ n → IsTold line k a b → IsTold line m b c → IsTold line n a c
  told_both k m n le less (inl e) h = same_told n e (told_more m n less h)
  told_both k m n le less (inr e) h = inr (e.0, omega (arith, le, e.1))

  told_by : (t : Bool) (m n l : ℕ) (rest behind : Option ℕ) → nat_lt most_operands n ≡ t → n ≤ m → l ≡ line
      → IsTold line m rest behind → IsTold line m (if t then Some l else rest) behind
  told_by true m n l rest behind e le is h = inr (ap Some is, grind (arith, nat_tests))
  told_by false m n l rest behind e le is h = h

  within_told : (m : ℕ) (is behind : List Instruction) → AreWithin line m behind is
      → IsTold line m (line_too_deep (is ++ behind)) (line_too_deep behind)
  within_told m [] behind h = inl refl
  within_told m (i ∷ is) behind h =
      let all = is ++ behind in
      let n = operands_ahead (i ∷ all) in
      let rest = within_told m is behind h.2 in
      told_by (nat_lt most_operands n) m n (line_ahead (i ∷ all)) (line_too_deep all) (line_too_deep behind) refl h.0 h.1 rest

  -- operands, and an operation that takes all of them
  performed : {v w p : ℕ} {c : List Instruction} (o : Operation) (behind : List Instruction) → Gives line c v w p
      → operands_by o (operands_ahead behind) behind ≡ v → IsTold line w (line_too_deep (c ++ Step line o ∷ behind)) (line_too_deep behind)
  performed {v = v} {w = w} {c = c} o behind g same =
      let all = Step line o ∷ behind in
      let less : (operands_ahead all - v) + w ≤ w = omega (arith, same) in
      told_both w w w (omega arith) (omega arith) (within_told w c all (raised line _ w all c less (g.within all refl)))
      (within_told w (Step line o ∷ []) behind (omega (arith, same, g.few), refl, tt))

-- ---- entries

abbrev pub leading : Table → ℕ → Instruction
leading table l = To (table.labels l)

abbrev pub passing : NameTable → Tree → Instruction
passing names t = Pass (argument_of names t)

abbrev pub purging : NameTable → Target → Instruction
purging names t = Pass (argument_of_target names t)

abbrev pub showing : PrintItem → Instruction
showing i = Show (printed_of i)

-- in front of one there are no more operands than behind it
abbrev AreEntries : {A : Type 0} → (A → Instruction) → Type 0
AreEntries {A = A} entry = (x : A) (is : List Instruction) → line_too_deep (entry x ∷ is) ≡ line_too_deep is

pass_told : (a : Argument) (is : List Instruction) → line_too_deep (Pass a ∷ is) ≡ line_too_deep is
pass_told a [] = refl
pass_told a (i ∷ is) = by_test (nat_lt most_operands (operands_ahead (i ∷ is))) (Some (line_ahead (i ∷ is))) (line_too_deep is) where
  by_test : (t : Bool) (here rest : Option ℕ) → (if t then here else (if t then here else rest)) ≡ (if t then here else rest)
  by_test true here rest = refl
  by_test false here rest = refl

entries_told : {A : Type 0} (entry : A → Instruction) → AreEntries entry → (xs : List A) (behind : List Instruction)
    → line_too_deep (map entry xs ++ behind) ≡ line_too_deep behind
entries_told entry h [] behind = refl
entries_told entry h (x ∷ xs) behind = h x (map entry xs ++ behind) ∙ entries_told entry h xs behind

entries_take : {A : Type 0} (entry : A → Instruction) (xs : List A) (behind : List Instruction)
    → operands_of_entries (take (length xs) (map entry xs ++ behind)) ≡ sum_by (λ x. operands_of_entry (entry x)) xs
entries_take entry [] behind = refl
entries_take entry (x ∷ xs) behind =
    omega (arith, sum_by-cons (λ x. operands_of_entry (entry x)) x xs, entries_take entry xs behind)

-- ---- statements

module _ (table : Table) where
  -- operands, an operation that takes all of them, and entries
  listed_told : {A : Type 0} {v w p : ℕ} {c : List Instruction} (line : ℕ) (o : Operation) (entry : A → Instruction) → AreEntries entry
      → (xs : List A) (behind : List Instruction) → Gives line c v w p
      → operands_by o (operands_ahead (map entry xs ++ behind)) (map entry xs ++ behind) ≡ v
      → IsTold line w (line_too_deep (c ++ Step line o ∷ (map entry xs ++ behind))) (line_too_deep behind)
  listed_told {w = w} {c = c} line o entry h xs behind g same =
      let all = map entry xs ++ behind in
      let first = line_too_deep (c ++ Step line o ∷ all) in
      subst (IsTold line w first) (entries_told entry h xs behind) (performed line o all g same)

  -- the end of an activation takes no operands
  ending_told : (line : ℕ) (o : Option Variable) (behind : List Instruction) → line_too_deep (Step line (ending_of o) ∷ behind) ≡ line_too_deep behind
  ending_told line None behind = refl
  ending_told line (Some x) behind = refl

  abbrev FormTold : ℕ → ℕ → Form → List Instruction → Type 0
  FormTold line k f behind =
      let all = operands_code table line f ++ (operation_code table line k f ++ behind) in
      IsTold line (in_form 0 f) (line_too_deep all) (line_too_deep behind)

  form_told : (line k : ℕ) (f : Form) (behind : List Instruction) → FormTold line k f behind
  form_told line k (form.Assign x t) behind =
      let g = both (tree_gives table.names line t) (target_gives table.names line x) in
      let o = Store (table.names.variables x.occurrence.name) (subscripts_of x) (table.flows k).next in
      performed line o behind (more {q = in_form 1 (form.Assign x t)} (omega arith) (omega arith) g) refl
  form_told line k (form.ComputedGoTo labels t) behind =
      let o = Choose (length labels) (table.flows k).next in
      listed_told line o (leading table) (λ l is. refl) labels behind (tree_gives table.names line t) refl
  form_told line k (form.ArithmeticIf t labels) behind =
      let o = BySign (table.labels labels.negative) (table.labels labels.zero) (table.labels labels.positive) in
      performed line o behind (tree_gives table.names line t) refl
  form_told line k (form.IfThen t) behind =
      performed line (Branch (table.flows k).inside (table.flows k).otherwise) behind (tree_gives table.names line t) refl
  form_told line k (form.ElseIf t) behind =
      performed line (Branch (table.flows k).inside (table.flows k).otherwise) behind (tree_gives table.names line t) refl
  form_told line k (form.Do c) behind =
      let flow = table.flows k in
      let o = EnterLoop (table.names.variables c.variable.name) flow.cells flow.inside flow.behind in
      performed line o behind (control_gives table.names line c) refl
  form_told line k (form.Call p ts) behind =
      let o = Call (table.subroutines p.name) (length ts) (table.flows k).next in
      let entry = passing table.names in
      listed_told line o entry (λ t is. pass_told (argument_of table.names t) is) ts behind (actuals_give table.names line ts) (entries_take entry ts behind)
  form_told line k (form.Create p ts) behind =
      let o = Create (table.subroutines p.name) (length ts) (table.flows k).next in
      let entry = passing table.names in
      listed_told line o entry (λ t is. pass_told (argument_of table.names t) is) ts behind (actuals_give table.names line ts) (entries_take entry ts behind)
  form_told line k (form.Purge targets) behind =
      let o = Purge (length targets) (table.flows k).next in
      let entry = purging table.names in
      listed_told line o entry (λ t is. pass_told (argument_of_target table.names t) is) targets behind (targets_give table.names line targets) (entries_take entry targets behind)
  form_told line k (form.Print items) behind =
      let o = Print (length items) (table.flows k).next in
      listed_told line o showing (λ i is. refl) items behind (items_give table.names line items) (entries_take showing items behind)
  form_told line k form.Return behind = inl (ending_told line table.result behind)
  form_told line k form.End behind = inl (ending_told line table.result behind)
  form_told line k _ behind = inl refl

  conditions_told : (line k : ℕ) (ts : List Tree) (f : Form) (behind : List Instruction)
      → IsTold line (in_list 0 ts + in_form 0 f) (line_too_deep (conditions_code table line k ts f ++ behind)) (line_too_deep behind)
  conditions_told line k [] f behind =
      let e = append_assoc (operands_code table line f) (operation_code table line k f) behind in
      told_more line (in_form 0 f) (in_list 0 [] + in_form 0 f) (omega arith)
      (same_told line (in_form 0 f) (ap line_too_deep e) (form_told line k f behind))
  conditions_told line k (t ∷ ts) f behind =
      let o = Condition (table.flows k).next in
      let rest = conditions_code table line k ts f in
      let m = in_list 0 ts + in_form 0 f in
      let n = in_list 0 (t ∷ ts) + in_form 0 f in
      let e = append_assoc (tree_code table.names line t) (Step line o ∷ rest) behind in
      let here = performed line o (rest ++ behind) (tree_gives table.names line t) refl in
      let sum = sum_by-cons (in_tree 0) t ts in
      same_told line n (ap line_too_deep e)
      (told_both line (in_tree 0 t) m n (omega (arith, sum)) (omega (arith, sum)) here (conditions_told line k ts f behind))

  loop_end_told : (d : ℕ) (f : Form) (behind : List Instruction) → line_too_deep (loop_end_code table d f ++ behind) ≡ line_too_deep behind
  loop_end_told d (form.Do c) behind = refl
  loop_end_told d _ behind = refl

  statement_told : (k : ℕ) (s : Statement) (behind : List Instruction)
      → IsTold s.line (names_and_constants s) (line_too_deep (statement_code table k s ++ behind)) (line_too_deep behind)
  statement_told k s behind =
      let n = names_and_constants s in
      let c = conditions_code table s.line k s.conditions s.form in
      let e = loop_end_code table k s.form in
      let told = conditions_told s.line k s.conditions s.form (e ++ behind) in
      same_told s.line n (ap line_too_deep (append_assoc c e behind))
      (subst (IsTold s.line n (line_too_deep (c ++ (e ++ behind)))) (loop_end_told k s.form behind) told)

  later : (s : Statement) (ss : List Statement) (line : ℕ) → HasLongStatement ss line → HasLongStatement (s ∷ ss) line
  later s ss line h = (suc h.0, h.1, h.2, h.3, h.4)

  statements_long : (k : ℕ) (ss : List Statement) (line : ℕ)
      → line_too_deep (statements_code table k ss) ≡ Some line → HasLongStatement ss line
  statements_long k [] line e = absurd (none-some line (sym (ending_told 0 table.result []) ∙ e))
  statements_long k (s ∷ ss) line e = elim (statement_told k s (statements_code table (suc k) ss)) [
    | inl same ↦ later s ss line (statements_long (suc k) ss line (sym same ∙ e))
    | inr here ↦ (0, s, refl, same_Some s.line line (sym here.0 ∙ e), here.1)
  ]

-- ---- units

code_long : (addressed : AddressedUnit) (line : ℕ) → line_too_deep (code_of addressed) ≡ Some line → HasLongStatement addressed.unit line
unfolding code_of
code_long addressed line e = statements_long (table_of addressed) 0 addressed.unit line e

pub deep_is_long : (program : Units) (line : ℕ) → IsFirstDeep program (length program) (Some line) → IsOfLongStatement program line
deep_is_long program line h = (h.0, h.1, h.2, code_long (addressed_unit program (addresses_of program) h.0) line h.2)

-- ---- the instructions of statements: two for each part but one

module _ (table : Table) where
  -- operands, the operation with what stands behind it, and the end of its loop
  form_few : (line k d : ℕ) (f : Form)
      → length (form_code table line k f) + length (loop_end_code table d f) + 1 ≤ 2 * (1 + (labels_of_form f + in_form 1 f))
  form_few line k d f =
      omega (arith, length-append (operands_code table line f) (operation_code table line k f), parts_few f)
    where
      parts_few : (f : Form) → length (operands_code table line f) + length (operation_code table line k f) + length (loop_end_code table d f) + 1 ≤ 2 * (1 + (labels_of_form f + in_form 1 f))
      parts_few (form.Assign x t) =
          let a = tree_code table.names line t in
          let b = target_code table.names line x in
          omega (arith, length-append a b, (tree_gives table.names line t).short, (target_gives table.names line x).short)
      parts_few (form.ComputedGoTo labels t) = omega (arith, (tree_gives table.names line t).short, length-map labels (leading table))
      parts_few (form.ArithmeticIf t labels) = omega (arith, (tree_gives table.names line t).short)
      parts_few (form.IfThen t) = omega (arith, (tree_gives table.names line t).short)
      parts_few (form.ElseIf t) = omega (arith, (tree_gives table.names line t).short)
      parts_few (form.Do c) = omega (arith, (control_gives table.names line c).short)
      parts_few (form.Call p ts) = omega (arith, actuals_short table.names line ts, length-map ts (passing table.names))
      parts_few (form.Create p ts) = omega (arith, actuals_short table.names line ts, length-map ts (passing table.names))
      parts_few (form.Purge targets) = omega (arith, targets_short table.names line targets, length-map targets (purging table.names))
      parts_few (form.Print items) = omega (arith, items_short table.names line items, length-map items showing)
      parts_few _ = omega arith

  conditions_few : (line k : ℕ) (ts : List Tree) (f : Form)
      → length (conditions_code table line k ts f) ≤ 2 * in_list 1 ts + length (form_code table line k f)
  conditions_few line k [] f = omega arith
  conditions_few line k (t ∷ ts) f =
      let a = tree_code table.names line t in
      let b = Step line (Condition (table.flows k).next) ∷ conditions_code table line k ts f in
      let rest = conditions_few line k ts f in
      omega (arith, length-append a b, sum_by-cons (in_tree 1) t ts, (tree_gives table.names line t).short, rest)

  statement_few : (k : ℕ) (s : Statement) → length (statement_code table k s) + 1 ≤ 2 * parts_of_statement s
  statement_few k s =
      let a = conditions_code table s.line k s.conditions s.form in
      let b = loop_end_code table k s.form in
      omega (arith, length-append a b, conditions_few s.line k s.conditions s.form, form_few s.line k k s.form)

  statements_first : (k : ℕ) (s : Statement) (ss : List Statement)
      → length (statements_code table k (s ∷ ss)) + 1 ≤ 2 * parts_of_statement s + length (statements_code table (suc k) ss)
  statements_first k s ss =
      omega (arith, length-append (statement_code table k s) (statements_code table (suc k) ss), statement_few k s)

  -- with the END behind them
  statements_few : (k : ℕ) (ss : List Statement) → length (statements_code table k ss) ≤ 2 * sum_by parts_of_statement ss + 1
  statements_few k [] = omega arith
  statements_few k (s ∷ ss) =
      omega (arith, statements_first k s ss, sum_by-cons parts_of_statement s ss, statements_few (suc k) ss)

  unit_few : (k : ℕ) (ss : List Statement) → length (statements_code table k ss) ≤ 2 * parts_of_unit ss
  unit_few k [] = omega arith
  unit_few k (s ∷ ss) =
      omega (arith, statements_first k s ss, sum_by-cons parts_of_statement s ss, statements_few (suc k) ss)

-- ---- programs

code_few : (addressed : AddressedUnit) → length (code_of addressed) ≤ 2 * parts_of_unit addressed.unit
unfolding code_of
code_few addressed = unit_few (table_of addressed) 0 addressed.unit

-- the parts of the first n units
abbrev parts_in : Units → ℕ → ℕ
parts_in program zero = 0
parts_in program (suc n) = parts_in program n + parts_of_unit (unit_at program n)

parts_behind : (unit : List Statement) (program : Units) (n : ℕ)
    → parts_in (unit ∷ program) (suc n) ≡ parts_of_unit unit + parts_in program n
parts_behind unit program zero = omega arith
parts_behind unit program (suc n) = omega (arith, parts_behind unit program n)

parts_are : (program : Units) → parts_in program (length program) ≡ parts_of program
parts_are [] = refl
parts_are (unit ∷ program) =
    omega (arith, parts_behind unit program (length program), parts_are program, sum_by-cons parts_of_unit unit program)

first_few : (program : Units) (n : ℕ) → instructions_in program n ≤ 2 * parts_in program n
first_few program zero = omega arith
first_few program (suc n) = omega (arith, first_few program n, code_few (addressed_unit program (addresses_of program) n))

pub two_for_each : (program : Units) → instructions_in program (length program) ≤ 2 * parts_of program
two_for_each program = omega (arith, first_few program (length program), parts_are program)

pub many_parts : (program : Units) → IsCodeBeyond program → 524288 < parts_of program
many_parts program beyond = omega (arith, two_for_each program, beyond)
