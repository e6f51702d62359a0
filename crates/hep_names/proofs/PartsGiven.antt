-- What the parts of a statement give: its expressions, and where it names variables and constants.
use Rattle.std.proofs.Common.{◌≡◌, Bool, true, false, not, ◌&&◌, if◌then◌else◌, Option, Some, None, List, [], ◌∷◌, ◌++◌, append-nil, map, option_to_list, refl, ap, sym, ◌∙◌}
use Rattle.std.specs.List.{flat_map}
use Rattle.std.proofs.lemmas.Grind.{flat_map-append}
use Rattle.hep_machine.specs.Words.{Tree, CommonBlock, DataGroup, DataValue, Declarator, Dimension, NamedConstant, Target, UpperBound, Occurrence, Form, Subroutine, Declare, Common, Parameter, Data, Assign, ComputedGoTo, ArithmeticIf, IfThen, ElseIf, Do, Call, Create, Purge, Print, PrintItem, Statement, groups_in, declarators_in, constants_in, entries_of_blocks, is_nonempty, is_referenced}
use Rattle.hep_source.specs.declared.declaration.UpperBound.TheVariants as bound
use Rattle.hep_source.specs.declared.statement.Form.TheVariants.{Function, Dimension as Dimensions}
use Rattle.hep_source.specs.declared.statement.PrintItem.TheVariants as item
use Rattle.hep_machine.specs.Variables as variables
use Rattle.hep_conditions.specs.Words.{trees_in_upper, trees_in_dimension, trees_in_declarator, trees_in_item, trees_in_form, trees_in_statement}
use Rattle.hep_names.specs.Parts.{Part, name, declared, parts_in_declared, parts_in_expression, parts_in_expressions, parts_in_name, parts_in_names, parts_in_dimension, parts_in_declarator, parts_in_block, parts_in_constant, parts_in_target, parts_in_value, parts_in_group, parts_in_item, parts_in_form, parts_of, tree_in, occurrences_in_part, name_before}

-- ---- rows of rows

both : {A B : Type 0} (g : A → List B) (xs ys : List A) (us vs : List B) → flat_map g xs ≡ us → flat_map g ys ≡ vs → flat_map g (xs ++ ys) ≡ us ++ vs
both g xs ys us vs p q = flat_map-append g xs ys ∙ (ap (λ zs. zs ++ flat_map g ys) p ∙ ap (λ zs. us ++ zs) q)

each : {A B C : Type 0} (g : B → List C) (f : A → List B) (h : A → List C) → ((x : A) → flat_map g (f x) ≡ h x) → (xs : List A) → flat_map g (flat_map f xs) ≡ flat_map h xs
each g f h e [] = refl
each g f h e (x ∷ xs) = both g (f x) (flat_map f xs) (h x) (flat_map h xs) (e x) (each g f h e xs)

none : {A B C : Type 0} (g : B → List C) (f : A → List B) → ((x : A) → flat_map g (f x) ≡ []) → (xs : List A) → flat_map g (flat_map f xs) ≡ []
none g f e [] = refl
none g f e (x ∷ xs) = both g (f x) (flat_map f xs) [] [] (e x) (none g f e xs)

-- ---- expressions

expressions-trees : (ts : List Tree) → flat_map tree_in (parts_in_expressions ts) ≡ ts
expressions-trees [] = refl
expressions-trees (t ∷ ts) = ap (λ us. t ∷ us) (expressions-trees ts)

declarator-trees : (d : Declarator) → flat_map tree_in (parts_in_declarator d) ≡ trees_in_declarator d
declarator-trees d = each tree_in parts_in_dimension trees_in_dimension (λ x. expressions-trees (trees_in_dimension x)) d.dimensions

declared-trees : (d : Declarator) → flat_map tree_in (parts_in_declared d) ≡ trees_in_declarator d
declared-trees d = by d.dimensions
  where
    by : (ds : List Dimension) → flat_map tree_in (if is_nonempty ds then name d.occurrence ∷ flat_map parts_in_dimension ds else declared d.occurrence ∷ []) ≡ flat_map trees_in_dimension ds
    by [] = refl
    by (m ∷ ms) = each tree_in parts_in_dimension trees_in_dimension (λ x. expressions-trees (trees_in_dimension x)) (m ∷ ms)

blocks-trees : (bs : List CommonBlock) → flat_map tree_in (flat_map parts_in_block bs) ≡ flat_map trees_in_declarator (entries_of_blocks bs)
blocks-trees [] = refl
blocks-trees (b ∷ bs) =
    both tree_in (parts_in_block b) (flat_map parts_in_block bs) _ _ (each tree_in parts_in_declarator trees_in_declarator declarator-trees b.entries) (blocks-trees bs)
    ∙ sym (flat_map-append trees_in_declarator b.entries (entries_of_blocks bs))

constants-trees : (cs : List NamedConstant) → flat_map tree_in (flat_map parts_in_constant cs) ≡ map (λ (c : NamedConstant). c.value) cs
constants-trees [] = refl
constants-trees (c ∷ cs) = ap (λ ts. c.value ∷ ts) (constants-trees cs)

before-trees : (ts us : List Tree) (p : Occurrence) → flat_map tree_in (name_before ts p ∷ parts_in_expressions us) ≡ us
before-trees [] us p = expressions-trees us
before-trees (t ∷ ts) us p = expressions-trees us

target-trees : (x : Target) → flat_map tree_in (parts_in_target x) ≡ x.subscripts
target-trees x = before-trees x.subscripts x.subscripts x.occurrence

targets-trees : (xs : List Target) → flat_map tree_in (flat_map parts_in_target xs) ≡ flat_map (λ (x : Target). x.subscripts) xs
targets-trees = each tree_in parts_in_target (λ (x : Target). x.subscripts) target-trees

values-trees : (vs : List DataValue) → flat_map tree_in (flat_map parts_in_value vs) ≡ []
values-trees = none tree_in parts_in_value (λ v. none tree_in parts_in_name (λ p. refl) (variables.occurrences_in_data_value v))

group-trees : (g : DataGroup) → flat_map tree_in (parts_in_group g) ≡ flat_map (λ (x : Target). x.subscripts) g.targets
group-trees g = both tree_in (flat_map parts_in_target g.targets) (flat_map parts_in_value g.values) _ _ (targets-trees g.targets) (values-trees g.values) ∙ append-nil _

trees-by-form : (f : Form) → flat_map tree_in (parts_in_form f)
    ≡ flat_map trees_in_declarator (declarators_in f) ++ (map (λ (c : NamedConstant). c.value) (constants_in f)
    ++ (flat_map (λ (g : DataGroup). flat_map (λ (x : Target). x.subscripts) g.targets) (groups_in f) ++ trees_in_form f))
trees-by-form (Subroutine p ps) = none tree_in parts_in_name (λ q. refl) ps
trees-by-form (Function t p ps) = none tree_in parts_in_name (λ q. refl) ps
trees-by-form (Declare t ds) = each tree_in parts_in_declared trees_in_declarator declared-trees ds ∙ sym (append-nil _)
trees-by-form (Dimensions ds) = each tree_in parts_in_declarator trees_in_declarator declarator-trees ds ∙ sym (append-nil _)
trees-by-form (Common bs) = blocks-trees bs ∙ sym (append-nil _)
trees-by-form (Parameter cs) = constants-trees cs ∙ sym (append-nil _)
trees-by-form (Data gs) = each tree_in parts_in_group _ group-trees gs ∙ sym (append-nil _)
trees-by-form (Assign x t) = both tree_in (parts_in_target x) (parts_in_expression t) x.subscripts (t ∷ []) (target-trees x) refl
trees-by-form (Do c) = ap (λ ts. c.initial ∷ c.limit ∷ ts) (expressions-trees (option_to_list c.increment))
trees-by-form (Call p ts) = expressions-trees ts
trees-by-form (Create p ts) = expressions-trees ts
trees-by-form (Purge xs) = targets-trees xs
trees-by-form (Print is) = each tree_in parts_in_item trees_in_item (λ i. expressions-trees (trees_in_item i)) is
trees-by-form _ = refl

pub parts_trees : (s : Statement) → flat_map tree_in (parts_of s) ≡ trees_in_statement s
parts_trees s = both tree_in (parts_in_expressions s.conditions) (parts_in_form s.form) s.conditions _ (expressions-trees s.conditions) (trees-by-form s.form)

-- ---- names

module _ (unit : List Statement) where
  abbrev given : Part → List Occurrence
  given = occurrences_in_part unit

  abbrev inside : Tree → List Occurrence
  inside = variables.occurrences_in unit

  expressions-occurrences : (ts : List Tree) → flat_map given (parts_in_expressions ts) ≡ flat_map inside ts
  expressions-occurrences = each given parts_in_expression inside (λ t. append-nil (inside t))

  some-occurrences : (o : Option Tree) → flat_map inside (option_to_list o) ≡ variables.occurrences_in_some unit o
  some-occurrences None = refl
  some-occurrences (Some t) = append-nil _

  upper-occurrences : (u : UpperBound) → flat_map inside (trees_in_upper u) ≡ variables.occurrences_in_upper unit u
  upper-occurrences (bound.Expression t) = append-nil _
  upper-occurrences bound.Open = refl

  item-occurrences : (i : PrintItem) → flat_map inside (trees_in_item i) ≡ variables.occurrences_in_item unit i
  item-occurrences (item.Expression t) = append-nil _
  item-occurrences (item.Characters cs) = refl

  dimension-occurrences : (d : Dimension) → flat_map given (parts_in_dimension d) ≡ variables.occurrences_in_dimension unit d
  dimension-occurrences d = expressions-occurrences (trees_in_dimension d)
      ∙ both inside (option_to_list d.lower) (trees_in_upper d.upper) _ _ (some-occurrences d.lower) (upper-occurrences d.upper)

  declarators-occurrences : (ds : List Declarator) → flat_map given (flat_map parts_in_declarator ds) ≡ flat_map (variables.occurrences_in_declarator unit) ds
  declarators-occurrences = each given parts_in_declarator (variables.occurrences_in_declarator unit)
      (λ d. ap (λ ps. d.occurrence ∷ ps) (each given parts_in_dimension (variables.occurrences_in_dimension unit) dimension-occurrences d.dimensions))

  -- what a type statement names
  declared-occurrences : (d : Declarator) → flat_map given (parts_in_declared d) ≡ variables.occurrences_in_declared unit d
  declared-occurrences d = by d.dimensions
    where
      alone : (b : Bool) → (if b then [] else d.occurrence ∷ []) ++ [] ≡ (if b then [] else d.occurrence ∷ [])
      alone true = refl
      alone false = refl

      by : (ds : List Dimension) → flat_map given (if is_nonempty ds then name d.occurrence ∷ flat_map parts_in_dimension ds else declared d.occurrence ∷ [])
          ≡ (if not (is_nonempty ds) && is_referenced unit d.occurrence.name then [] else d.occurrence ∷ flat_map (variables.occurrences_in_dimension unit) ds)
      by [] = alone (is_referenced unit d.occurrence.name)
      by (m ∷ ms) = ap (λ ps. d.occurrence ∷ ps) (each given parts_in_dimension (variables.occurrences_in_dimension unit) dimension-occurrences (m ∷ ms))

  names-occurrences : (ps : List Occurrence) → flat_map given (parts_in_names ps) ≡ ps
  names-occurrences [] = refl
  names-occurrences (p ∷ ps) = ap (λ qs. p ∷ qs) (names-occurrences ps)

  before-occurrences : (ts : List Tree) (p : Occurrence) → given (name_before ts p) ≡ (if is_nonempty ts then variables.array_occurrence unit p else p ∷ [])
  before-occurrences [] p = refl
  before-occurrences (t ∷ ts) p = refl

  target-occurrences : (x : Target) → flat_map given (parts_in_target x) ≡ variables.occurrences_in_target unit x
  target-occurrences x =
      ap (λ ps. ps ++ flat_map given (parts_in_expressions x.subscripts)) (before-occurrences x.subscripts x.occurrence)
      ∙ ap (λ ps. (if is_nonempty x.subscripts then variables.array_occurrence unit x.occurrence else x.occurrence ∷ []) ++ ps) (expressions-occurrences x.subscripts)

  pub targets_occurrences : (xs : List Target) → flat_map given (flat_map parts_in_target xs) ≡ flat_map (variables.occurrences_in_target unit) xs
  targets_occurrences = each given parts_in_target (variables.occurrences_in_target unit) target-occurrences

  group-occurrences : (g : DataGroup) → flat_map given (parts_in_group g) ≡ variables.occurrences_in_group unit g
  group-occurrences g = both given (flat_map parts_in_target g.targets) (flat_map parts_in_value g.values) _ _
      (targets_occurrences g.targets) (each given parts_in_value variables.occurrences_in_data_value (λ v. names-occurrences (variables.occurrences_in_data_value v)) g.values)

  occurrences-by-form : (f : Form) → flat_map given (parts_in_form f) ≡ variables.occurrences_in_form unit f
  occurrences-by-form (Subroutine p ps) = names-occurrences ps
  occurrences-by-form (Function t p ps) = ap (λ qs. p ∷ qs) (names-occurrences ps)
  occurrences-by-form (Declare t ds) = each given parts_in_declared (variables.occurrences_in_declared unit) declared-occurrences ds
  occurrences-by-form (Dimensions ds) = declarators-occurrences ds
  occurrences-by-form (Common bs) = each given parts_in_block (variables.occurrences_in_block unit) (λ b. declarators-occurrences b.entries) bs
  occurrences-by-form (Parameter cs) =
      each given parts_in_constant (variables.occurrences_in_constant unit) (λ c. ap (λ ps. c.occurrence ∷ ps) (append-nil (inside c.value))) cs
  occurrences-by-form (Data gs) = each given parts_in_group (variables.occurrences_in_group unit) group-occurrences gs
  occurrences-by-form (Assign x t) = both given (parts_in_target x) (parts_in_expression t) _ _ (target-occurrences x) (append-nil _)
  occurrences-by-form (ComputedGoTo ls t) = append-nil _
  occurrences-by-form (ArithmeticIf t ls) = append-nil _
  occurrences-by-form (IfThen t) = append-nil _
  occurrences-by-form (ElseIf t) = append-nil _
  occurrences-by-form (Do c) =
      ap (λ ps. c.variable ∷ (inside c.initial ++ (inside c.limit ++ ps)))
      (expressions-occurrences (option_to_list c.increment) ∙ some-occurrences c.increment)
  occurrences-by-form (Call p ts) = expressions-occurrences ts
  occurrences-by-form (Create p ts) = expressions-occurrences ts
  occurrences-by-form (Purge xs) = targets_occurrences xs
  occurrences-by-form (Print is) =
      each given parts_in_item (variables.occurrences_in_item unit) (λ i. expressions-occurrences (trees_in_item i) ∙ item-occurrences i) is
  occurrences-by-form _ = refl

  pub parts_occurrences : (s : Statement) → flat_map given (parts_of s) ≡ variables.occurrences_in_statement unit s
  parts_occurrences s = both given (parts_in_expressions s.conditions) (parts_in_form s.form) _ _ (expressions-occurrences s.conditions) (occurrences-by-form s.form)

  pub unit_occurrences : (ss : List Statement) → flat_map given (flat_map parts_of ss) ≡ flat_map (variables.occurrences_in_statement unit) ss
  unit_occurrences = each given parts_of (variables.occurrences_in_statement unit) parts_occurrences
