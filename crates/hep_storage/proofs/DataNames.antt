-- What a name in DATA stands for, by its shape and the values of its subscripts.
use Rattle.std.proofs.Common.{◌≡◌, ℕ, suc, ℤ, Bool, true, false, not, ◌&&◌, nat_eq, if◌then◌else◌, List, [], ◌∷◌, length, Option, Some, None, refl, ap, sym, ◌∙◌, subst, true≢false, arith}
use Rattle.std.proofs.lemmas.Bool.Decides.{nat_tests}
use Rattle.std.specs.Bool.{◌==◌}
use Rattle.std.specs.Option.{option_map, is_none}
use Rattle.hep_machine.specs.Words.{Tree, trees_of, Target, Name, Statement, Value, integers_of, Constants, Values, both, value_among, value_of, values_of, constant_value, constant_shape, shape_by, Stretch, all_elements, element_with, is_array, is_nonempty, Bounds, elements, element_number}
use Rattle.hep_conditions.specs.Words.{is_outside}
use Rattle.hep_storage.specs.InitializedElements.{IsNamed}
use Rattle.hep_storage.specs.ArrayShapes.{IsShaped, IsWhole, IsElementBy, IsElement, IsArray, Names}
use Rattle.hep_storage.specs.declared.initialized_elements.DataElements.TheVariants.{One, All}
use Rattle.hep_storage.specs.declared.array_shapes.ArrayShape.{ArrayShape}
use Rattle.hep_storage.specs.declared.array_shapes.DataName.{DataName}
use Rattle.hep_storage.specs.declared.array_shapes.DataName.TheVariants.{Open, Outside, Elements}
use Rattle.std.proofs.lemmas.Bool.{and_right}
use Rattle.hep_source.proofs.Tests.{some_of}

array-shape : (unit : List Statement) (x : Name) → is_array unit x ≡ true → constant_shape unit x ≡ shape_by unit (constant_value unit) x
array-shape unit x h = ap (λ b. if b then shape_by unit (constant_value unit) x else Some []) h

length-integers : (vs : List Value) → length (integers_of vs) ≡ length vs
length-integers [] = refl
length-integers (v ∷ vs) = ap suc (length-integers vs)

-- the elements, and whether one is outside, by what is known of a name
abbrev outside_by : Bool → Bool → Option Bounds → Option (List Value) → Bool
outside_by listed array shape vs = listed && (array && is_outside shape vs)

abbrev named_by : Name → Bool → Option Bounds → Option (List Value) → Option Stretch
named_by x listed shape vs = if listed then element_with x shape vs else all_elements x shape

abbrev NamesBy : List Statement → Name → Bool → Bool → Option Bounds → Option (List Value) → DataName → Type 0
NamesBy unit x listed array shape vs Open = (outside_by listed array shape vs ≡ false) × (named_by x listed shape vs ≡ None)
NamesBy unit x listed array shape vs Outside = (outside_by listed array shape vs ≡ true) × (named_by x listed shape vs ≡ None)
NamesBy unit x listed array shape vs (Elements s) = (outside_by listed array shape vs ≡ false) × ((e : Stretch) × (named_by x listed shape vs ≡ Some e) × IsNamed unit s e)

names-by : (unit : List Statement) (known : Constants) (t : Target) (n : DataName)
    → NamesBy unit t.occurrence.name (is_nonempty t.subscripts) (is_array unit t.occurrence.name) (constant_shape unit t.occurrence.name) (values_of unit (value_among known) (trees_of t.subscripts)) n
    → Names unit known t n
names-by unit known t Open h = h
names-by unit known t Outside h = h
names-by unit known t (Elements s) h = h

-- ---- scalars

unnumbered : (x : Name) (o : Option Value) (p : Option (List Value)) → element_with x (Some []) (both o p) ≡ None
unnumbered x None p = refl
unnumbered x (Some v) None = refl
unnumbered x (Some v) (Some vs) = refl

listed-scalar : (unit : List Statement) (values : Values) (x : Name) (ts : List Tree) → is_nonempty ts ≡ true → element_with x (Some []) (values_of unit values (trees_of ts)) ≡ None
listed-scalar unit values x [] h = absurd (true≢false (sym h))
listed-scalar unit values x (t ∷ ts) h = unnumbered x (value_of unit values t) (values_of unit values (trees_of ts))

pub scalar-named : (unit : List Statement) (known : Constants) (t : Target) (alone : Bool) (n : DataName) → is_array unit t.occurrence.name ≡ false → is_nonempty t.subscripts ≡ not alone
    → n ≡ (if alone then Elements (All t.occurrence.name 1) else Open) → Names unit known t n
scalar-named unit known t alone n h k e = names-by unit known t n (by alone k e)
  where
    x : Name
    x = t.occurrence.name

    vs : Option (List Value)
    vs = values_of unit (value_among known) (trees_of t.subscripts)

    by : (b : Bool) → is_nonempty t.subscripts ≡ not b → n ≡ (if b then Elements (All x 1) else Open) → NamesBy unit x (is_nonempty t.subscripts) (is_array unit x) (constant_shape unit x) vs n
    by true g f = rw (f, g, h) (refl, (record { name = x; first = 1; count = 1 }, refl, (refl, refl, refl, ([], refl, refl))))
    by false g f = rw (f, g, h) (refl, listed-scalar unit (value_among known) x t.subscripts g)

-- ---- arrays

module _ (unit : List Statement) (x : Name) where
  whole-named : (bs : Bounds) (count : Option ℕ) (vs : Option (List Value)) (n : DataName) → constant_shape unit x ≡ Some bs → count ≡ elements bs → IsWhole x bs count n → NamesBy unit x false true (Some bs) vs n
  whole-named bs count vs Open h k w = (refl, ap (option_map (λ m. record { name = x; first = 1; count = m })) (sym k ∙ w))
  whole-named bs count vs (Elements (All y m)) h k w = (
    refl,
    (
      record { name = x; first = 1; count = m },
      ap (option_map (λ m. record { name = x; first = 1; count = m })) (sym k ∙ w.1),
      (sym w.0, refl, refl, (bs, ap (constant_shape unit) w.0 ∙ h, sym k ∙ w.1)),
    ),
  )
  whole-named bs count vs Outside h k w = absurd w
  whole-named bs count vs (Elements (One e)) h k w = absurd w

  element-by-named : (bs : Bounds) (ws : List Value) (n : DataName) → constant_shape unit x ≡ Some bs → IsElementBy x bs (integers_of ws) n → NamesBy unit x true true (Some bs) (Some ws) n
  element-by-named bs ws Open h w = (
    ap (λ k. nat_eq (length bs) k && is_none (element_number bs (integers_of ws))) (sym (length-integers ws)) ∙ ap (λ b. b && is_none (element_number bs (integers_of ws))) w.0,
    ap (option_map (λ m. record { name = x; first = m; count = 1 })) w.1,
  )
  element-by-named bs ws Outside h w = (
    ap (λ k. nat_eq (length bs) k && is_none (element_number bs (integers_of ws))) (sym (length-integers ws))
        ∙ (ap (λ b. b && is_none (element_number bs (integers_of ws))) w.0 ∙ ap is_none w.1),
    ap (option_map (λ m. record { name = x; first = m; count = 1 })) w.1,
  )
  element-by-named bs ws (Elements (One e)) h w =
      let found = some_of (element_number bs (integers_of ws)) w.2 in (
        and_right (nat_eq (length bs) (length ws)) (is_none (element_number bs (integers_of ws))) (ap is_none found.1),
        (
          record { name = x; first = found.0; count = 1 },
          ap (option_map (λ m. record { name = x; first = m; count = 1 })) found.1,
          (sym w.0, refl, (bs, ap (constant_shape unit) w.0 ∙ h, ap (element_number bs) w.1 ∙ found.1)),
        ),
      )
  element-by-named bs ws (Elements (All y m)) h w = absurd w

  open-named : (bs : Bounds) (n : DataName) → n ≡ Open → NamesBy unit x true true (Some bs) None n
  open-named bs n e = rw e (refl, refl)

  element-named : (bs : Bounds) (vs : Option (List Value)) (n : DataName) → constant_shape unit x ≡ Some bs → IsElement x bs (option_map integers_of vs) n → NamesBy unit x true true (Some bs) vs n
  element-named bs None n h w = open-named bs n w
  element-named bs (Some ws) n h w = element-by-named bs ws n h w

  none-named : (listed array : Bool) (vs : Option (List Value)) (n : DataName) → n ≡ Open → NamesBy unit x listed array None vs n
  none-named listed array vs n e = rw e (grind arith, grind arith)

  shaped-named : (shape : Option ArrayShape) (o : Option Bounds) (alone listed : Bool) (ss : Option (List ℤ)) (vs : Option (List Value)) (n : DataName) → constant_shape unit x ≡ o → IsShaped shape o
      → listed ≡ not alone → ss ≡ option_map integers_of vs → IsArray x shape alone ss n → NamesBy unit x listed true o vs n
  shaped-named None None alone listed ss vs n h s l e w = none-named listed true vs n w
  shaped-named None (Some bs) alone listed ss vs n h s l e w = absurd s
  shaped-named (Some shape) None alone listed ss vs n h s l e w = absurd s
  shaped-named (Some shape) (Some bs) true listed ss vs n h s l e w =
      subst (λ b. NamesBy unit x b true (Some bs) vs n) (sym l) (whole-named bs shape.count vs n h s.1 (subst (λ cs. IsWhole x cs shape.count n) s.0 w))
  shaped-named (Some shape) (Some bs) false listed ss vs n h s l e w =
      subst (λ b. NamesBy unit x b true (Some bs) vs n) (sym l) (element-named bs vs n h (subst (λ cs. IsElement x cs (option_map integers_of vs) n) s.0 (subst (λ p. IsElement x shape.bounds.items p n) e w)))

pub array-named : (unit : List Statement) (known : Constants) (t : Target) (shape : Option ArrayShape) (alone : Bool) (ss : Option (List ℤ)) (n : DataName) → is_array unit t.occurrence.name ≡ true
    → IsShaped shape (shape_by unit (constant_value unit) t.occurrence.name) → is_nonempty t.subscripts ≡ not alone
    → ss ≡ option_map integers_of (values_of unit (value_among known) (trees_of t.subscripts)) → IsArray t.occurrence.name shape alone ss n → Names unit known t n
array-named unit known t shape alone ss n h s l e w =
    let x = t.occurrence.name in
    let vs = values_of unit (value_among known) (trees_of t.subscripts) in
    let here = shaped-named unit x shape (shape_by unit (constant_value unit) x) alone (is_nonempty t.subscripts) ss vs n (array-shape unit x h) s l e w in
    names-by unit known t n
    (subst (λ o. NamesBy unit x (is_nonempty t.subscripts) (is_array unit x) o vs n) (sym (array-shape unit x h))
    (subst (λ b. NamesBy unit x (is_nonempty t.subscripts) b (shape_by unit (constant_value unit) x) vs n) (sym h) here))

not-none : {A : Type 0} (zs : List A) → not (length zs == 0) ≡ is_nonempty zs
not-none [] = refl
not-none (z ∷ zs) = grind (arith, nat_tests)

pub nonempty-not : {A : Type 0} (xs ys : List A) (b : Bool) → ys ≡ xs → b ≡ (length ys == 0) → is_nonempty xs ≡ not b
nonempty-not xs ys b e f = rw (f, e) (sym (not-none xs))
