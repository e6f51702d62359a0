-- What is read as declarators is so by the grammar, and the other way round: type statements and
-- DIMENSION.
use Rattle.std.proofs.Common.{◌≡◌, ◌≢◌, inl, inr, ℕ, suc, ◌≤◌, ◌<◌, Bool, true, false, codes, List, [], ◌∷◌, ◌++◌, length, Option, Some, None, refl, sym, ap, subst, ◌∙◌, arith, nat_eq, nat_le, not, if◌then◌else◌, true≢false}
use Rattle.std.proofs.lemmas.Bool.Decides.{nat_tests}
use Rattle.hep_expression.specs.Characters.{is_letter_or_digit, IsName, name_sign}
use Rattle.std.specs.List.{list_all}
use Rattle.hep_source.specs.Tree.{Tree}
use Rattle.hep_source.specs.declared.declaration.ValueType.{ValueType}
use Rattle.hep_source.specs.declared.declaration.UpperBound.{UpperBound}
use Rattle.hep_source.specs.declared.declaration.UpperBound.TheVariants.{Expression, Open}
use Rattle.hep_source.specs.declared.declaration.Dimension.{Dimension}
use Rattle.hep_source.specs.declared.declaration.Declarator.{Declarator}
use Rattle.hep_source.specs.declared.statement.Form.{Form}
use Rattle.hep_source.specs.declared.statement.Form.TheVariants as form
use Rattle.hep_expression.specs.declared.characters.Context.{Context}
use Rattle.hep_expression.specs.Expression as levels
use Rattle.hep_expression.specs.Expression.{Reads}
use Rattle.hep_expression.specs.Reading.{◌>>=◌, all_read, after, after_text, begins}
use Rattle.hep_expression.specs.ReadingExpression.{expression_at}
use Rattle.hep_expression.proofs.Leaves.{bind_some, either_some, chosen, after_is, place_fits, fits}
use Rattle.hep_expression.proofs.Sound.{expression_at_sound}
use Rattle.hep_expression.proofs.Complete.{place_read, AfterExpression, after_comma, after_parenthesis, after_colon, expression_read}
use Rattle.hep_parse.specs.Lists.{AreAfter, AreListed}
use Rattle.hep_parse.specs.ReadingLists.{listed, whole}
use Rattle.hep_parse.specs.Declaration.{ReadsUpper, ReadsLower, ReadsDimension, is_open, OnlyLastOpen, ReadsDeclarator, ReadsArrayDeclarator, upper_bound_at, dimension_after, dimension_at, only_last_open, are_dimensions, declarator_at, declare, is_array, dimension}
use Rattle.hep_parse.proofs.Lists.{all_is, whole_is, IsSound, Shortens, IsComplete, optional_shortens, listed_sound, listed_complete, optional_complete}
use Rattle.hep_parse.proofs.Targets.{begins_expression, expression_begins, AfterName, name_ends, name_and_optional_are}
use Rattle.hep_parse.proofs.Headers.{carried}
use Rattle.std.proofs.lemmas.Bool.{not-true, and_parts, leb-true, le-leb}
use Rattle.std.proofs.lemmas.Option.{none-some}

-- ---- bounds and dimensions

-- no expression begins with `*` (42)
no_star : (k : Context) (t : Tree) (s r : List ℕ) → Reads k t levels.equivalence s r → after 42 s ≡ None
no_star k t s r h = go (after 42 s) refl
  where
    go : (o : Option (List ℕ)) → after 42 s ≡ o → after 42 s ≡ None
    go None e = e
    go (Some m) e =
        let begun : Reads k t levels.equivalence (42 ∷ m) r = subst (λ (l : List ℕ). Reads k t levels.equivalence l r) (after_is 42 s m e) h in
        let no : begins_expression 42 ≡ true = expression_begins k t levels.equivalence 42 m r begun in
        absurd cc

upper_shortens : (k : Context) (u : UpperBound) (s r : List ℕ) → ReadsUpper k u s r → length r ≤ length s
upper_shortens k (Expression t) s r h = omega (arith, fits k t levels.equivalence s r h)
upper_shortens k Open s r h = omega (arith, ap length h)

lower_shortens : (k : Context) (o : Option Tree) (s r : List ℕ) → ReadsLower k o s r → length r ≤ length s
lower_shortens k None s r h = omega (arith, ap length h)
lower_shortens k (Some t) s r h = omega (arith, fits k t levels.equivalence s (58 ∷ r) h)

dimension_shortens : (k : Context) → Shortens (ReadsDimension k)
dimension_shortens k x s r h = omega (arith, lower_shortens k x.lower s h.0 h.1, upper_shortens k x.upper h.0 r h.2)

upper_sound : (k : Context) (s : List ℕ) (x : UpperBound × List ℕ) → length s ≤ k.length → upper_bound_at k s ≡ Some x → ReadsUpper k x.0 s x.1
upper_sound k s x fit e = elim (either_some (after 42 s) (λ r. Some (Open, r)) (expression_at k s >>= λ y. Some (Expression y.0, y.1)) x e) [
  | inl g ↦ carried (λ (y : UpperBound × List ℕ). ReadsUpper k y.0 s y.1) (Open, g.0) x g.2 (after_is 42 s g.0 g.1)
  | inr g ↦ (
      let b = bind_some _ _ x g.1 in
      carried (λ (y : UpperBound × List ℕ). ReadsUpper k y.0 s y.1) (Expression b.0.0, b.0.1) x b.2 (expression_at_sound k s b.0.1 b.0.0 fit b.1))
]

upper_complete : (k : Context) (u : UpperBound) (s r : List ℕ) → ReadsUpper k u s r → AfterExpression r → upper_bound_at k s ≡ Some (u, r)
upper_complete k (Expression t) s r h f = rw (no_star k t s r h, expression_read k t s r h f) refl
upper_complete k Open s r h f = rw h refl

dimension_sound : (k : Context) → IsSound k (ReadsDimension k) (dimension_at k)
unfolding dimension_at
dimension_sound k s x fit e = elim (either_some (after 42 s) (λ r. Some (record { lower = None; upper = Open }, r)) (expression_at k s >>= λ y. dimension_after k y.0 y.1) x e) [
  | inl g ↦ carried (λ (y : Dimension × List ℕ). ReadsDimension k y.0 s y.1) (record { lower = None; upper = Open }, g.0) x g.2 (s, refl, after_is 42 s g.0 g.1)
  | inr g ↦ (
      let b = bind_some _ _ x g.1 in
      let one = expression_at_sound k s b.0.1 b.0.0 fit b.1 in
      elim (either_some (after 58 b.0.1) (λ m. upper_bound_at k m >>= λ y. Some (record { lower = Some b.0.0; upper = y.0 }, y.1)) (Some (record { lower = None; upper = Expression b.0.0 }, b.0.1)) x b.2) [
        | inl d ↦ (
            let c = bind_some (upper_bound_at k d.0) (λ y. Some (record { lower = Some b.0.0; upper = y.0 }, y.1)) x d.2 in
            let is = after_is 58 b.0.1 d.0 d.1 in
            let low : Reads k b.0.0 levels.equivalence s (58 ∷ d.0) = subst (λ (m : List ℕ). Reads k b.0.0 levels.equivalence s m) is one in
            let fit' : length d.0 ≤ k.length = omega (arith, fits k b.0.0 levels.equivalence s (58 ∷ d.0) low) in
            carried (λ (y : Dimension × List ℕ). ReadsDimension k y.0 s y.1) (record { lower = Some b.0.0; upper = c.0.0 }, c.0.1) x c.2 (d.0, low, upper_sound k d.0 c.0 fit' c.1))
        | inr d ↦ carried (λ (y : Dimension × List ℕ). ReadsDimension k y.0 s y.1) (record { lower = None; upper = Expression b.0.0 }, b.0.1) x d.1 (s, refl, one)
      ])
]

-- what may follow a dimension: no colon either
abbrev AfterDimension : List ℕ → Type 0
AfterDimension r = AfterExpression r × (after 58 r ≡ None)

dimension_read : (k : Context) (low : Option Tree) (u : UpperBound) (s m r : List ℕ) → ReadsLower k low s m → ReadsUpper k u m r → AfterDimension r → dimension_at k s ≡ Some (record { lower = low; upper = u }, r)
unfolding dimension_at
dimension_read k None (Expression t) s m r g h f =
    let h' : Reads k t levels.equivalence s r = subst (λ (l : List ℕ). Reads k t levels.equivalence l r) (sym g) h in
    rw (no_star k t s r h', expression_read k t s r h' f.0, f.1) refl
dimension_read k None Open s m r g h f = rw (g, h) refl
dimension_read k (Some t) u s m r g h f =
    rw (no_star k t s (58 ∷ m) g, expression_read k t s (58 ∷ m) g (after_colon m), upper_complete k u m r h f.0) refl

dimension_complete : (k : Context) → IsComplete (ReadsDimension k) (dimension_at k) AfterDimension
dimension_complete k x s r h f = dimension_read k x.lower x.upper s h.0 r h.1 h.2 f

-- ---- which dimensions an array can have

last_open_is : (xs : List Dimension) → only_last_open xs ≡ true → OnlyLastOpen xs
last_open_is [] e = tt
last_open_is (x ∷ []) e = tt
last_open_is (x ∷ y ∷ more) e =
    let b = and_parts (not (is_open x.upper)) (only_last_open (y ∷ more)) e in
    (not-true (is_open x.upper) b.0, last_open_is (y ∷ more) b.1)

last_open_test : (xs : List Dimension) → OnlyLastOpen xs → only_last_open xs ≡ true
last_open_test [] h = refl
last_open_test (x ∷ []) h = refl
last_open_test (x ∷ y ∷ more) h = rw (h.0, last_open_test (y ∷ more) h.1) refl

-- ---- declarators

pub declarator_shortens : (k : Context) → Shortens (ReadsDeclarator k)
declarator_shortens k x s r h = omega (arith, place_fits k x.occurrence s h.0 h.1, optional_shortens (ReadsDimension k) (dimension_shortens k) x.dimensions h.0 r h.2)

pub declarator_sound : (k : Context) → IsSound k (ReadsDeclarator k) (declarator_at k)
unfolding declarator_at
declarator_sound k s x fit e =
    let h = name_and_optional_are (ReadsDimension k) (dimension_shortens k) k (dimension_at k) (dimension_sound k) _ s x fit e in
    let ds = h.1.0 in
    elim (chosen (are_dimensions ds) (Some (record { occurrence = h.0.0; dimensions = ds }, h.1.1)) None (Some x) h.4) [
      | inl d ↦ (
          let a = and_parts (nat_le (length ds) 7) (only_last_open ds) d.0 in
          carried (λ (y : Declarator × List ℕ). ReadsDeclarator k y.0 s y.1) (record { occurrence = h.0.0; dimensions = ds }, h.1.1) x d.1
          (h.0.1, h.2, h.3, leb-true (length ds) 7 a.0, last_open_is ds a.1))
      | inr d ↦ absurd (none-some x d.1)
    ]

pub declarator_complete : (k : Context) → IsComplete (ReadsDeclarator k) (declarator_at k) AfterName
unfolding declarator_at
declarator_complete k x s r h f =
    let one = place_read k x.occurrence s h.0 h.1 (name_ends (ReadsDimension k) x.dimensions h.0 r h.2 f.0) in
    let two = optional_complete (ReadsDimension k) (dimension_shortens k) (dimension_at k) AfterDimension (dimension_complete k) (λ m. (after_comma m, refl)) (λ m. (after_parenthesis m, refl)) x.dimensions h.0 r h.2 f.1 in
    rw (one, two, le-leb (length x.dimensions) 7 h.3, last_open_test x.dimensions h.4) refl

-- ---- type statements

pub declare_is : (k : Context) (t : ValueType) (m : List ℕ) (f : Form) → length m ≤ k.length → declare k t m ≡ Some f → (xs : List Declarator) × (form.Declare t xs ≡ f) × AreListed (ReadsDeclarator k) xs m []
unfolding declare
declare_is k t m f fit e =
    let w = whole_is (form.Declare t) (listed (declarator_at k) m) f e in
    (w.0, w.2, listed_sound (ReadsDeclarator k) (declarator_shortens k) k (declarator_at k) (declarator_sound k) m (w.0, []) fit w.1)

declarators_read : (k : Context) (xs : List Declarator) (m : List ℕ) → AreListed (ReadsDeclarator k) xs m [] → listed (declarator_at k) m ≡ Some (xs, [])
declarators_read k xs m h = listed_complete (ReadsDeclarator k) (declarator_shortens k) (declarator_at k) AfterName (declarator_complete k) (λ m. (refl, refl)) xs m [] h (refl, refl) refl

pub declare_read : (k : Context) (t : ValueType) (xs : List Declarator) (m : List ℕ) → AreListed (ReadsDeclarator k) xs m [] → declare k t m ≡ Some (form.Declare t xs)
unfolding declare
declare_read k t xs m h = ap (whole (form.Declare t)) (declarators_read k xs m h)

-- letters and digits that are more than a name has don't stand where the name is all there is of them
longer : (f w r : List ℕ) → length w < length f → list_all is_letter_or_digit f ≡ true → begins is_letter_or_digit r ≡ false → after_text f (w ++ r) ≡ None
longer [] w r less all end = absurd (omega arith)
longer (c ∷ f) [] [] less all end = refl
longer (c ∷ f) [] (d ∷ r) less all end = go (nat_eq d c) refl
  where
    go : (b : Bool) → nat_eq d c ≡ b → ((if b then Some r else None) >>= after_text f) ≡ None
    go false e = refl
    go true e =
        let same : d ≡ c = grind (arith, nat_tests) in
        let is : is_letter_or_digit d ≡ true = ap is_letter_or_digit same ∙ (and_parts (is_letter_or_digit c) (list_all is_letter_or_digit f) all).0 in
        absurd (true≢false (sym is ∙ end))
longer (c ∷ f) (d ∷ w) r less all end = go (nat_eq d c) (longer f w r (omega (arith, less)) (and_parts (is_letter_or_digit c) (list_all is_letter_or_digit f) all).1 end)
  where
    go : (b : Bool) → after_text f (w ++ r) ≡ None → ((if b then Some (w ++ r) else None) >>= after_text f) ≡ None
    go true e = e
    go false e = refl

-- no name begins with FUNCTION, so no type statement is read as the header of a function
no_function_word : (a : Bool) (w r s : List ℕ) → IsName w → s ≡ name_sign a ++ (w ++ r) → begins is_letter_or_digit r ≡ false → after_text (codes "FUNCTION") s ≡ None
no_function_word true w r s h e end = ap (after_text (codes "FUNCTION")) e
no_function_word false [] r s h e end = absurd h
no_function_word false (c ∷ w) r s h e end = ap (after_text (codes "FUNCTION")) e ∙ longer (codes "FUNCTION") (c ∷ w) r (omega (arith, h.2)) refl end

pub no_function_after : (k : Context) (xs : List Declarator) (m : List ℕ) → AreListed (ReadsDeclarator k) xs m [] → after_text (codes "FUNCTION") m ≡ None
no_function_after k [] m h = absurd h
no_function_after k (x ∷ xs) m h =
    let d = h.1 in
    no_function_word x.occurrence.name.asynchronous d.1.0 d.0 m d.1.1 d.1.2 (name_ends (ReadsDimension k) x.dimensions d.0 h.0 d.2 (ends xs h.0 h.2))
  where
    ends : (ys : List Declarator) (s : List ℕ) → AreAfter (ReadsDeclarator k) ys s [] → begins is_letter_or_digit s ≡ false
    ends [] s e = rw e refl
    ends (y ∷ ys) s e = rw e.2 refl

-- ---- DIMENSION

array_is : (x : Declarator) (ds : List Dimension) → x.dimensions ≡ ds → is_array x ≡ true → x.dimensions ≢ []
array_is x [] is e = let no : is_array x ≡ false = rw is refl in absurd cc
array_is x (d ∷ ds) is e = λ q. cc

array_test : (x : Declarator) (ds : List Dimension) → x.dimensions ≡ ds → x.dimensions ≢ [] → is_array x ≡ true
array_test x [] is h = absurd (h is)
array_test x (d ∷ ds) is h = rw is refl

arrays_after : (k : Context) (xs : List Declarator) (s r : List ℕ) → list_all is_array xs ≡ true → AreAfter (ReadsDeclarator k) xs s r → AreAfter (ReadsArrayDeclarator k) xs s r
arrays_after k [] s r e h = h
arrays_after k (x ∷ xs) s r e h =
    let b = and_parts (is_array x) (list_all is_array xs) e in
    (h.0, h.1, h.2, (array_is x x.dimensions refl b.0, h.3), arrays_after k xs h.1 r b.1 h.4)

arrays_are : (k : Context) (xs : List Declarator) (s r : List ℕ) → list_all is_array xs ≡ true → AreListed (ReadsDeclarator k) xs s r → AreListed (ReadsArrayDeclarator k) xs s r
arrays_are k [] s r e h = h
arrays_are k (x ∷ xs) s r e h =
    let b = and_parts (is_array x) (list_all is_array xs) e in
    (h.0, (array_is x x.dimensions refl b.0, h.1), arrays_after k xs h.0 r b.1 h.2)

declarators_after : (k : Context) (xs : List Declarator) (s r : List ℕ) → AreAfter (ReadsArrayDeclarator k) xs s r → (list_all is_array xs ≡ true) × AreAfter (ReadsDeclarator k) xs s r
declarators_after k [] s r h = (refl, h)
declarators_after k (x ∷ xs) s r h =
    let more = declarators_after k xs h.1 r h.4 in
    (rw (array_test x x.dimensions refl h.3.0, more.0) refl, (h.0, h.1, h.2, h.3.1, more.1))

declarators_are : (k : Context) (xs : List Declarator) (s r : List ℕ) → AreListed (ReadsArrayDeclarator k) xs s r → (list_all is_array xs ≡ true) × AreListed (ReadsDeclarator k) xs s r
declarators_are k [] s r h = absurd h
declarators_are k (x ∷ xs) s r h =
    let more = declarators_after k xs h.0 r h.2 in
    (rw (array_test x x.dimensions refl h.1.0, more.0) refl, (h.0, h.1.1, more.1))

pub dimension_statement_is : (k : Context) (m : List ℕ) (f : Form) → length m ≤ k.length → dimension k m ≡ Some f → (xs : List Declarator) × (form.Dimension xs ≡ f) × AreListed (ReadsArrayDeclarator k) xs m []
unfolding dimension
dimension_statement_is k m f fit e =
    let b = bind_some _ _ f e in
    let one = listed_sound (ReadsDeclarator k) (declarator_shortens k) k (declarator_at k) (declarator_sound k) m b.0 fit b.1 in
    elim (chosen (list_all is_array b.0.0) (all_read (form.Dimension b.0.0) b.0.1) None (Some f) b.2) [
      | inl d ↦ (
          let a = all_is (form.Dimension b.0.0) b.0.1 f d.1 in
          (b.0.0, a.1, subst (λ (r : List ℕ). AreListed (ReadsArrayDeclarator k) b.0.0 m r) a.0 (arrays_are k b.0.0 m b.0.1 d.0 one)))
      | inr d ↦ absurd (none-some f d.1)
    ]

pub dimension_statement_read : (k : Context) (xs : List Declarator) (m : List ℕ) → AreListed (ReadsArrayDeclarator k) xs m [] → dimension k m ≡ Some (form.Dimension xs)
unfolding dimension
dimension_statement_read k xs m h =
    let are = declarators_are k xs m [] h in
    rw (declarators_read k xs m are.1, are.0) refl
