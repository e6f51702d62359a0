-- What is read as the form of an executable statement has it by the grammar, and the other way round.
use Rattle.std.proofs.Common.{◌≡◌, inl, inr, ℕ, ◌≤◌, List, [], ◌∷◌, ◌++◌, length, Option, Some, None, refl, sym, ap, subst, ◌∙◌, arith, append-nil, codes, Bool, true, false, nat_eq, ◌||◌, eqb-true}
use Rattle.hep_source.specs.Tree.{Tree}
use Rattle.hep_source.specs.declared.statement.PrintItem.{PrintItem}
use Rattle.hep_source.specs.declared.statement.SignLabels.{SignLabels}
use Rattle.hep_source.specs.declared.statement.Form.{Form}
use Rattle.hep_source.specs.declared.statement.Form.TheVariants.{Assign, GoTo, ComputedGoTo, ArithmeticIf, IfThen, ElseIf, Do, Call, Create, Purge, Print, Stop}
use Rattle.hep_expression.specs.declared.characters.Context.{Context}
use Rattle.hep_expression.specs.Characters.{ReadsOccurrence, IsDigits, is_digit, is_letter, number_of_digits, ReadsPlainOccurrence}
use Rattle.hep_expression.specs.Expression.{ReadsExpression, Reads, equivalence, IsExpression}
use Rattle.hep_expression.specs.Reading.{◌>>=◌, all_read, after, occurrence_at}
use Rattle.hep_expression.specs.ReadingExpression.{whole_expression, expression_at}
use Rattle.hep_expression.proofs.Leaves.{bind_some, either_some, after_is, text_is, is_place, place_fits, fits}
use Rattle.hep_expression.proofs.Sound.{expression_at_sound, is_expression}
use Rattle.hep_parse.specs.Lists.{AreAfter, AreListed, AreEnclosed, AreArguments, IsOptionalComma}
use Rattle.hep_parse.specs.Target.{ReadsTarget}
use Rattle.hep_expression.specs.Label.{ReadsLabel}
use Rattle.hep_parse.specs.Constant.{quoted, ReadsItem}
use Rattle.hep_parse.specs.Statement.{AreLimits, IsStopText, IsWorded, IsOfAssignment, IsOfBlockIf, IsOfSignIf, IsAssignment}
use Rattle.hep_parse.specs.ReadingLists.{listed, after_optional_comma, enclosed, arguments, name_and_arguments}
use Rattle.hep_parse.specs.ReadingTarget.{expression_part, target_at}
use Rattle.hep_expression.specs.ReadingLabel.{few_digits_at, label_at, label_part}
use Rattle.hep_parse.specs.ReadingConstant.{constant_after, item_at}
use Rattle.hep_parse.specs.ReadingStatement.{print, assignment, computed_go_to, go_to, sign_labels, condition_at, if_condition_at, arithmetic_if, before_then, if_then, else_if, limits, do_loop, call, create, purge, digits_or_characters, stop}
use Rattle.hep_parse.proofs.Lists.{all_is, whole_is, enclosed_shortens, listed_sound, enclosed_sound, listed_complete, enclosed_complete, arguments_complete}
use Rattle.hep_parse.proofs.Targets.{expression_part_shortens, expression_part_sound, target_shortens, target_sound, begins_name, begins_expression, place_begins, expression_begins, expression_begins_not, place_begins_not, expression_part_complete, AfterName, target_complete}
use Rattle.hep_parse.proofs.Items.{item_shortens, item_sound, AfterItem, item_complete}
use Rattle.hep_parse.proofs.Parts.{comma_is, few_are, label_is, label_shortens, label_sound, constant_is, comma_read, AfterDigits, few_read, label_read, label_complete, constant_read}
use Rattle.hep_parse.proofs.Ends.{comma_shortens}
use Rattle.hep_parse.proofs.Headers.{name_and_arguments_are, name_and_arguments_read}
use Rattle.std.proofs.lemmas.Option.{same_Some}
use Rattle.hep_source.specs.declared.name.Occurrence.{Occurrence}
use Rattle.hep_source.specs.declared.declaration.Target.{Target}
use Rattle.hep_source.specs.declared.statement.DoControl.{DoControl}
use Rattle.hep_expression.proofs.Complete.{letter_is_no_digit, place_read, AfterExpression, after_end, after_comma, after_parenthesis, expression_read, whole_expression_read}

module _ (k : Context) where
  -- ---- PRINT

  after_first : (xs : List PrintItem) (m q : List ℕ) → m ≡ 44 ∷ q → AreListed (ReadsItem k) xs q [] → AreAfter (ReadsItem k) xs m []
  after_first [] m q is h = absurd h
  after_first (x ∷ xs) m q is h = (q, h.0, is, h.1, h.2)

  pub print_is : (s m : List ℕ) (f : Form) → length m ≤ k.length → s ≡ codes "PRINT*" ++ m → print k m ≡ Some f → IsWorded k f s
  unfolding print
  print_is s m f fit is e = go (after 44 m) refl e
    where
      go : (o : Option (List ℕ)) → after 44 m ≡ o → (elim o [ None ↦ all_read (Print []) m | Some q ↦ listed (item_at k) q >>= λ x. all_read (Print x.0) x.1 ]) ≡ Some f → IsWorded k f s
      go None n e = let a = all_is (Print []) m f e in subst (λ (g : Form). IsWorded k g s) a.1 (m, is, a.0)
      go (Some q) n e =
          let w = whole_is Print (listed (item_at k) q) f e in
          let is_m = after_is 44 m q n in
          let fit' : length q ≤ k.length = omega (arith, ap length is_m) in
          let items = listed_sound (ReadsItem k) (item_shortens k) k (item_at k) (item_sound k) q (w.0, []) fit' w.1 in
          subst (λ (g : Form). IsWorded k g s) w.2 (m, is, after_first w.0 m q is_m items)

  -- ---- assignment

  pub assignment_is : (s : List ℕ) (f : Form) → length s ≤ k.length → assignment k s ≡ Some f → IsOfAssignment k f s
  unfolding assignment
  assignment_is s f fit e =
      let b = bind_some (target_at k s) (λ x. after 61 x.1 >>= λ m. whole_expression k m >>= λ t. Some (Assign x.0 t)) f e in
      let c = bind_some (after 61 b.0.1) (λ m. whole_expression k m >>= λ t. Some (Assign b.0.0 t)) f b.2 in
      let d = bind_some (whole_expression k c.0) (λ t. Some (Assign b.0.0 t)) f c.2 in
      let at = target_sound k s b.0 fit b.1 in
      let is = after_is 61 b.0.1 c.0 c.1 in
      let fit' : length c.0 ≤ k.length = omega (arith, ap length is, target_shortens k b.0.0 s b.0.1 at) in
      let at' : ReadsTarget k b.0.0 s (61 ∷ c.0) = subst (λ (r : List ℕ). ReadsTarget k b.0.0 s r) is at in
      subst (λ (g : Form). IsOfAssignment k g s) (same_Some (Assign b.0.0 d.0) f d.2) (c.0, at', is_expression k c.0 d.0 fit' d.1)

  -- ---- GO TO

  computed_is : (s m : List ℕ) (f : Form) → length m ≤ k.length → s ≡ codes "GOTO" ++ m → computed_go_to k m ≡ Some f → IsWorded k f s
  unfolding computed_go_to
  computed_is s m f fit is e =
      let b = bind_some _ _ f e in
      let q = after_optional_comma b.0.1 in
      let c = bind_some _ _ f b.2 in
      let labels = enclosed_sound ReadsLabel label_shortens k (label_part k) (label_sound k) m b.0 fit b.1 in
      let fit' : length q ≤ k.length = omega (arith, enclosed_shortens ReadsLabel label_shortens b.0.0 m b.0.1 labels, comma_shortens b.0.1 q (comma_is b.0.1)) in
      subst (λ (g : Form). IsWorded k g s) (same_Some (ComputedGoTo b.0.0 c.0) f c.2) (m, b.0.1, q, is, labels, comma_is b.0.1, is_expression k q c.0 fit' c.1)

  pub go_to_is : (s m : List ℕ) (f : Form) → length m ≤ k.length → s ≡ codes "GOTO" ++ m → go_to k m ≡ Some f → IsWorded k f s
  unfolding go_to
  go_to_is s m f fit is e = elim (either_some (label_at m) (λ x. all_read (GoTo x.0) x.1) (computed_go_to k m) f e) [
    | inl g ↦ (
        let a = all_is (GoTo g.0.0) g.0.1 f g.2 in
        let label = subst (λ (r : List ℕ). ReadsLabel g.0.0 m r) a.0 (label_is m g.0 g.1) in
        subst (λ (x : Form). IsWorded k x s) a.1 (m, is, label))
    | inr g ↦ computed_is s m f fit is g.1
  ]

  -- ---- IF

  abbrev pub AreSignLabels : SignLabels → List ℕ → Type 0
  AreSignLabels x s = (p : List ℕ) × (q : List ℕ) × ReadsLabel x.negative s (44 ∷ p) × ReadsLabel x.zero p (44 ∷ q) × ReadsLabel x.positive q []

  sign_labels_are : (s : List ℕ) (x : SignLabels) → sign_labels s ≡ Some x → AreSignLabels x s
  sign_labels_are s x e =
      let b = bind_some _ _ x e in
      let u = b.0 in
      let c = bind_some _ _ x b.2 in
      let d = bind_some _ _ x c.2 in
      let v = d.0 in
      let g = bind_some _ _ x d.2 in
      let h = bind_some _ _ x g.2 in
      let w = h.0 in
      let a = all_is (record { negative = u.0; zero = v.0; positive = w.0 }) w.1 x h.2 in
      let one = subst (λ (r : List ℕ). ReadsLabel u.0 s r) (after_is 44 u.1 c.0 c.1) (label_is s u b.1) in
      let two = subst (λ (r : List ℕ). ReadsLabel v.0 c.0 r) (after_is 44 v.1 g.0 g.1) (label_is c.0 v d.1) in
      let three = subst (λ (r : List ℕ). ReadsLabel w.0 g.0 r) a.0 (label_is g.0 w h.1) in
      subst (λ (y : SignLabels). AreSignLabels y s) a.1 (c.0, g.0, one, two, three)

  condition_is : (s : List ℕ) (x : Tree × List ℕ) → length s ≤ k.length → condition_at k s ≡ Some x → Reads k x.0 equivalence s (41 ∷ x.1)
  unfolding condition_at
  condition_is s x fit e =
      let b = bind_some _ _ x e in
      let c = bind_some _ _ x b.2 in
      let one = expression_at_sound k s b.0.1 b.0.0 fit b.1 in
      let two = subst (λ (r : List ℕ). Reads k b.0.0 equivalence s r) (after_is 41 b.0.1 c.0 c.1) one in
      subst (λ (y : Tree × List ℕ). Reads k y.0 equivalence s (41 ∷ y.1)) (same_Some (b.0.0, c.0) x c.2) two

  pub if_condition_is : (s : List ℕ) (x : Tree × List ℕ) → length s ≤ k.length → if_condition_at k s ≡ Some x → (m : List ℕ) × (s ≡ codes "IF(" ++ m) × Reads k x.0 equivalence m (41 ∷ x.1)
  if_condition_is s x fit e =
      let b = bind_some _ _ x e in
      let is = text_is (codes "IF(") s b.0 b.1 in
      (b.0, is, condition_is b.0 x (omega (arith, ap length is)) b.2)

  pub arithmetic_if_is : (s : List ℕ) (f : Form) → length s ≤ k.length → arithmetic_if k s ≡ Some f → IsOfSignIf k f s
  unfolding arithmetic_if
  arithmetic_if_is s f fit e =
      let b = bind_some _ _ f e in
      let c = bind_some _ _ f b.2 in
      let i = if_condition_is s b.0 fit b.1 in
      let l = sign_labels_are b.0.1 c.0 c.1 in
      subst (λ (g : Form). IsOfSignIf k g s) (same_Some (ArithmeticIf b.0.0 c.0) f c.2) (i.0, b.0.1, l.0, l.1, i.1, i.2, l.2, l.3, l.4)

  then_is : (x : Tree × List ℕ) (t : Tree) → before_then x ≡ Some t → (x.1 ≡ codes "THEN") × (x.0 ≡ t)
  then_is x t e =
      let b = bind_some _ _ t e in
      let a = all_is x.0 b.0 t b.2 in
      (text_is (codes "THEN") x.1 b.0 b.1 ∙ ap (λ (r : List ℕ). codes "THEN" ++ r) a.0, a.1)

  -- a condition with THEN and no more after it
  with_then : (x : Tree × List ℕ) (t : Tree) (m : List ℕ) → before_then x ≡ Some t → Reads k x.0 equivalence m (41 ∷ x.1) → Reads k t equivalence m (codes ")THEN")
  with_then x t m e h =
      let a = then_is x t e in
      subst (λ (u : Tree). Reads k u equivalence m (codes ")THEN")) a.1 (subst (λ (r : List ℕ). Reads k x.0 equivalence m (41 ∷ r)) a.0 h)

  pub if_then_is : (s : List ℕ) (f : Form) → length s ≤ k.length → if_then k s ≡ Some f → IsOfBlockIf k f s
  unfolding if_then
  if_then_is s f fit e =
      let b = bind_some _ _ f e in
      let i = if_condition_is s b.0 fit b.1 in
      let c = bind_some _ _ f b.2 in
      subst (λ (g : Form). IsOfBlockIf k g s) (same_Some (IfThen c.0) f c.2) (i.0, i.1, with_then b.0 c.0 i.0 c.1 i.2)

  pub else_if_is : (s m : List ℕ) (f : Form) → length m ≤ k.length → s ≡ codes "ELSEIF(" ++ m → else_if k m ≡ Some f → IsWorded k f s
  unfolding else_if
  else_if_is s m f fit is e =
      let b = bind_some _ _ f e in
      let c = bind_some _ _ f b.2 in
      subst (λ (g : Form). IsWorded k g s) (same_Some (ElseIf c.0) f c.2) (m, is, with_then b.0 c.0 m c.1 (condition_is m b.0 fit b.1))

  -- ---- DO

  limits_are : (s : List ℕ) (y : Tree × Option Tree) → length s ≤ k.length → limits k s ≡ Some y → AreLimits k y.0 y.1 s
  unfolding limits
  limits_are s y fit e =
      let b = bind_some _ _ y e in
      let one = expression_at_sound k s b.0.1 b.0.0 fit b.1 in
      elim (either_some (after 44 b.0.1) (λ m. whole_expression k m >>= λ u. Some (b.0.0, Some u)) (all_read (b.0.0, None) b.0.1) y b.2) [
        | inl g ↦ (
            let c = bind_some (whole_expression k g.0) (λ u. Some (b.0.0, Some u)) y g.2 in
            let is = after_is 44 b.0.1 g.0 g.1 in
            let fit' : length g.0 ≤ k.length = omega (arith, ap length is, fits k b.0.0 equivalence s b.0.1 one) in
            let limit = subst (λ (r : List ℕ). Reads k b.0.0 equivalence s r) is one in
            subst (λ (z : Tree × Option Tree). AreLimits k z.0 z.1 s) (same_Some (b.0.0, Some c.0) y c.2) (g.0, limit, is_expression k g.0 c.0 fit' c.1))
        | inr g ↦ (
            let a = all_is (b.0.0, None) b.0.1 y g.1 in
            let limit = subst (λ (r : List ℕ). Reads k b.0.0 equivalence s r) a.0 one in
            subst (λ (z : Tree × Option Tree). AreLimits k z.0 z.1 s) a.1 limit)
      ]

  pub do_is : (s m : List ℕ) (f : Form) → length m ≤ k.length → s ≡ codes "DO" ++ m → do_loop k m ≡ Some f → IsWorded k f s
  unfolding do_loop
  do_is s m f fit is e =
      let b = bind_some _ _ f e in
      let x = b.0 in
      let p = after_optional_comma x.1 in
      let c = bind_some _ _ f b.2 in
      let v = c.0 in
      let d = bind_some _ _ f c.2 in
      let q = d.0 in
      let g = bind_some _ _ f d.2 in
      let a = g.0 in
      let h = bind_some _ _ f g.2 in
      let l = h.0 in
      let i = bind_some _ _ f h.2 in
      let label = label_is m x b.1 in
      let fit_p : length p ≤ k.length = omega (arith, label_shortens x.0 m x.1 label, comma_shortens x.1 p (comma_is x.1)) in
      let variable = is_place k p v fit_p c.1 in
      let is_q = after_is 61 v.1 q d.1 in
      let fit_q : length q ≤ k.length = omega (arith, place_fits k v.0 p v.1 variable, ap length is_q) in
      let initial = expression_at_sound k q a.1 a.0 fit_q g.1 in
      let is_l = after_is 44 a.1 l h.1 in
      let fit_l : length l ≤ k.length = omega (arith, fits k a.0 equivalence q a.1 initial, ap length is_l) in
      let at = subst (λ (r : List ℕ). ReadsOccurrence k v.0 p r) is_q variable in
      let first = subst (λ (r : List ℕ). Reads k a.0 equivalence q r) is_l initial in
      subst (λ (y : Form). IsWorded k y s) (same_Some (Do (record { terminal = x.0; variable = v.0; initial = a.0; limit = i.0.0; increment = i.0.1 })) f i.2)
      (m, x.1, p, q, l, is, label, comma_is x.1, at, first, limits_are l i.0 fit_l i.1)

  -- ---- CALL, CREATE and PURGE

  pub call_is : (s m : List ℕ) (f : Form) → length m ≤ k.length → s ≡ codes "CALL" ++ m → call k m ≡ Some f → IsWorded k f s
  unfolding call
  call_is s m f fit is e =
      let w = name_and_arguments_are (ReadsExpression k) (expression_part_shortens k) k (expression_part k) (expression_part_sound k) Call m f fit e in
      subst (λ (g : Form). IsWorded k g s) w.3 (m, w.2, is, w.4, w.5)

  pub create_is : (s m : List ℕ) (f : Form) → length m ≤ k.length → s ≡ codes "CREATE" ++ m → create k m ≡ Some f → IsWorded k f s
  unfolding create
  create_is s m f fit is e =
      let w = name_and_arguments_are (ReadsExpression k) (expression_part_shortens k) k (expression_part k) (expression_part_sound k) Create m f fit e in
      subst (λ (g : Form). IsWorded k g s) w.3 (m, w.2, is, w.4, w.5)

  pub purge_is : (s m : List ℕ) (f : Form) → length m ≤ k.length → s ≡ codes "PURGE" ++ m → purge k m ≡ Some f → IsWorded k f s
  unfolding purge
  purge_is s m f fit is e =
      let w = whole_is Purge (listed (target_at k) m) f e in
      let targets = listed_sound (ReadsTarget k) (target_shortens k) k (target_at k) (target_sound k) m (w.0, []) fit w.1 in
      subst (λ (g : Form). IsWorded k g s) w.2 (m, is, targets)

  -- ---- STOP

  -- STOP, and what stands after it
  abbrev IsStop : Form → List ℕ → Type 0
  IsStop f m = (Stop ≡ f) × IsStopText m

  short_digits : (d : List ℕ) (m : List ℕ) → IsDigits d → length d ≤ 5 → m ≡ d → IsDigits m × (length m ≤ 5)
  short_digits d m h le is = subst (λ (l : List ℕ). IsDigits l × (length l ≤ 5)) (sym is) (h, le)

  some_is_stop : (m : List ℕ) (f : Form) → digits_or_characters m ≡ Some f → IsStop f m
  some_is_stop m f e = elim (either_some (few_digits_at m) (λ x. all_read Stop x.1) (after 39 m >>= λ q. constant_after q >>= λ x. all_read Stop x.1) f e) [
    | inl g ↦ (
        let a = all_is Stop g.0.1 f g.2 in
        let d = few_are m g.0 g.1 in
        let is : m ≡ d.0 = d.3 ∙ ap (λ (r : List ℕ). d.0 ++ r) a.0 ∙ append-nil d.0 in
        (a.1, inr (inl (short_digits d.0 m d.1 d.2 is))))
    | inr g ↦ (
        let b = bind_some _ _ f g.1 in
        let c = bind_some _ _ f b.2 in
        let a = all_is Stop c.0.1 f c.2 in
        let t = constant_is b.0 c.0 c.1 in
        let is : m ≡ 39 ∷ (quoted c.0.0 ++ 39 ∷ []) = after_is 39 m b.0 b.1 ∙ ap (λ (l : List ℕ). 39 ∷ l) t.1 ∙ ap (λ (r : List ℕ). 39 ∷ (quoted c.0.0 ++ 39 ∷ r)) a.0 in
        (a.1, inr (inr (c.0.0, (t.0, is)))))
  ]

  stop_text_is : (m : List ℕ) (f : Form) → stop m ≡ Some f → IsStop f m
  unfolding stop
  stop_text_is [] f e = (same_Some Stop f e, inl refl)
  stop_text_is (c ∷ m) f e = some_is_stop (c ∷ m) f e

  pub stop_is : (s m : List ℕ) (f : Form) → s ≡ codes "STOP" ++ m → stop m ≡ Some f → IsWorded k f s
  stop_is s m f is e =
      let h = stop_text_is m f e in
      subst (λ (g : Form). IsWorded k g s) h.0 (m, is, h.1)

-- a letter isn't a digit, nor is `$`
name_is_no_digit : (c : ℕ) → begins_name c ≡ true → is_digit c ≡ false
name_is_no_digit c e = go (is_letter c) refl e
  where
    go : (b : Bool) → is_letter c ≡ b → (b || nat_eq c 36) ≡ true → is_digit c ≡ false
    go true l h = letter_is_no_digit c l
    go false l h = rw (eqb-true c 36 h) refl

module _ (k : Context) where
  -- ---- PRINT

  pub print_read : (items : List PrintItem) (m : List ℕ) → AreAfter (ReadsItem k) items m [] → print k m ≡ Some (Print items)
  unfolding print
  print_read [] m h = rw h refl
  print_read (x ∷ more) m h =
      let all : listed (item_at k) h.0 ≡ Some (x ∷ more, []) = listed_complete (ReadsItem k) (item_shortens k) (item_at k) AfterItem (item_complete k) (λ m. (after_comma m, refl)) (x ∷ more) h.0 [] (h.1, h.3, h.4) (after_end, refl) refl in
      rw (h.2, all) refl

  -- ---- assignment

  pub assignment_read : (x : Target) (t : Tree) (s : List ℕ) → IsAssignment k x t s → assignment k s ≡ Some (Assign x t)
  unfolding assignment
  assignment_read x t s h =
      let one : target_at k s ≡ Some (x, 61 ∷ h.0) = target_complete k x s (61 ∷ h.0) h.1 (refl, refl) in
      rw (one, whole_expression_read k t h.0 h.2) refl

  -- ---- GO TO

  pub go_to_read : (x : ℕ) (m : List ℕ) → ReadsLabel x m [] → go_to k m ≡ Some (GoTo x)
  unfolding go_to
  go_to_read x m h = rw (label_read x m [] h refl) refl

  pub computed_go_to_read : (xs : List ℕ) (t : Tree) (m n q : List ℕ) → AreEnclosed ReadsLabel xs m n → IsOptionalComma n q → IsExpression k q t → go_to k m ≡ Some (ComputedGoTo xs t)
  unfolding go_to computed_go_to
  computed_go_to_read xs t m n q labels comma is =
      let none : label_at m ≡ None = ap label_at labels.1 in
      let all : enclosed (label_part k) m ≡ Some (xs, n) = enclosed_complete ReadsLabel label_shortens (label_part k) AfterDigits (label_complete k) (λ m. refl) (λ m. refl) xs m n labels in
      let at : after_optional_comma n ≡ q = comma_read n q comma (expression_begins_not k t q [] 44 refl is) in
      rw (none, all, at, whole_expression_read k t q is) refl

  -- ---- IF

  sign_labels_read : (x : SignLabels) (s : List ℕ) → AreSignLabels k x s → sign_labels s ≡ Some x
  sign_labels_read x s h =
      let one : label_at s ≡ Some (x.negative, 44 ∷ h.0) = label_read x.negative s (44 ∷ h.0) h.2 refl in
      let two : label_at h.0 ≡ Some (x.zero, 44 ∷ h.1) = label_read x.zero h.0 (44 ∷ h.1) h.3 refl in
      let three : label_at h.1 ≡ Some (x.positive, []) = label_read x.positive h.1 [] h.4 refl in
      rw (one, two, three) refl

  condition_read : (t : Tree) (m r : List ℕ) → Reads k t equivalence m (41 ∷ r) → condition_at k m ≡ Some (t, r)
  unfolding condition_at
  condition_read t m r h = rw (expression_read k t m (41 ∷ r) h (after_parenthesis r)) refl

  pub if_condition_read : (t : Tree) (s m r : List ℕ) → s ≡ codes "IF(" ++ m → Reads k t equivalence m (41 ∷ r) → if_condition_at k s ≡ Some (t, r)
  if_condition_read t s m r is h = ap (if_condition_at k) is ∙ condition_read t m r h

  pub arithmetic_if_read : (t : Tree) (x : SignLabels) (s m n : List ℕ) → s ≡ codes "IF(" ++ m → Reads k t equivalence m (41 ∷ n) → AreSignLabels k x n → arithmetic_if k s ≡ Some (ArithmeticIf t x)
  unfolding arithmetic_if
  arithmetic_if_read t x s m n is h labels = rw (if_condition_read t s m n is h, sign_labels_read x n labels) refl

  pub if_then_read : (t : Tree) (s m : List ℕ) → s ≡ codes "IF(" ++ m → Reads k t equivalence m (codes ")THEN") → if_then k s ≡ Some (IfThen t)
  unfolding if_then
  if_then_read t s m is h = rw (if_condition_read t s m (codes "THEN") is h) refl

  pub else_if_read : (t : Tree) (m : List ℕ) → Reads k t equivalence m (codes ")THEN") → else_if k m ≡ Some (ElseIf t)
  unfolding else_if
  else_if_read t m h = rw (condition_read t m (codes "THEN") h) refl

  -- ---- DO

  limits_read : (t : Tree) (u : Option Tree) (s : List ℕ) → AreLimits k t u s → limits k s ≡ Some (t, u)
  unfolding limits
  limits_read t None s h = rw (expression_read k t s [] h after_end) refl
  limits_read t (Some u) s h = rw (expression_read k t s (44 ∷ h.0) h.1 (after_comma h.0), whole_expression_read k u h.0 h.2) refl

  -- a comma or a name isn't a digit
  no_digit : (p : Occurrence) (n q r : List ℕ) → IsOptionalComma n q → ReadsOccurrence k p q r → AfterDigits n
  no_digit p n q r (inr e) h = rw e refl
  no_digit p n q r (inl e) h = rw e (name q h)
    where
      name : (q : List ℕ) → ReadsOccurrence k p q r → AfterDigits q
      name [] h = refl
      name (c ∷ q) h = name_is_no_digit c (place_begins k p c q r h)

  pub do_read : (x : DoControl) (m n p q l : List ℕ) → ReadsLabel x.terminal m n → IsOptionalComma n p → ReadsOccurrence k x.variable p (61 ∷ q) → Reads k x.initial equivalence q (44 ∷ l) → AreLimits k x.limit x.increment l → do_loop k m ≡ Some (Do x)
  unfolding do_loop
  do_read x m n p q l label comma at first more =
      let one : label_at m ≡ Some (x.terminal, n) = label_read x.terminal m n label (no_digit x.variable n p (61 ∷ q) comma at) in
      let two : after_optional_comma n ≡ p = comma_read n p comma (place_begins_not k x.variable p (61 ∷ q) 44 refl at) in
      let three : occurrence_at k p ≡ Some (x.variable, 61 ∷ q) = place_read k x.variable p (61 ∷ q) at refl in
      let four : expression_at k q ≡ Some (x.initial, 44 ∷ l) = expression_read k x.initial q (44 ∷ l) first (after_comma l) in
      rw (one, two, three, four, limits_read x.limit x.increment l more) refl

  -- ---- CALL, CREATE and PURGE

  -- an expression doesn't begin with `)`
  no_parenthesis : (t : Tree) (m r : List ℕ) → Reads k t equivalence (41 ∷ m) r → ⊥
  no_parenthesis t m r h = let begins : begins_expression 41 ≡ true = expression_begins k t equivalence 41 m r h in cc

  actuals_read : (ts : List Tree) (n : List ℕ) → AreArguments (ReadsExpression k) ts n → arguments (expression_part k) n ≡ Some ts
  actuals_read ts n h = arguments_complete (ReadsExpression k) (expression_part_shortens k) (expression_part k) AfterExpression (expression_part_complete k) after_comma after_parenthesis no_parenthesis ts n h

  name_and_actuals_read : (p : Occurrence) (ts : List Tree) (m n : List ℕ) → ReadsPlainOccurrence k p m n → AreArguments (ReadsExpression k) ts n → name_and_arguments k (expression_part k) m ≡ Some (p, ts)
  name_and_actuals_read p ts m n at h = name_and_arguments_read (ReadsExpression k) (expression_part_shortens k) k (expression_part k) p ts m n at h (actuals_read ts n h)

  pub call_read : (p : Occurrence) (ts : List Tree) (m n : List ℕ) → ReadsPlainOccurrence k p m n → AreArguments (ReadsExpression k) ts n → call k m ≡ Some (Call p ts)
  unfolding call
  call_read p ts m n at h = rw (name_and_actuals_read p ts m n at h) refl

  pub create_read : (p : Occurrence) (ts : List Tree) (m n : List ℕ) → ReadsPlainOccurrence k p m n → AreArguments (ReadsExpression k) ts n → create k m ≡ Some (Create p ts)
  unfolding create
  create_read p ts m n at h = rw (name_and_actuals_read p ts m n at h) refl

  pub purge_read : (xs : List Target) (m : List ℕ) → AreListed (ReadsTarget k) xs m [] → purge k m ≡ Some (Purge xs)
  unfolding purge
  purge_read xs m h =
      let all : listed (target_at k) m ≡ Some (xs, []) = listed_complete (ReadsTarget k) (target_shortens k) (target_at k) AfterName (target_complete k) (λ m. (refl, refl)) xs m [] h (refl, refl) refl in
      rw all refl

-- ---- STOP

digits_stop : (s : List ℕ) → IsDigits s → length s ≤ 5 → stop s ≡ Some Stop
unfolding stop
digits_stop [] h le = absurd h
digits_stop (c ∷ s) h le =
    let found : few_digits_at (c ∷ s) ≡ Some (number_of_digits (c ∷ s), []) = ap few_digits_at (sym (append-nil (c ∷ s))) ∙ few_read (c ∷ s) [] h le refl in
    rw found refl

pub stop_read : (s : List ℕ) → IsStopText s → stop s ≡ Some Stop
unfolding stop
stop_read s (inl e) = rw e refl
stop_read s (inr (inl h)) = digits_stop s h.0 h.1
stop_read s (inr (inr h)) = rw (h.1.1, constant_read h.0 [] h.1.0 refl) refl
