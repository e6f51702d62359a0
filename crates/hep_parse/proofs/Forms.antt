-- What is read as a statement's conditions and form is so by the grammar, and the other way round. What reads with constants that fit
-- reads with constants of any size.
use Rattle.std.proofs.Common.{◌≡◌, inl, inr, ℕ, zero, suc, ◌+◌, ◌≤◌, Bool, true, false, List, [], ◌∷◌, ◌++◌, length, Option, Some, None, refl, sym, ap, subst, ◌∙◌, arith, nat_eq, if◌then◌else◌, codes, min, ℤ}
use Rattle.std.specs.Cmp.Lexicographic.{pointwise, same_text}
use Rattle.std.proofs.lemmas.Bool.Decides.{nat_tests}
use Rattle.hep_source.specs.Tree.{Tree, Trees, constant, occurrence, with_list, parenthesized, signed, negated, binary, no_trees, trees}
use Rattle.hep_source.specs.Units.{is_executable}
use Rattle.hep_source.specs.declared.statement.Form.{Form}
use Rattle.hep_source.specs.declared.statement.Form.TheVariants as forms
use Rattle.hep_source.specs.declared.statement.Form.TheVariants.{Assign, ArithmeticIf, IfThen, Program, Subroutine, Function, Resume, Implicit, Declare, Dimension as Dimensions, Common, Parameter, Data, GoTo, ComputedGoTo, ElseIf, Else, EndIf, Do, Call, Create, Purge, Print, Continue, Return, Stop, End}
use Rattle.hep_expression.specs.declared.characters.Sizes.{Sizes}
use Rattle.hep_expression.specs.declared.characters.Context.{Context}
use Rattle.hep_expression.specs.Expression.{Reads, equivalence, ReadsExpression, ReadsAll, relation, left, right, term, spelling as operator_spelling}
use Rattle.hep_expression.specs.Reading.{◌>>=◌, all_read}
use Rattle.hep_expression.proofs.Leaves.{bind_some, chosen, AllOf, one_is, shorter, fits}
use Rattle.hep_parse.specs.declared.rule.Rule.{Rule}
use Rattle.hep_parse.specs.declared.rule.Rule.TheVariants.{Assignment, BlockIf, SignIf, LogicalIf, Unclosed, Worded}
use Rattle.hep_parse.specs.declared.keyword.Keyword.{Keyword}
use Rattle.hep_parse.specs.declared.keyword.Keyword.TheVariants as words
use Rattle.hep_parse.specs.Statement.{IsWorded, IsOfAssignment, IsOfBlockIf, IsOfSignIf, IsFormBy, IsLogicalIf, HasForm, context, IsForm, AreLimits}
use Rattle.hep_parse.specs.ReadingRule.{after_if}
use Rattle.hep_parse.specs.Rules.{after_closing, rule_of}
use Rattle.hep_parse.specs.ReadingStatement.{spelling, keywords, if_condition_at, assignment, if_then, arithmetic_if, after_word, worded, form_by, closed_there, held_by, logical_if, after_condition, conditions, may_stand, after_conditions, form}
use Rattle.hep_parse.proofs.Executable.{print_is, assignment_is, go_to_is, if_condition_is, arithmetic_if_is, if_then_is, else_if_is, do_is, call_is, create_is, purge_is, stop_is, print_read, assignment_read, go_to_read, computed_go_to_read, if_condition_read, arithmetic_if_read, if_then_read, else_if_read, do_read, call_read, create_read, purge_read, stop_read}
use Rattle.hep_parse.proofs.Declarations.{declaration_is, declarations_read}
use Rattle.std.proofs.lemmas.Option.{same_Some, none-some}
use Rattle.hep_parse.proofs.Lists.{all_is}
use Rattle.hep_source.specs.declared.value.Value.TheVariants.{Int, Truth}
use Rattle.hep_source.specs.declared.declaration.UpperBound.{UpperBound}
use Rattle.hep_source.specs.declared.declaration.UpperBound.TheVariants.{Expression as UpperExpression, Open}
use Rattle.hep_source.specs.declared.declaration.Dimension.{Dimension}
use Rattle.hep_source.specs.declared.declaration.Declarator.{Declarator}
use Rattle.hep_source.specs.declared.declaration.CommonBlock.{CommonBlock}
use Rattle.hep_source.specs.declared.declaration.NamedConstant.{NamedConstant}
use Rattle.hep_source.specs.declared.declaration.Target.{Target}
use Rattle.hep_source.specs.declared.declaration.Repeat.{Repeat}
use Rattle.hep_source.specs.declared.declaration.Repeat.TheVariants.{Count, Named as RepeatName}
use Rattle.hep_source.specs.declared.declaration.DataConstant.{DataConstant}
use Rattle.hep_source.specs.declared.declaration.DataConstant.TheVariants.{Value as ConstantValue, Named as ConstantName}
use Rattle.hep_source.specs.declared.declaration.DataValue.{DataValue}
use Rattle.hep_source.specs.declared.declaration.DataGroup.{DataGroup}
use Rattle.hep_source.specs.declared.statement.PrintItem.{PrintItem}
use Rattle.hep_source.specs.declared.statement.PrintItem.TheVariants.{Expression, Characters}
use Rattle.hep_expression.specs.declared.characters.Sizes.TheVariants.{Fitting, Any}
use Rattle.hep_expression.specs.Characters.{number_of_digits, greatest, IsInteger, ReadsOccurrence}
use Rattle.hep_parse.specs.Lists.{AreAfter, AreListed, AreEnclosed, AreOptional, AreArguments, AreParenthesized}
use Rattle.hep_parse.specs.Target.{ReadsTarget}
use Rattle.hep_parse.specs.Declaration.{ReadsUpper, ReadsLower, ReadsDimension, ReadsDeclarator, ReadsArrayDeclarator, ReadsBlockName, AreMoreBlocks, ReadsFirstName, AreBlocks, ReadsNamedConstant, ReadsDataConstant, ReadsRepeat, ReadsDataValue, ReadsGroup, AreMoreGroups, AreGroups}
use Rattle.hep_parse.specs.Constant.{ReadsItem}

module _ (k : Context) where
  -- ---- forms that begin with their words

  whole_word : (w : Keyword) (g f : Form) (s m : List ℕ) → ((t : List ℕ) → t ≡ spelling w ++ [] → IsWorded k g t) → s ≡ spelling w ++ m → all_read g m ≡ Some f → IsWorded k f s
  whole_word w g f s m is_form is e =
      let a = all_is g m f e in
      subst (λ (x : Form). IsWorded k x s) a.1 (is_form s (is ∙ ap (λ (r : List ℕ). spelling w ++ r) a.0))

  after_word_is : (w : Keyword) (s m : List ℕ) (f : Form) → length m ≤ k.length → s ≡ spelling w ++ m → after_word k w m ≡ Some f → IsWorded k f s
  after_word_is words.GoTo s m f fit is e = go_to_is k s m f fit is e
  after_word_is words.ElseIf s m f fit is e = else_if_is k s m f fit is e
  after_word_is words.Else s m f fit is e = whole_word words.Else forms.Else f s m (λ t h. h) is e
  after_word_is words.EndIf s m f fit is e = whole_word words.EndIf forms.EndIf f s m (λ t h. h) is e
  after_word_is words.End s m f fit is e = whole_word words.End forms.End f s m (λ t h. h) is e
  after_word_is words.Do s m f fit is e = do_is k s m f fit is e
  after_word_is words.Call s m f fit is e = call_is k s m f fit is e
  after_word_is words.Create s m f fit is e = create_is k s m f fit is e
  after_word_is words.Purge s m f fit is e = purge_is k s m f fit is e
  after_word_is words.Print s m f fit is e = print_is k s m f fit is e
  after_word_is words.Continue s m f fit is e = whole_word words.Continue forms.Continue f s m (λ t h. h) is e
  after_word_is words.Return s m f fit is e = whole_word words.Return forms.Return f s m (λ t h. h) is e
  after_word_is words.Resume s m f fit is e = whole_word words.Resume forms.Resume f s m (λ t h. h) is e
  after_word_is words.Stop s m f fit is e = stop_is k s m f is e
  after_word_is words.Program s m f fit is e = declaration_is k words.Program s m f fit is e
  after_word_is words.Subroutine s m f fit is e = declaration_is k words.Subroutine s m f fit is e
  after_word_is words.IntegerFunction s m f fit is e = declaration_is k words.IntegerFunction s m f fit is e
  after_word_is words.LogicalFunction s m f fit is e = declaration_is k words.LogicalFunction s m f fit is e
  after_word_is words.Function s m f fit is e = declaration_is k words.Function s m f fit is e
  after_word_is words.Implicit s m f fit is e = declaration_is k words.Implicit s m f fit is e
  after_word_is words.Integer s m f fit is e = declaration_is k words.Integer s m f fit is e
  after_word_is words.Logical s m f fit is e = declaration_is k words.Logical s m f fit is e
  after_word_is words.Dimension s m f fit is e = declaration_is k words.Dimension s m f fit is e
  after_word_is words.Common s m f fit is e = declaration_is k words.Common s m f fit is e
  after_word_is words.Parameter s m f fit is e = declaration_is k words.Parameter s m f fit is e
  after_word_is words.Data s m f fit is e = declaration_is k words.Data s m f fit is e

  any_word : (among : List Keyword) → AllOf (λ (w : Keyword). Unit {0}) among
  any_word [] = tt
  any_word (w ∷ more) = (tt, any_word more)

  worded_is : (s : List ℕ) (f : Form) → length s ≤ k.length → worded k s ≡ Some f → IsWorded k f s
  unfolding worded
  worded_is s f fit e =
      let b = bind_some _ _ f e in
      let is = (one_is spelling (λ (w : Keyword). Unit {0}) keywords (any_word keywords) s b.0 b.1).0 in
      let fit' : length b.0.1 ≤ k.length = omega (arith, shorter (spelling b.0.0) b.0.1 s is) in
      after_word_is b.0.0 s b.0.1 f fit' is b.2

  -- ---- forms by their rules

  form_by_is : (rule : Rule) (s : List ℕ) (f : Form) → length s ≤ k.length → form_by k rule s ≡ Some f → IsFormBy k rule f s
  form_by_is Assignment s f fit e = assignment_is k s f fit e
  form_by_is BlockIf s f fit e = if_then_is k s f fit e
  form_by_is SignIf s f fit e = arithmetic_if_is k s f fit e
  form_by_is LogicalIf s f fit e = absurd (none-some f e)
  form_by_is Unclosed s f fit e = absurd (none-some f e)
  form_by_is Worded s f fit e = worded_is s f fit e

  -- ---- logical IFs

  closed_is : (o : Option (List ℕ)) (y x : Tree × List ℕ) → closed_there o y ≡ Some x → (o ≡ Some x.1) × (y ≡ x)
  closed_is None y x e = absurd (none-some x e)
  closed_is (Some r) y x e = elim (chosen (pointwise nat_eq y.1 r) (Some y) None (Some x) e) [
    | inl h ↦ (
        let same : y.1 ≡ r = same_text y.1 r (sym h.0) in
        let is = same_Some y x h.1 in
        (ap (λ (m : List ℕ). Some m) (sym same) ∙ ap (λ (z : Tree × List ℕ). Some z.1) is, is))
    | inr h ↦ absurd (none-some x h.1)
  ]

  pub logical_if_is : (s : List ℕ) (x : Tree × List ℕ) → length s ≤ k.length → logical_if k s ≡ Some x → IsLogicalIf k x.0 s x.1
  unfolding logical_if
  logical_if_is s x fit e = go (rule_of s) refl e
    where
      held : rule_of s ≡ LogicalIf → held_by k LogicalIf s ≡ Some x → IsLogicalIf k x.0 s x.1
      held is_rule e =
          let b = bind_some _ _ x e in
          let i = if_condition_is k s b.0 fit b.1 in
          let c = closed_is (after_if s) b.0 x b.2 in
          let closes : after_closing 0 false i.0 ≡ Some x.1 = sym (ap after_if i.1) ∙ c.0 in
          (i.0, i.1, is_rule, closes, subst (λ (y : Tree × List ℕ). Reads k y.0 equivalence i.0 (41 ∷ y.1)) c.1 i.2)

      go : (rule : Rule) → rule_of s ≡ rule → held_by k rule s ≡ Some x → IsLogicalIf k x.0 s x.1
      go LogicalIf is e = held is e
      go Assignment is e = absurd (none-some x e)
      go BlockIf is e = absurd (none-some x e)
      go SignIf is e = absurd (none-some x e)
      go Unclosed is e = absurd (none-some x e)
      go Worded is e = absurd (none-some x e)

  logical_if_shortens : (t : Tree) (s r : List ℕ) → IsLogicalIf k t s r → 1 + length r ≤ length s
  logical_if_shortens t s r h = omega (arith, ap length h.1, fits k t equivalence h.0 (41 ∷ r) h.4)

  same_as_itself : (r : List ℕ) → pointwise nat_eq r r ≡ true
  same_as_itself [] = refl
  same_as_itself (c ∷ r) = let same : nat_eq c c ≡ true = grind (arith, nat_tests) in rw (same, same_as_itself r) refl

  pub logical_if_read : (t : Tree) (s r : List ℕ) → IsLogicalIf k t s r → logical_if k s ≡ Some (t, r)
  unfolding logical_if
  logical_if_read t s r h =
      let found : if_condition_at k s ≡ Some (t, r) = if_condition_read k t s h.0 r h.1 h.4 in
      let closes : after_if s ≡ Some r = ap after_if h.1 ∙ h.3 in
      ap (λ (rule : Rule). held_by k rule s) h.2
      ∙ ap (λ (o : Option (Tree × List ℕ)). o >>= closed_there (after_if s)) found
      ∙ ap (λ (o : Option (List ℕ)). closed_there o (t, r)) closes
      ∙ ap (λ (b : Bool). if b then Some (t, r) else None) (same_as_itself r)

  -- ---- conditions

  conditions_fit : (n : ℕ) (s : List ℕ) → length s ≤ k.length → length (conditions k n s).1 ≤ length s
  unfolding conditions
  conditions_fit zero s fit = omega arith
  conditions_fit (suc n) s fit = go (λ r fit. conditions_fit n r fit) (logical_if k s) refl
    where
      go : ((r : List ℕ) → length r ≤ k.length → length (conditions k n r).1 ≤ length r) → (o : Option (Tree × List ℕ)) → logical_if k s ≡ o → length (after_condition o (λ r. conditions k n r) s).1 ≤ length s
      go shorter None e = omega arith
      go shorter (Some x) e =
          let less = logical_if_shortens x.0 s x.1 (logical_if_is s x fit e) in
          let fit' : length x.1 ≤ k.length = omega (arith, less) in
          omega (arith, less, shorter x.1 fit')

  may_stand_anywhere : (ts : List Tree) (f : Form) → is_executable f ≡ true → may_stand ts f ≡ true
  may_stand_anywhere [] f e = refl
  may_stand_anywhere (t ∷ ts) f e = e

  says : (n : ℕ) (s : List ℕ) (f : Form) → length s ≤ k.length → IsFormBy k (rule_of (conditions k n s).1) f (conditions k n s).1 → may_stand (conditions k n s).0 f ≡ true → HasForm k (conditions k n s).0 f s
  unfolding conditions
  says zero s f fit h may = h
  says (suc n) s f fit h may = go (λ r fit h may. says n r f fit h may) (logical_if k s) refl h may
    where
      go : ((r : List ℕ) → length r ≤ k.length → IsFormBy k (rule_of (conditions k n r).1) f (conditions k n r).1 → may_stand (conditions k n r).0 f ≡ true → HasForm k (conditions k n r).0 f r) → (o : Option (Tree × List ℕ)) → logical_if k s ≡ o → IsFormBy k (rule_of (after_condition o (λ r. conditions k n r) s).1) f (after_condition o (λ r. conditions k n r) s).1 → may_stand (after_condition o (λ r. conditions k n r) s).0 f ≡ true → HasForm k (after_condition o (λ r. conditions k n r) s).0 f s
      go rest None e h may = h
      go rest (Some x) e h may =
          let is = logical_if_is s x fit e in
          let fit' : length x.1 ≤ k.length = omega (arith, logical_if_shortens x.0 s x.1 is) in
          (x.1, is, may, rest x.1 fit' h (may_stand_anywhere (conditions k n x.1).0 f may))

-- ---- statements

pub form_is : (z : Sizes) (s : List ℕ) (x : List Tree × Form) → form z s ≡ Some x → IsForm z s x.0 x.1
unfolding form
form_is z s x e =
    let k = context z s in
    let y = conditions k (length s) s in
    let b = bind_some (form_by k (rule_of y.1) y.1) (λ f. if may_stand y.0 f then Some (y.0, f) else None) x e in
    let fit : length y.1 ≤ k.length = conditions_fit k (length s) s (omega arith) in
    elim (chosen (may_stand y.0 b.0) (Some (y.0, b.0)) None (Some x) b.2) [
      | inl h ↦ subst (λ (v : List Tree × Form). IsForm z s v.0 v.1) (same_Some (y.0, b.0) x h.1) (says k (length s) s b.0 (omega arith) (form_by_is k (rule_of y.1) y.1 b.0 fit b.1) h.0)
      | inr h ↦ absurd (none-some x h.1)
    ]

module _ (k : Context) where
  worded_read : (f : Form) (s : List ℕ) → IsWorded k f s → worded k s ≡ Some f
  unfolding worded
  worded_read (forms.Program p) s h = declarations_read k (forms.Program p) s refl h
  worded_read (forms.Subroutine p ds) s h = declarations_read k (forms.Subroutine p ds) s refl h
  worded_read (forms.Function t p ds) s h = declarations_read k (forms.Function t p ds) s refl h
  worded_read (forms.Implicit xs) s h = declarations_read k (forms.Implicit xs) s refl h
  worded_read (forms.Declare t xs) s h = declarations_read k (forms.Declare t xs) s refl h
  worded_read (forms.Dimension xs) s h = declarations_read k (forms.Dimension xs) s refl h
  worded_read (forms.Common xs) s h = declarations_read k (forms.Common xs) s refl h
  worded_read (forms.Parameter xs) s h = declarations_read k (forms.Parameter xs) s refl h
  worded_read (forms.Data xs) s h = declarations_read k (forms.Data xs) s refl h
  worded_read (Assign x t) s h = absurd h
  worded_read (forms.GoTo x) s h = ap (worded k) h.1 ∙ go_to_read k x h.0 h.2
  worded_read (forms.ComputedGoTo xs t) s h = ap (worded k) h.3 ∙ computed_go_to_read k xs t h.0 h.1 h.2 h.4 h.5 h.6
  worded_read (ArithmeticIf t x) s h = absurd h
  worded_read (IfThen t) s h = absurd h
  worded_read (forms.ElseIf t) s h = ap (worded k) h.1 ∙ else_if_read k t h.0 h.2
  worded_read forms.Else s h = ap (worded k) h
  worded_read forms.EndIf s h = ap (worded k) h
  worded_read (forms.Do x) s h = ap (worded k) h.5 ∙ do_read k x h.0 h.1 h.2 h.3 h.4 h.6 h.7 h.8 h.9 h.10
  worded_read (forms.Call p ts) s h = ap (worded k) h.2 ∙ call_read k p ts h.0 h.1 h.3 h.4
  worded_read (forms.Create p ts) s h = ap (worded k) h.2 ∙ create_read k p ts h.0 h.1 h.3 h.4
  worded_read (forms.Purge xs) s h = ap (worded k) h.1 ∙ purge_read k xs h.0 h.2
  worded_read (forms.Print items) s h = ap (worded k) h.1 ∙ print_read k items h.0 h.2
  worded_read forms.Continue s h = ap (worded k) h
  worded_read forms.Return s h = ap (worded k) h
  worded_read forms.Resume s h = ap (worded k) h
  worded_read forms.Stop s h = ap (worded k) h.1 ∙ stop_read h.0 h.2
  worded_read forms.End s h = ap (worded k) h

  of_assignment_read : (f : Form) (s : List ℕ) → IsOfAssignment k f s → assignment k s ≡ Some f
  of_assignment_read (Assign x t) s h = assignment_read k x t s h
  of_assignment_read _ s h = absurd h

  of_block_if_read : (f : Form) (s : List ℕ) → IsOfBlockIf k f s → if_then k s ≡ Some f
  of_block_if_read (IfThen t) s h = if_then_read k t s h.0 h.1 h.2
  of_block_if_read _ s h = absurd h

  of_sign_if_read : (f : Form) (s : List ℕ) → IsOfSignIf k f s → arithmetic_if k s ≡ Some f
  of_sign_if_read (ArithmeticIf t x) s h = arithmetic_if_read k t x s h.0 h.1 h.4 h.5 (h.2, h.3, h.6, h.7, h.8)
  of_sign_if_read _ s h = absurd h

  form_by_read : (rule : Rule) (s : List ℕ) (f : Form) → IsFormBy k rule f s → form_by k rule s ≡ Some f
  form_by_read Assignment s f h = of_assignment_read f s h
  form_by_read BlockIf s f h = of_block_if_read f s h
  form_by_read SignIf s f h = of_sign_if_read f s h
  form_by_read LogicalIf s f h = absurd h
  form_by_read Unclosed s f h = absurd h
  form_by_read Worded s f h = worded_read f s h

  -- what has a form by a rule is no logical IF
  no_logical_if : (s : List ℕ) (f : Form) → IsFormBy k (rule_of s) f s → logical_if k s ≡ None
  unfolding logical_if
  no_logical_if s f h = go (rule_of s) h
    where
      go : (rule : Rule) → IsFormBy k rule f s → held_by k rule s ≡ None
      go LogicalIf h = absurd h
      go Assignment h = refl
      go BlockIf h = refl
      go SignIf h = refl
      go Unclosed h = refl
      go Worded h = refl

  conditions_read : (n : ℕ) (ts : List Tree) (f : Form) (s : List ℕ) → length s ≤ n → HasForm k ts f s → (m : List ℕ) × (conditions k n s ≡ (ts, m)) × IsFormBy k (rule_of m) f m
  unfolding conditions
  conditions_read zero [] f s le h = (s, refl, h)
  conditions_read (suc n) [] f s le h = (s, ap (λ (o : Option (Tree × List ℕ)). after_condition o (λ r. conditions k n r) s) (no_logical_if s f h), h)
  conditions_read zero (t ∷ ts) f s le h = absurd (omega (arith, logical_if_shortens k t s h.0 h.1))
  conditions_read (suc n) (t ∷ ts) f s le h =
      let found : logical_if k s ≡ Some (t, h.0) = logical_if_read k t s h.0 h.1 in
      let rest = conditions_read n ts f h.0 (omega (arith, logical_if_shortens k t s h.0 h.1)) h.3 in (
        rest.0,
        ap (λ (o : Option (Tree × List ℕ)). after_condition o (λ r. conditions k n r) s) found
            ∙ ap (λ (y : List Tree × List ℕ). (t ∷ y.0, y.1)) rest.1,
        rest.2,
      )

  said_may_stand : (ts : List Tree) (f : Form) (s : List ℕ) → HasForm k ts f s → may_stand ts f ≡ true
  said_may_stand [] f s h = refl
  said_may_stand (t ∷ ts) f s h = h.2

pub form_read : (z : Sizes) (s : List ℕ) (ts : List Tree) (f : Form) → IsForm z s ts f → form z s ≡ Some (ts, f)
unfolding form
form_read z s ts f h =
    let k = context z s in
    let c = conditions_read k (length s) ts f s (omega arith) h in
    let found : form_by k (rule_of c.0) c.0 ≡ Some f = form_by_read k (rule_of c.0) c.0 f c.2 in
    ap (after_conditions k) c.1
    ∙ ap (λ (o : Option Form). o >>= λ g. if may_stand ts g then Some (ts, g) else None) found
    ∙ ap (λ (b : Bool). if b then Some (ts, f) else None) (said_may_stand k ts f s h)

abbrev sized : Sizes → ℕ → Context
sized z n = record { sizes = z; length = n }

-- ---- lists

module _ {A : Type 0} (P Q : A → List ℕ → List ℕ → Type 0) (grows : (x : A) (s r : List ℕ) → P x s r → Q x s r) where
  any_after : (xs : List A) (s r : List ℕ) → AreAfter P xs s r → AreAfter Q xs s r
  any_after [] s r h = h
  any_after (x ∷ xs) s r h = (h.0, h.1, h.2, grows x h.0 h.1 h.3, any_after xs h.1 r h.4)

  any_listed : (xs : List A) (s r : List ℕ) → AreListed P xs s r → AreListed Q xs s r
  any_listed [] s r h = h
  any_listed (x ∷ xs) s r h = (h.0, grows x s h.0 h.1, any_after xs h.0 r h.2)

  any_enclosed : (xs : List A) (s r : List ℕ) → AreEnclosed P xs s r → AreEnclosed Q xs s r
  any_enclosed xs s r h = (h.0, h.1, any_listed xs h.0 (41 ∷ r) h.2)

  any_optional : (xs : List A) (s r : List ℕ) → AreOptional P xs s r → AreOptional Q xs s r
  any_optional [] s r h = h
  any_optional (x ∷ xs) s r h = any_enclosed (x ∷ xs) s r h

  any_parenthesized : (xs : List A) (s : List ℕ) → AreParenthesized P xs s → AreParenthesized Q xs s
  any_parenthesized [] s h = h
  any_parenthesized (x ∷ xs) s h = any_enclosed (x ∷ xs) s [] h

  any_arguments : (xs : List A) (s : List ℕ) → AreArguments P xs s → AreArguments Q xs s
  any_arguments [] s h = h
  any_arguments (x ∷ xs) s h = any_enclosed (x ∷ xs) s [] h

module _ (n : ℕ) where
  abbrev fitting : Context
  fitting = sized Fitting n

  abbrev any : Context
  any = sized Any n

  -- ---- expressions

  any_integer : (d : List ℕ) (v : ℤ) → IsInteger Fitting d v → IsInteger Any d v
  any_integer d v h =
      let same : min (number_of_digits d) greatest ≡ number_of_digits d = omega (arith, h.0) in
      rw same h.1

  mutual
    any_reads : (t : Tree) (l : ℕ) (s r : List ℕ) → Reads fitting t l s r → Reads any t l s r
    any_reads (constant (Int v)) l s r h = (h.0, h.1, h.2, any_integer h.0 v h.3)
    any_reads (constant (Truth b)) l s r h = h
    any_reads (occurrence p) l s r h = h
    any_reads (with_list p ts) l s r h = (h.0, h.1, any_all ts h.0 r h.2)
    any_reads (parenthesized t) l s r h = (h.0, h.1, any_reads t equivalence h.0 (codes ")" ++ r) h.2)
    any_reads (signed g t) l s r h = (h.0, h.1, h.2, any_reads t term h.1 r h.3)
    any_reads (negated t) l s r h = (h.0, h.1, h.2, any_reads t relation h.1 r h.3)
    any_reads (binary o a b) l s r h = (h.0, h.1, any_reads a (left o) s (operator_spelling o ++ h.1) h.2, any_reads b (right o) h.1 r h.3)

    any_all : (ts : Trees) (s r : List ℕ) → ReadsAll fitting ts s r → ReadsAll any ts s r
    any_all no_trees s r h = h
    any_all (trees t no_trees) s r h = any_reads t equivalence s (codes ")" ++ r) h
    any_all (trees t (trees u ts)) s r h = (h.0, any_reads t equivalence s (codes "," ++ h.0) h.1, any_all (trees u ts) h.0 r h.2)

  any_expression : (t : Tree) (s r : List ℕ) → ReadsExpression fitting t s r → ReadsExpression any t s r
  any_expression t s r h = any_reads t equivalence s r h

  -- ---- declarations

  any_upper : (x : UpperBound) (s r : List ℕ) → ReadsUpper fitting x s r → ReadsUpper any x s r
  any_upper (UpperExpression t) s r h = any_expression t s r h
  any_upper Open s r h = h

  any_lower : (x : Option Tree) (s r : List ℕ) → ReadsLower fitting x s r → ReadsLower any x s r
  any_lower None s r h = h
  any_lower (Some t) s r h = any_expression t s (codes ":" ++ r) h

  any_dimension : (x : Dimension) (s r : List ℕ) → ReadsDimension fitting x s r → ReadsDimension any x s r
  any_dimension x s r h = (h.0, any_lower x.lower s h.0 h.1, any_upper x.upper h.0 r h.2)

  any_declarator : (x : Declarator) (s r : List ℕ) → ReadsDeclarator fitting x s r → ReadsDeclarator any x s r
  any_declarator x s r h =
      (h.0, h.1, any_optional (ReadsDimension fitting) (ReadsDimension any) any_dimension x.dimensions h.0 r h.2, h.3, h.4)

  any_array_declarator : (x : Declarator) (s r : List ℕ) → ReadsArrayDeclarator fitting x s r → ReadsArrayDeclarator any x s r
  any_array_declarator x s r h = (h.0, any_declarator x s r h.1)

  any_entries : (xs : List Declarator) (s r : List ℕ) → AreListed (ReadsDeclarator fitting) xs s r → AreListed (ReadsDeclarator any) xs s r
  any_entries xs s r h = any_listed (ReadsDeclarator fitting) (ReadsDeclarator any) any_declarator xs s r h

  any_name : (b : Option _) (s r : List ℕ) → (ReadsBlockName fitting b s r → ReadsBlockName any b s r) × (ReadsFirstName fitting b s r → ReadsFirstName any b s r)
  any_name None s r = (λ h. h, λ h. h)
  any_name (Some p) s r = (λ h. h, λ h. h)

  any_more_blocks : (xs : List CommonBlock) (s : List ℕ) → AreMoreBlocks fitting xs s → AreMoreBlocks any xs s
  any_more_blocks [] s h = h
  any_more_blocks (x ∷ xs) s h =
      (h.0, h.1, h.2, h.3, (any_name x.block h.0 h.1).0 h.4, any_entries x.entries h.1 h.2 h.5, any_more_blocks xs h.2 h.6)

  any_blocks : (xs : List CommonBlock) (s : List ℕ) → AreBlocks fitting xs s → AreBlocks any xs s
  any_blocks [] s h = h
  any_blocks (x ∷ xs) s h =
      (h.0, h.1, (any_name x.block s h.0).1 h.2, any_entries x.entries h.0 h.1 h.3, any_more_blocks xs h.1 h.4)

  any_named_constant : (x : NamedConstant) (s r : List ℕ) → ReadsNamedConstant fitting x s r → ReadsNamedConstant any x s r
  any_named_constant x s r h = (h.0, h.1, any_expression x.value h.0 r h.2)

  any_target : (x : Target) (s r : List ℕ) → ReadsTarget fitting x s r → ReadsTarget any x s r
  any_target x s r h =
      (h.0, h.1, any_optional (ReadsExpression fitting) (ReadsExpression any) any_expression x.subscripts h.0 r h.2)

  any_data_constant : (x : DataConstant) (s r : List ℕ) → ReadsDataConstant fitting x s r → ReadsDataConstant any x s r
  any_data_constant (ConstantValue (Int v)) s r h = (h.0, h.1, h.2, h.3, h.4, any_integer h.1 h.2 h.5, h.6)
  any_data_constant (ConstantValue (Truth b)) s r h = h
  any_data_constant (ConstantName p) s r h = h

  any_repeat : (x : Option Repeat) (s r : List ℕ) → ReadsRepeat fitting x s r → ReadsRepeat any x s r
  any_repeat None s r h = h
  any_repeat (Some (Count v)) s r h = (h.0, h.1, h.2, any_integer h.0 v h.3, h.4)
  any_repeat (Some (RepeatName p)) s r h = h

  any_data_value : (x : DataValue) (s r : List ℕ) → ReadsDataValue fitting x s r → ReadsDataValue any x s r
  any_data_value x s r h = (h.0, any_repeat x.repeat s h.0 h.1, any_data_constant x.constant h.0 r h.2)

  any_group : (x : DataGroup) (s r : List ℕ) → ReadsGroup fitting x s r → ReadsGroup any x s r
  any_group x s r h = (
    h.0,
    any_listed (ReadsTarget fitting) (ReadsTarget any) any_target x.targets s (47 ∷ h.0) h.1,
    any_listed (ReadsDataValue fitting) (ReadsDataValue any) any_data_value x.values h.0 (47 ∷ r) h.2,
  )

  any_more_groups : (xs : List DataGroup) (s : List ℕ) → AreMoreGroups fitting xs s → AreMoreGroups any xs s
  any_more_groups [] s h = h
  any_more_groups (x ∷ xs) s h = (h.0, h.1, h.2, any_group x h.0 h.1 h.3, any_more_groups xs h.1 h.4)

  any_groups : (xs : List DataGroup) (s : List ℕ) → AreGroups fitting xs s → AreGroups any xs s
  any_groups [] s h = h
  any_groups (x ∷ xs) s h = (h.0, any_group x s h.0 h.1, any_more_groups xs h.0 h.2)

  -- ---- forms

  any_item : (x : PrintItem) (s r : List ℕ) → ReadsItem fitting x s r → ReadsItem any x s r
  any_item (Expression t) s r h = any_expression t s r h
  any_item (Characters t) s r h = h

  any_limits : (t : Tree) (u : Option Tree) (s : List ℕ) → AreLimits fitting t u s → AreLimits any t u s
  any_limits t None s h = any_expression t s [] h
  any_limits t (Some u) s h = (h.0, any_expression t s (44 ∷ h.0) h.1, any_expression u h.0 [] h.2)

  any_worded : (f : Form) (s : List ℕ) → IsWorded fitting f s → IsWorded any f s
  any_worded (Program p) s h = h
  any_worded (Subroutine p ds) s h = (h.0, h.1, h.2, h.3, any_arguments (ReadsOccurrence fitting) (ReadsOccurrence any) (λ x s r g. g) ds h.1 h.4)
  any_worded (Function t p ds) s h = (h.0, h.1, h.2, h.3, any_parenthesized (ReadsOccurrence fitting) (ReadsOccurrence any) (λ x s r g. g) ds h.1 h.4)
  any_worded (Implicit xs) s h = h
  any_worded (Declare t xs) s h = (h.0, h.1, any_entries xs h.0 [] h.2)
  any_worded (Dimensions xs) s h = (h.0, h.1, any_listed (ReadsArrayDeclarator fitting) (ReadsArrayDeclarator any) any_array_declarator xs h.0 [] h.2)
  any_worded (Common xs) s h = (h.0, h.1, any_blocks xs h.0 h.2)
  any_worded (Parameter xs) s h = (h.0, h.1, any_enclosed (ReadsNamedConstant fitting) (ReadsNamedConstant any) any_named_constant xs h.0 [] h.2)
  any_worded (Data xs) s h = (h.0, h.1, any_groups xs h.0 h.2)
  any_worded (Assign x t) s h = h
  any_worded (GoTo x) s h = h
  any_worded (ComputedGoTo xs t) s h = (h.0, h.1, h.2, h.3, h.4, h.5, any_expression t h.2 [] h.6)
  any_worded (ArithmeticIf t x) s h = h
  any_worded (IfThen t) s h = h
  any_worded (ElseIf t) s h = (h.0, h.1, any_expression t h.0 (codes ")THEN") h.2)
  any_worded Else s h = h
  any_worded EndIf s h = h
  any_worded (Do x) s h =
      (h.0, h.1, h.2, h.3, h.4, h.5, h.6, h.7, h.8, any_expression x.initial h.3 (44 ∷ h.4) h.9, any_limits x.limit x.increment h.4 h.10)
  any_worded (Call p ts) s h = (h.0, h.1, h.2, h.3, any_arguments (ReadsExpression fitting) (ReadsExpression any) any_expression ts h.1 h.4)
  any_worded (Create p ts) s h = (h.0, h.1, h.2, h.3, any_arguments (ReadsExpression fitting) (ReadsExpression any) any_expression ts h.1 h.4)
  any_worded (Purge xs) s h = (h.0, h.1, any_listed (ReadsTarget fitting) (ReadsTarget any) any_target xs h.0 [] h.2)
  any_worded (Print items) s h = (h.0, h.1, any_after (ReadsItem fitting) (ReadsItem any) any_item items h.0 [] h.2)
  any_worded Continue s h = h
  any_worded Return s h = h
  any_worded Resume s h = h
  any_worded Stop s h = h
  any_worded End s h = h

  any_by : (rule : Rule) (f : Form) (s : List ℕ) → IsFormBy fitting rule f s → IsFormBy any rule f s
  any_by Assignment (Assign x t) s h = (h.0, any_target x s (61 ∷ h.0) h.1, any_expression t h.0 [] h.2)
  any_by Assignment _ s h = h
  any_by BlockIf (IfThen t) s h = (h.0, h.1, any_expression t h.0 (codes ")THEN") h.2)
  any_by BlockIf _ s h = h
  any_by SignIf (ArithmeticIf t x) s h =
      (h.0, h.1, h.2, h.3, h.4, any_expression t h.0 (41 ∷ h.1) h.5, h.6, h.7, h.8)
  any_by SignIf _ s h = h
  any_by LogicalIf f s h = h
  any_by Unclosed f s h = h
  any_by Worded f s h = any_worded f s h

  any_logical_if : (t : Tree) (s r : List ℕ) → IsLogicalIf fitting t s r → IsLogicalIf any t s r
  any_logical_if t s r h = (h.0, h.1, h.2, h.3, any_expression t h.0 (41 ∷ r) h.4)

  any_says : (conditions : List Tree) (f : Form) (s : List ℕ) → HasForm fitting conditions f s → HasForm any conditions f s
  any_says [] f s h = any_by (rule_of s) f s h
  any_says (t ∷ more) f s h = (h.0, any_logical_if t s h.0 h.1, h.2, any_says more f h.0 h.3)

pub any_form : (s : List ℕ) (conditions : List Tree) (f : Form) → IsForm Fitting s conditions f → IsForm Any s conditions f
any_form s conditions f h = any_says (length s) conditions f s h
