-- What is read as a header, as IMPLICIT or as PARAMETER is so by the grammar, and the other way
-- round.
use Rattle.std.proofs.Common.{◌≡◌, inl, inr, ℕ, ◌≤◌, true, false, List, [], ◌∷◌, ◌++◌, length, Option, Some, None, refl, ap, subst, ◌∙◌, arith, nat_le, if◌then◌else◌, leb-true, le-leb}
use Rattle.hep_source.specs.declared.name.Occurrence.{Occurrence}
use Rattle.hep_source.specs.declared.declaration.ValueType.{ValueType}
use Rattle.hep_source.specs.declared.declaration.ValueType.TheVariants.{Integer, Logical}
use Rattle.hep_source.specs.declared.declaration.LetterRange.{LetterRange}
use Rattle.hep_source.specs.declared.declaration.ImplicitGroup.{ImplicitGroup}
use Rattle.hep_source.specs.declared.declaration.NamedConstant.{NamedConstant}
use Rattle.hep_source.specs.declared.statement.Form.{Form}
use Rattle.hep_source.specs.declared.statement.Form.TheVariants as form
use Rattle.hep_expression.specs.declared.characters.Context.{Context}
use Rattle.hep_expression.specs.Characters.{is_letter, is_letter_or_digit, ReadsOccurrence, ReadsPlainOccurrence}
use Rattle.hep_expression.specs.Expression as levels
use Rattle.hep_expression.specs.Reading.{Reader, ◌>>=◌, begins, after, plain_occurrence_at}
use Rattle.hep_expression.specs.ReadingExpression.{expression_at}
use Rattle.hep_expression.proofs.Leaves.{bind_some, either_some, chosen, after_is, one_is, shorter, place_fits, is_place, is_plain_place, fits}
use Rattle.hep_expression.proofs.Sound.{expression_at_sound}
use Rattle.hep_expression.proofs.Complete.{place_read, plain_place_read, AfterExpression, after_comma, after_parenthesis, expression_read}
use Rattle.hep_parse.specs.Lists.{AreListed, AreEnclosed, AreArguments, AreParenthesized}
use Rattle.hep_parse.specs.ReadingLists.{listed, enclosed, arguments, name_and_arguments, parenthesized, whole}
use Rattle.hep_parse.specs.Declaration.{type_spelling, ReadsLetters, ReadsImplicit, ReadsNamedConstant, program_header, dummy_at, subroutine_header, function_header, letter_at, letter_range_at, letter_range_part, value_type_at, implicit_group_at, implicit, named_constant_at, parameter}
use Rattle.hep_parse.proofs.Lists.{whole_is, IsSound, Shortens, IsComplete, enclosed_shortens, listed_sound, enclosed_sound, arguments_sound, parenthesized_sound, parenthesized_complete, listed_complete, enclosed_complete, arguments_complete}
use Rattle.hep_parse.proofs.Targets.{begins_name, place_begins}
use Rattle.std.proofs.lemmas.Option.{same_Some, none-some}

-- what holds of what a reader made holds of what it answered
pub carried : {A : Type 0} (P : A → Type 0) (a x : A) → Some a ≡ Some x → P a → P x
carried P a x e h = subst P (same_Some a x e) h

-- ---- the header of a main program

pub program_header_is : (k : Context) (m : List ℕ) (f : Form) → length m ≤ k.length → program_header k m ≡ Some f → (p : Occurrence) × (form.Program p ≡ f) × ReadsPlainOccurrence k p m []
program_header_is k m f fit e =
    let w = whole_is form.Program (plain_occurrence_at k m) f e in
    (w.0, w.2, is_plain_place k m (w.0, []) fit w.1)

pub program_header_read : (k : Context) (p : Occurrence) (m : List ℕ) → ReadsPlainOccurrence k p m [] → program_header k m ≡ Some (form.Program p)
program_header_read k p m h = ap (whole form.Program) (plain_place_read k p m [] h refl)

-- ---- the header of a subroutine

pub dummy_shortens : (k : Context) → Shortens (ReadsOccurrence k)
dummy_shortens k p s r h = omega (arith, place_fits k p s r h)

pub dummy_sound : (k : Context) → IsSound k (ReadsOccurrence k) (dummy_at k)
dummy_sound k s x fit e = is_place k s x fit e

-- what may follow a name
abbrev pub AfterWord : List ℕ → Type 0
AfterWord r = begins is_letter_or_digit r ≡ false

pub dummy_complete : (k : Context) → IsComplete (ReadsOccurrence k) (dummy_at k) AfterWord
dummy_complete k p s r h f = place_read k p s r h f

pub dummy_opens : (k : Context) (p : Occurrence) (m r : List ℕ) → ReadsOccurrence k p (41 ∷ m) r → ⊥
dummy_opens k p m r h = let no : begins_name 41 ≡ true = place_begins k p 41 m r h in absurd cc

-- arguments, or none, let a name end before them
pub arguments_begin : {A : Type 0} (P : A → List ℕ → List ℕ → Type 0) (xs : List A) (s : List ℕ) → AreArguments P xs s → AfterWord s
arguments_begin P [] s (inl e) = rw e refl
arguments_begin P [] s (inr e) = rw e refl
arguments_begin P (x ∷ xs) s h = rw h.1 refl

-- a name and arguments after it
module _ {A : Type 0} (P : A → List ℕ → List ℕ → Type 0) (short : Shortens P) (k : Context) (next : Reader A) where
  pub name_and_arguments_are : IsSound k P next → {B : Type 0} (make : Occurrence → List A → B) (m : List ℕ) (y : B) → length m ≤ k.length → (name_and_arguments k next m >>= λ x. Some (make x.0 x.1)) ≡ Some y
      → (p : Occurrence) × (xs : List A) × (n : List ℕ) × (make p xs ≡ y) × ReadsPlainOccurrence k p m n × AreArguments P xs n
  name_and_arguments_are sound make m y fit e =
      let a = bind_some (name_and_arguments k next m) (λ x. Some (make x.0 x.1)) y e in
      let b = bind_some (plain_occurrence_at k m) (λ x. arguments next x.1 >>= λ xs. Some (x.0, xs)) a.0 a.1 in
      let c = bind_some (arguments next b.0.1) (λ xs. Some (b.0.0, xs)) a.0 b.2 in
      let one = is_plain_place k m b.0 fit b.1 in
      let fit' : length b.0.1 ≤ k.length = omega (arith, place_fits k b.0.0 m b.0.1 one.1) in
      let is : make b.0.0 c.0 ≡ y = ap (λ (x : Occurrence × List A). make x.0 x.1) (same_Some (b.0.0, c.0) a.0 c.2) ∙ same_Some (make a.0.0 a.0.1) y a.2 in
      (b.0.0, c.0, b.0.1, is, one, arguments_sound P short k next sound b.0.1 c.0 fit' c.1)

  pub name_and_arguments_read : (p : Occurrence) (xs : List A) (m n : List ℕ) → ReadsPlainOccurrence k p m n → AreArguments P xs n → arguments next n ≡ Some xs → name_and_arguments k next m ≡ Some (p, xs)
  name_and_arguments_read p xs m n at h read = rw (plain_place_read k p m n at (arguments_begin P xs n h), read) refl

pub subroutine_header_is : (k : Context) (m : List ℕ) (f : Form) → length m ≤ k.length → subroutine_header k m ≡ Some f → (p : Occurrence) × (ds : List Occurrence) × (n : List ℕ) × (form.Subroutine p ds ≡ f) × ReadsPlainOccurrence k p m n × AreArguments (ReadsOccurrence k) ds n
unfolding subroutine_header
subroutine_header_is k = name_and_arguments_are (ReadsOccurrence k) (dummy_shortens k) k (dummy_at k) (dummy_sound k) form.Subroutine

pub subroutine_header_read : (k : Context) (p : Occurrence) (ds : List Occurrence) (m n : List ℕ) → ReadsPlainOccurrence k p m n → AreArguments (ReadsOccurrence k) ds n → subroutine_header k m ≡ Some (form.Subroutine p ds)
unfolding subroutine_header
subroutine_header_read k p ds m n at h =
    let all = arguments_complete (ReadsOccurrence k) (dummy_shortens k) (dummy_at k) AfterWord (dummy_complete k) (λ m. refl) (λ m. refl) (dummy_opens k) ds n h in
    rw (name_and_arguments_read (ReadsOccurrence k) (dummy_shortens k) k (dummy_at k) p ds m n at h all) refl

-- ---- the header of a function

pub function_header_is : (k : Context) (t : Option ValueType) (m : List ℕ) (f : Form) → length m ≤ k.length → function_header k t m ≡ Some f
    → (p : Occurrence) × (ds : List Occurrence) × (n : List ℕ) × (form.Function t p ds ≡ f) × ReadsPlainOccurrence k p m n × AreParenthesized (ReadsOccurrence k) ds n
unfolding function_header
function_header_is k t m f fit e =
    let b = bind_some (plain_occurrence_at k m) (λ x. parenthesized (dummy_at k) x.1 >>= λ ds. Some (form.Function t x.0 ds)) f e in
    let c = bind_some (parenthesized (dummy_at k) b.0.1) (λ ds. Some (form.Function t b.0.0 ds)) f b.2 in
    let one = is_plain_place k m b.0 fit b.1 in
    let fit' : length b.0.1 ≤ k.length = omega (arith, place_fits k b.0.0 m b.0.1 one.1) in
    (b.0.0, c.0, b.0.1, same_Some (form.Function t b.0.0 c.0) f c.2, one, parenthesized_sound (ReadsOccurrence k) (dummy_shortens k) k (dummy_at k) (dummy_sound k) b.0.1 c.0 fit' c.1)

-- dummy arguments in parentheses let a name end before them
parenthesized_begin : (k : Context) (ds : List Occurrence) (s : List ℕ) → AreParenthesized (ReadsOccurrence k) ds s → AfterWord s
parenthesized_begin k [] s e = rw e refl
parenthesized_begin k (x ∷ xs) s h = rw h.1 refl

pub function_header_read : (k : Context) (t : Option ValueType) (p : Occurrence) (ds : List Occurrence) (m n : List ℕ) → ReadsPlainOccurrence k p m n → AreParenthesized (ReadsOccurrence k) ds n → function_header k t m ≡ Some (form.Function t p ds)
unfolding function_header
function_header_read k t p ds m n at h =
    let all = parenthesized_complete (ReadsOccurrence k) (dummy_shortens k) (dummy_at k) AfterWord (dummy_complete k) (λ m. refl) (λ m. refl) (dummy_opens k) ds n h in
    rw (plain_place_read k p m n at (parenthesized_begin k ds n h), all) refl

-- ---- IMPLICIT

letter_is : (s : List ℕ) (x : ℕ × List ℕ) → letter_at s ≡ Some x → (s ≡ x.0 ∷ x.1) × (is_letter x.0 ≡ true)
letter_is [] x e = absurd (none-some x e)
letter_is (c ∷ s) x e = elim (chosen (is_letter c) (Some (c, s)) None (Some x) e) [
  | inl h ↦ carried (λ (y : ℕ × List ℕ). (c ∷ s ≡ y.0 ∷ y.1) × (is_letter y.0 ≡ true)) (c, s) x h.1 (refl, h.0)
  | inr h ↦ absurd (none-some x h.1)
]

letters_shorten : Shortens ReadsLetters
letters_shorten x s r h = elim h.3 [ inl g ↦ omega (arith, ap length g.1) | inr g ↦ omega (arith, ap length g) ]

letters_sound : (k : Context) → IsSound k ReadsLetters (letter_range_part k)
letters_sound k s x fit e =
    let b = bind_some _ _ x e in
    let l = letter_is s b.0 b.1 in
    elim (either_some (after 45 b.0.1) (λ m. letter_at m >>= λ z. if nat_le b.0.0 z.0 then Some (record { first = b.0.0; last = z.0 }, z.1) else None) (Some (record { first = b.0.0; last = b.0.0 }, b.0.1)) x b.2) [
      | inl g ↦ (
          let c = bind_some _ _ x g.2 in
          let u = letter_is g.0 c.0 c.1 in
          let is : s ≡ b.0.0 ∷ 45 ∷ c.0.0 ∷ c.0.1 = l.0 ∙ ap (λ (m : List ℕ). b.0.0 ∷ m) (after_is 45 b.0.1 g.0 g.1 ∙ ap (λ (m : List ℕ). 45 ∷ m) u.0) in
          elim (chosen (nat_le b.0.0 c.0.0) (Some (record { first = b.0.0; last = c.0.0 }, c.0.1)) None (Some x) c.2) [
            | inl d ↦ carried (λ (y : LetterRange × List ℕ). ReadsLetters y.0 s y.1) (record { first = b.0.0; last = c.0.0 }, c.0.1) x d.1 (l.1, u.1, leb-true b.0.0 c.0.0 d.0, inr is)
            | inr d ↦ absurd (none-some x d.1)
          ])
      | inr g ↦ carried (λ (y : LetterRange × List ℕ). ReadsLetters y.0 s y.1) (record { first = b.0.0; last = b.0.0 }, b.0.1) x g.1 (l.1, l.1, omega arith, inl (refl, l.0))
    ]

-- `-` doesn't follow letters
abbrev AfterLetters : List ℕ → Type 0
AfterLetters r = after 45 r ≡ None

letters_complete : (k : Context) → IsComplete ReadsLetters (letter_range_part k) AfterLetters
letters_complete k x s r h f = elim h.3 [
  | inl g ↦ (
      let one : letter_range_at s ≡ Some (record { first = x.first; last = x.first }, r) = rw (g.1, h.0, f) refl in
      one ∙ ap (λ (c : ℕ). Some (record { first = x.first; last = c }, r)) g.0)
  | inr g ↦ rw (g, h.0, h.1, le-leb x.first x.last h.2) refl
]

implicit_group_shortens : Shortens ReadsImplicit
implicit_group_shortens x s r h = omega (arith, shorter (type_spelling x.value_type) h.0 s h.1, enclosed_shortens ReadsLetters letters_shorten x.letters h.0 r h.2)

implicit_group_sound : (k : Context) → IsSound k ReadsImplicit (implicit_group_at k)
unfolding implicit_group_at
implicit_group_sound k s x fit e =
    let b = bind_some _ _ x e in
    let one = (one_is type_spelling (λ (t : ValueType). Unit {0}) (Integer ∷ Logical ∷ []) (tt, (tt, tt)) s b.0 b.1).0 in
    let fit' : length b.0.1 ≤ k.length = omega (arith, shorter (type_spelling b.0.0) b.0.1 s one) in
    let c = bind_some _ _ x b.2 in
    let two = enclosed_sound ReadsLetters letters_shorten k (letter_range_part k) (letters_sound k) b.0.1 c.0 fit' c.1 in
    carried (λ (y : ImplicitGroup × List ℕ). ReadsImplicit y.0 s y.1) (record { value_type = b.0.0; letters = c.0.0 }, c.0.1) x c.2 (b.0.1, one, two)

pub type_found : (t : ValueType) (m : List ℕ) → value_type_at (type_spelling t ++ m) ≡ Some (t, m)
type_found Integer m = refl
type_found Logical m = refl

-- what follows is of no matter
abbrev pub Any : List ℕ → Type 0
Any r = Unit {0}

implicit_group_complete : (k : Context) → IsComplete ReadsImplicit (implicit_group_at k) Any
unfolding implicit_group_at
implicit_group_complete k x s r h f =
    let one : value_type_at s ≡ Some (x.value_type, h.0) = ap value_type_at h.1 ∙ type_found x.value_type h.0 in
    let two = enclosed_complete ReadsLetters letters_shorten (letter_range_part k) AfterLetters (letters_complete k) (λ m. refl) (λ m. refl) x.letters h.0 r h.2 in
    rw (one, two) refl

pub implicit_is : (k : Context) (m : List ℕ) (f : Form) → length m ≤ k.length → implicit k m ≡ Some f → (xs : List ImplicitGroup) × (form.Implicit xs ≡ f) × AreListed ReadsImplicit xs m []
unfolding implicit
implicit_is k m f fit e =
    let w = whole_is form.Implicit (listed (implicit_group_at k) m) f e in
    (w.0, w.2, listed_sound ReadsImplicit implicit_group_shortens k (implicit_group_at k) (implicit_group_sound k) m (w.0, []) fit w.1)

pub implicit_read : (k : Context) (xs : List ImplicitGroup) (m : List ℕ) → AreListed ReadsImplicit xs m [] → implicit k m ≡ Some (form.Implicit xs)
unfolding implicit
implicit_read k xs m h = ap (whole form.Implicit) (listed_complete ReadsImplicit implicit_group_shortens (implicit_group_at k) Any (implicit_group_complete k) (λ m. tt) xs m [] h tt refl)

-- ---- PARAMETER

named_constant_shortens : (k : Context) → Shortens (ReadsNamedConstant k)
named_constant_shortens k x s r h = omega (arith, place_fits k x.occurrence s (61 ∷ h.0) h.1.1, fits k x.value levels.equivalence h.0 r h.2)

named_constant_sound : (k : Context) → IsSound k (ReadsNamedConstant k) (named_constant_at k)
unfolding named_constant_at
named_constant_sound k s x fit e =
    let b = bind_some (plain_occurrence_at k s) (λ y. after 61 y.1 >>= λ m. expression_at k m >>= λ z. Some (record { occurrence = y.0; value = z.0 }, z.1)) x e in
    let c = bind_some (after 61 b.0.1) (λ m. expression_at k m >>= λ z. Some (record { occurrence = b.0.0; value = z.0 }, z.1)) x b.2 in
    let d = bind_some (expression_at k c.0) (λ z. Some (record { occurrence = b.0.0; value = z.0 }, z.1)) x c.2 in
    let one = subst (λ (m : List ℕ). ReadsPlainOccurrence k b.0.0 s m) (after_is 61 b.0.1 c.0 c.1) (is_plain_place k s b.0 fit b.1) in
    let fit' : length c.0 ≤ k.length = omega (arith, place_fits k b.0.0 s (61 ∷ c.0) one.1) in
    let two = expression_at_sound k c.0 d.0.1 d.0.0 fit' d.1 in
    carried (λ (y : NamedConstant × List ℕ). ReadsNamedConstant k y.0 s y.1) (record { occurrence = b.0.0; value = d.0.0 }, d.0.1) x d.2 (c.0, one, two)

named_constant_complete : (k : Context) → IsComplete (ReadsNamedConstant k) (named_constant_at k) AfterExpression
unfolding named_constant_at
named_constant_complete k x s r h f = rw (plain_place_read k x.occurrence s (61 ∷ h.0) h.1 refl, expression_read k x.value h.0 r h.2 f) refl

pub parameter_is : (k : Context) (m : List ℕ) (f : Form) → length m ≤ k.length → parameter k m ≡ Some f → (xs : List NamedConstant) × (form.Parameter xs ≡ f) × AreEnclosed (ReadsNamedConstant k) xs m []
unfolding parameter
parameter_is k m f fit e =
    let w = whole_is form.Parameter (enclosed (named_constant_at k) m) f e in
    (w.0, w.2, enclosed_sound (ReadsNamedConstant k) (named_constant_shortens k) k (named_constant_at k) (named_constant_sound k) m (w.0, []) fit w.1)

pub parameter_read : (k : Context) (xs : List NamedConstant) (m : List ℕ) → AreEnclosed (ReadsNamedConstant k) xs m [] → parameter k m ≡ Some (form.Parameter xs)
unfolding parameter
parameter_read k xs m h = ap (whole form.Parameter) (enclosed_complete (ReadsNamedConstant k) (named_constant_shortens k) (named_constant_at k) AfterExpression (named_constant_complete k) after_comma after_parenthesis xs m [] h)
