-- The first of violations that differ in their lines alone.
use Rattle.std.proofs.Common.{◌≡◌, ℕ, Bool, true, false, ◌||◌, nat_lt, Option, Some, None, List, [], ◌∷◌, ◌++◌, refl, ◌∙◌, sym, ap, arith, true≢false, if◌then◌else◌}
use Rattle.std.specs.List.{flat_map, list_any}
use Rattle.std.proofs.lemmas.Bool.Decides.{nat_tests}
use Rattle.hep_conditions.specs.Words.{Violations, precedes, first_of, when, at_line, first_of_two, reported, least_line, line_when, least_line_of, least_line_where}
use Rattle.hep_conditions.proofs.First.{first_of-append}

-- ---- the lesser of two lines

pub least_line-none : (a : Option ℕ) → least_line a None ≡ a
least_line-none None = refl
least_line-none (Some k) = refl

pub least_line-assoc : (a b c : Option ℕ) → least_line (least_line a b) c ≡ least_line a (least_line b c)
least_line-assoc None b c = refl
least_line-assoc (Some k) None c = refl
least_line-assoc (Some k) (Some l) None = refl
least_line-assoc (Some k) (Some l) (Some m) = grind (arith, nat_tests)

pub least_line-comm : (a b : Option ℕ) → least_line a b ≡ least_line b a
least_line-comm None None = refl
least_line-comm None (Some l) = refl
least_line-comm (Some k) None = refl
least_line-comm (Some k) (Some l) = grind (arith, nat_tests)

-- the lesser of a line and itself
pub least_line-again : (a : Option ℕ) → least_line a a ≡ a
least_line-again None = refl
least_line-again (Some k) = grind (arith, nat_tests)

pub least_line-swap : (a b c d : Option ℕ) → least_line (least_line a b) (least_line c d) ≡ least_line (least_line a c) (least_line b d)
least_line-swap a b c d =
    least_line-assoc a b (least_line c d)
    ∙ (ap (least_line a) (sym (least_line-assoc b c d) ∙ (ap (λ e. least_line e d) (least_line-comm b c) ∙ least_line-assoc c b d))
    ∙ sym (least_line-assoc a c (least_line b d)))

pub least_line-or : (line : ℕ) (p q : Bool) → least_line (line_when p line) (line_when q line) ≡ line_when (p || q) line
least_line-or line true true = grind (arith, nat_tests)
least_line-or line true false = refl
least_line-or line false q = refl

-- ---- what is reported

pub first_of_two-reported : (number : ℕ) (a b : Option ℕ) → first_of_two (reported number a) (reported number b) ≡ reported number (least_line a b)
first_of_two-reported number None b = refl
first_of_two-reported number (Some k) None = refl
first_of_two-reported number (Some k) (Some l) = by (nat_lt l k) (precedes (at_line number l) (at_line number k)) (grind (arith, nat_tests))
  where
    by : (p q : Bool) → p ≡ q → Some (if q then at_line number l else at_line number k) ≡ reported number (Some (if p then l else k))
    by true true e = refl
    by false false e = refl
    by true false e = absurd (true≢false e)
    by false true e = absurd (true≢false (sym e))

pub reported-when : (number line : ℕ) (b : Bool) → first_of (when b (at_line number line)) ≡ reported number (line_when b line)
reported-when number line true = refl
reported-when number line false = refl

-- lists put together
pub reported-append : (number : ℕ) (vs ws : Violations) (a b : Option ℕ) → first_of vs ≡ reported number a → first_of ws ≡ reported number b
    → first_of (vs ++ ws) ≡ reported number (least_line a b)
reported-append number vs ws a b p q = rw (first_of-append vs ws, p, q) (first_of_two-reported number a b)

-- each element gives a line
pub reported-of : {A : Type 0} (number : ℕ) (f : A → Violations) (line : A → Option ℕ) → ((x : A) → first_of (f x) ≡ reported number (line x))
    → (xs : List A) → first_of (flat_map f xs) ≡ reported number (least_line_of line xs)
reported-of number f line t [] = refl
reported-of number f line t (x ∷ xs) = reported-append number (f x) (flat_map f xs) (line x) (least_line_of line xs) (t x) (reported-of number f line t xs)

-- each element that passes a test gives its line
pub reported-where : {A : Type 0} (number : ℕ) (test : A → Bool) (line : A → ℕ) (xs : List A)
    → first_of (flat_map (λ x. when (test x) (at_line number (line x))) xs) ≡ reported number (least_line_where test line xs)
reported-where number test line [] = refl
reported-where number test line (x ∷ xs) =
    reported-append number (when (test x) (at_line number (line x))) (flat_map (λ y. when (test y) (at_line number (line y))) xs) (line_when (test x) (line x)) (least_line_where test line xs)
    (reported-when number (line x) (test x)) (reported-where number test line xs)

-- several elements at one line
pub reported-any : {A : Type 0} (number line : ℕ) (test : A → Bool) (xs : List A)
    → first_of (flat_map (λ x. when (test x) (at_line number line)) xs) ≡ reported number (line_when (list_any test xs) line)
reported-any number line test [] = refl
reported-any number line test (x ∷ xs) =
    reported-append number (when (test x) (at_line number line)) (flat_map (λ y. when (test y) (at_line number line)) xs) (line_when (test x) line) (line_when (list_any test xs) line)
    (reported-when number line (test x)) (reported-any number line test xs)
    ∙ ap (reported number) (least_line-or line (test x) (list_any test xs))

-- ---- the least line of a list

pub least_line_of-append : {A : Type 0} (line : A → Option ℕ) (xs ys : List A)
    → least_line_of line (xs ++ ys) ≡ least_line (least_line_of line xs) (least_line_of line ys)
least_line_of-append line [] ys = refl
least_line_of-append line (x ∷ xs) ys =
    ap (least_line (line x)) (least_line_of-append line xs ys) ∙ sym (least_line-assoc (line x) (least_line_of line xs) (least_line_of line ys))

pub least_line_of-same : {A : Type 0} (a b : A → Option ℕ) → ((x : A) → a x ≡ b x) → (xs : List A) → least_line_of a xs ≡ least_line_of b xs
least_line_of-same a b h [] = refl
least_line_of-same a b h (x ∷ xs) = rw (h x, least_line_of-same a b h xs) refl

-- the lines of elements that pass a test
pub least_line-where : {A : Type 0} (test : A → Bool) (line : A → ℕ) (xs : List A)
    → least_line_of (λ x. line_when (test x) (line x)) xs ≡ least_line_where test line xs
least_line-where test line [] = refl
least_line-where test line (x ∷ xs) = ap (least_line (line_when (test x) (line x))) (least_line-where test line xs)

-- two lines at each element
pub least_line_of-both : {A : Type 0} (a b : A → Option ℕ) (xs : List A)
    → least_line_of (λ x. least_line (a x) (b x)) xs ≡ least_line (least_line_of a xs) (least_line_of b xs)
least_line_of-both a b [] = refl
least_line_of-both a b (x ∷ xs) =
    ap (least_line (least_line (a x) (b x))) (least_line_of-both a b xs) ∙ least_line-swap (a x) (b x) (least_line_of a xs) (least_line_of b xs)

pub least_line_of-nones : {A : Type 0} (xs : List A) → least_line_of (λ x. None) xs ≡ None
least_line_of-nones [] = refl
least_line_of-nones (x ∷ xs) = least_line_of-nones xs

-- a table of lines, by rows or by columns
pub least_line_of-turned : {A B : Type 0} (line : A → B → Option ℕ) (xs : List A) (ys : List B)
    → least_line_of (λ x. least_line_of (line x) ys) xs ≡ least_line_of (λ y. least_line_of (λ x. line x y) xs) ys
least_line_of-turned line [] ys = sym (least_line_of-nones ys)
least_line_of-turned line (x ∷ xs) ys =
    ap (least_line (least_line_of (line x) ys)) (least_line_of-turned line xs ys)
    ∙ sym (least_line_of-both (line x) (λ y. least_line_of (λ z. line z y) xs) ys)

-- one line for any of several elements
pub least_line_of-any : {A : Type 0} (test : A → Bool) (line : ℕ) (xs : List A)
    → least_line_of (λ x. line_when (test x) line) xs ≡ line_when (list_any test xs) line
least_line_of-any test line [] = refl
least_line_of-any test line (x ∷ xs) = ap (least_line (line_when (test x) line)) (least_line_of-any test line xs) ∙ least_line-or line (test x) (list_any test xs)
