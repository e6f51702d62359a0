-- The first of violations that differ in their lines alone is at the least of these lines.
use Rattle.std.proofs.Common.{◌≡◌, ℕ, Bool, true, false, ◌||◌, nat_eq, nat_le, List, [], ◌∷◌, Option, Some, None, refl, sym, ap, ◌∙◌, arith, true≢false}
use Rattle.std.specs.List.{list_any}
use Rattle.std.proofs.lemmas.Bool.{eqb-true}
use Rattle.std.proofs.lemmas.Bool.Decides.{nat_tests}
use Rattle.hep_conditions.specs.declared.violation.Violation.{Violation}
use Rattle.hep_conditions.specs.Words.{Violations, first_of, first_of_two, least_line_of, reported}
use Rattle.hep_conditions.proofs.Lines.{first_of_two-reported}
use Rattle.hep_types.specs.Ambiguities.{is_by}
use Rattle.hep_types.proofs.Reported.{by-lesser}
use Rattle.hep_check.specs.AllViolations.{has_line}
use Rattle.hep_check.proofs.Members.{any-within, contained-any, contains-here, contains-more}
use Rattle.hep_check.proofs.StatementLines.{Plain}

-- some line isn't after this one just where the least isn't
least-by : {A : Type 0} (line : A → ℕ) (xs : List A) (k : ℕ) → list_any (λ x. nat_le (line x) k) xs ≡ is_by (least_line_of (λ x. Some (line x)) xs) k
least-by line [] k = refl
least-by line (x ∷ xs) k = ap (λ b. nat_le (line x) k || b) (least-by line xs k) ∙ sym (by-lesser (Some (line x)) (least_line_of (λ y. Some (line y)) xs) k)

-- lines that are by the same lines are the same
same-by : (a b : Option ℕ) → ((k : ℕ) → is_by a k ≡ is_by b k) → a ≡ b
same-by None None h = refl
same-by None (Some l) h = let p : nat_le l l ≡ true = grind (arith, nat_tests) in absurd (true≢false (sym (h l ∙ p)))
same-by (Some k) None h = let p : nat_le k k ≡ true = grind (arith, nat_tests) in absurd (true≢false (sym p ∙ h k))
same-by (Some k) (Some l) h =
    let p : nat_le k l ≡ true = h l ∙ grind (arith, nat_tests) in
    let q : nat_le l k ≡ true = sym (h k) ∙ grind (arith, nat_tests) in
    let e : k ≡ l = grind (arith, nat_tests, p, q) in
    ap Some e

-- the first of such violations, by their lines
first-by-lines : (S : ℕ → Type 0) (n : ℕ) (vs : Violations) → Plain S n vs → first_of vs ≡ reported n (least_line_of (λ (v : Violation). Some v.line) vs)
first-by-lines S n [] h = refl
first-by-lines S n (v ∷ vs) h =
    (λ i. first_of_two (Some ((h v (contains-here v vs)).0 i)) (first-by-lines S n vs (λ w c. h w (contains-more w v vs c)) i))
    ∙ first_of_two-reported n (Some v.line) (least_line_of (λ (w : Violation). Some w.line) vs)

-- tests that are true of the same things are the same
same-true : (a b : Bool) → (a ≡ true → b ≡ true) → (b ≡ true → a ≡ true) → a ≡ b
same-true true b h k = sym (h refl)
same-true false true h k = k refl
same-true false false h k = refl

-- a set that has the lines of violations has what each test of a line finds among them
set-told : (ks : List ℕ) (vs : Violations) → ((line : ℕ) → list_any (nat_eq line) ks ≡ has_line vs line) → (test : ℕ → Bool)
    → list_any test ks ≡ list_any (λ (v : Violation). test v.line) vs
set-told ks vs h test =
    same-true (list_any test ks) (list_any (λ (v : Violation). test v.line) vs)
    (λ e. any-within test ks e
    (λ k c t. any-within (λ (v : Violation). nat_eq v.line k) vs (sym (h k) ∙ contained-any (nat_eq k) ks k c (same k))
    (λ v d f. contained-any (λ (w : Violation). test w.line) vs v d (ap test (eqb-true v.line k f) ∙ t))))
    (λ e. any-within (λ (v : Violation). test v.line) vs e
    (λ v c t. any-within (nat_eq v.line) ks (h v.line ∙ contained-any (λ (w : Violation). nat_eq w.line v.line) vs v c (same v.line))
    (λ k d f. contained-any test ks k d (ap test (sym (eqb-true v.line k f)) ∙ t))))
  where
    same : (n : ℕ) → nat_eq n n ≡ true
    same n = grind (arith, nat_tests)

-- the least line of a set that has the lines of such violations is that of the first
pub first-in-set : (S : ℕ → Type 0) (n : ℕ) (vs : Violations) (ks : List ℕ) → Plain S n vs → ((line : ℕ) → list_any (nat_eq line) ks ≡ has_line vs line)
    → reported n (least_line_of (λ (line : ℕ). Some line) ks) ≡ first_of vs
first-in-set S n vs ks plain h =
    let same =
    same-by (least_line_of (λ (line : ℕ). Some line) ks) (least_line_of (λ (v : Violation). Some v.line) vs)
    (λ k. sym (least-by (λ line. line) ks k) ∙ (set-told ks vs h (λ line. nat_le line k) ∙ least-by (λ (v : Violation). v.line) vs k)) in
    ap (reported n) same ∙ sym (first-by-lines S n vs plain)
