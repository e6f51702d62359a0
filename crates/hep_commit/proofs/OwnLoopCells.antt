-- Own cells have those of each DO that stands ahead, and those of private scalars.
use Rattle.std.proofs.Common.{◌≡◌, ℕ, zero, suc, Bool, true, false, ◌||◌, nat_eq, if◌then◌else◌, List, [], ◌∷◌, ◌++◌, drop, Option, Some, None, refl, sym, ap, ◌∙◌, subst, append_assoc, arith, eq-eqb}
use Rattle.std.proofs.lemmas.Bool.Decides.{nat_tests}
use Rattle.std.proofs.lemmas.Option.{none-some, same_Some}
use Rattle.hep_machine.specs.Words.{is_number_among}
use Rattle.hep_code.specs.declared.instruction.Instruction.{Instruction}
use Rattle.hep_code.specs.declared.instruction.Instruction.TheVariants.{Step}
use Rattle.hep_code.specs.declared.instruction.Operation.{Operation}
use Rattle.hep_code.specs.declared.instruction.Operation.TheVariants.{EnterLoop, EndLoop}
use Rattle.hep_commit.specs.UndoneStores.{HasLoopAhead, HasLoopIn}
use Rattle.hep_commit.specs.OwnCells.{cells_of_loop, is_loop, last_loop, loop_cells_behind, own_cells_in}
use Rattle.std.proofs.Math.Seq.{drop-nil}
use Rattle.hep_source.proofs.Tests.{or-true}
use Rattle.hep_private.specs.PrivateCode.{loop_at}

-- ---- lists of numbers

pub among-left : (c : ℕ) (xs ys : List ℕ) → is_number_among c xs ≡ true → is_number_among c (xs ++ ys) ≡ true
among-left c [] ys e = absurd cc
among-left c (x ∷ xs) ys e = by_test (nat_eq c x) e (among-left c xs ys) where
  by_test : (b : Bool) → (b || is_number_among c xs) ≡ true → (is_number_among c xs ≡ true → is_number_among c (xs ++ ys) ≡ true) → (b || is_number_among c (xs ++ ys)) ≡ true
  by_test true e rest = refl
  by_test false e rest = rest e

pub among-right : (c : ℕ) (xs ys : List ℕ) → is_number_among c ys ≡ true → is_number_among c (xs ++ ys) ≡ true
among-right c [] ys e = e
among-right c (x ∷ xs) ys e = by_test (nat_eq c x) (among-right c xs ys e) where
  by_test : (b : Bool) → is_number_among c (xs ++ ys) ≡ true → (b || is_number_among c (xs ++ ys)) ≡ true
  by_test true rest = refl
  by_test false rest = rest

-- ---- the cells of a DO

-- both cells of a DO are among these
abbrev pub HasBoth : List ℕ → ℕ → Type 0
HasBoth cells d = (is_number_among d cells ≡ true) × (is_number_among (suc d) cells ≡ true)

both-left : (xs ys : List ℕ) (d : ℕ) → HasBoth xs d → HasBoth (xs ++ ys) d
both-left xs ys d h = (among-left d xs ys h.0, among-left (suc d) xs ys h.1)

both-right : (xs ys : List ℕ) (d : ℕ) → HasBoth ys d → HasBoth (xs ++ ys) d
both-right xs ys d h = (among-right d xs ys h.0, among-right (suc d) xs ys h.1)

-- the last DO has them among these
abbrev HasLast : List ℕ → Option ℕ → Type 0
HasLast before last = (d : ℕ) → last ≡ Some d → HasBoth before d

last-is : (last : Option ℕ) (d : ℕ) → is_loop last d ≡ true → last ≡ Some d
last-is None d e = absurd cc
last-is (Some f) d e = let same : f ≡ d = grind (arith, nat_tests, e) in ap (λ n. Some n) same

new-has : (d : ℕ) → HasBoth (d ∷ suc d ∷ []) d
new-has d = (ap (λ b. b || is_number_among d (suc d ∷ [])) (eq-eqb d d refl), ap (λ b. nat_eq (suc d) d || (b || false)) (eq-eqb (suc d) (suc d) refl) ∙ or-true (nat_eq (suc d) d))

loop-has : (before : List ℕ) (last : Option ℕ) (d : ℕ) → HasLast before last → HasBoth (before ++ cells_of_loop last (Some d)) d
loop-has before last d h = by_test (is_loop last d) refl where
  by_test : (b : Bool) → is_loop last d ≡ b → HasBoth (before ++ (if b then [] else d ∷ suc d ∷ [])) d
  by_test true e = both-left before [] d (h d (last-is last d e))
  by_test false e = both-right before (d ∷ suc d ∷ []) d (new-has d)

last-has : (before : List ℕ) (last found : Option ℕ) → HasLast before last → HasLast (before ++ cells_of_loop last found) (last_loop last found)
last-has before last None h d e = both-left before [] d (h d e)
last-has before last (Some f) h d e = subst (HasBoth (before ++ cells_of_loop last (Some f))) (same_Some f d e) (loop-has before last f h)

-- ---- one that stands ahead

in-front : (before : List ℕ) (last : Option ℕ) (o : Operation) (line : ℕ) (rest : List ℕ) → HasLast before last → HasLoopIn (before ++ (cells_of_loop last (loop_at (Step line o)) ++ rest)) o
in-front before last (EnterLoop x d inside behind) line rest h =
    subst (λ cells. HasBoth cells d) (append_assoc before (cells_of_loop last (Some d)) rest) (both-left (before ++ cells_of_loop last (Some d)) rest d (loop-has before last d h))
in-front before last (EndLoop x d inside behind) line rest h =
    subst (λ cells. HasBoth cells d) (append_assoc before (cells_of_loop last (Some d)) rest) (both-left (before ++ cells_of_loop last (Some d)) rest d (loop-has before last d h))
in-front before last _ line rest h = tt

front-ahead : (before : List ℕ) (last : Option ℕ) (i : Instruction) (is : List Instruction) (rest : List ℕ) → HasLast before last → HasLoopAhead (before ++ (cells_of_loop last (loop_at i) ++ rest)) (i ∷ is)
front-ahead before last (Step line o) is rest h = in-front before last o line rest h
front-ahead before last _ is rest h = tt

loops-ahead : (before : List ℕ) (last : Option ℕ) (code : List Instruction) → HasLast before last → (i : ℕ) → HasLoopAhead (before ++ loop_cells_behind last code) (drop i code)
loops-ahead before last [] h i = subst (HasLoopAhead (before ++ [])) (sym (drop-nil i)) tt
loops-ahead before last (x ∷ xs) h zero = front-ahead before last x xs (loop_cells_behind (last_loop last (loop_at x)) xs) h
loops-ahead before last (x ∷ xs) h (suc i) =
    subst (λ cells. HasLoopAhead cells (drop i xs)) (append_assoc before (cells_of_loop last (loop_at x)) (loop_cells_behind (last_loop last (loop_at x)) xs)) (
    loops-ahead (before ++ cells_of_loop last (loop_at x)) (last_loop last (loop_at x)) xs (last-has before last (loop_at x) h) i)

-- ---- own cells

pub own-loops : (private : List ℕ) (code : List Instruction) (i : ℕ) → HasLoopAhead (own_cells_in private code) (drop i code)
own-loops private code i = loops-ahead private None code (λ d e. absurd (none-some d e)) i

pub own-private : (private : List ℕ) (code : List Instruction) (c : ℕ) → is_number_among c private ≡ true → is_number_among c (own_cells_in private code) ≡ true
own-private private code c e = among-left c private (loop_cells_behind None code) e
