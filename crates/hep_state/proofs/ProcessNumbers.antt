-- Which stack has a number among the processes that are kept: once one of them is another, once there is one more, and where those are left of
-- which something is left.
use Rattle.std.proofs.Common.{◌≡◌, ◌≢◌, ◌⊎◌, ℕ, zero, suc, ◌+◌, ◌-◌, ◌<◌, ◌≤◌, ◌||◌, Bool, true, false, true≢false, List, [], ◌∷◌, ◌++◌, length, map, reverse, Some, None, refl, sym, ap, ◌∙◌, inl, inr, arith, if◌then◌else◌, nat_eq, slice_get, slice_set, vec_len}
use Rattle.std.specs.List.{filter}
use Rattle.std.proofs.lemmas.Bool.{cases_Bool, cases_eq, eq-eqb, ne_eqb}
use Rattle.std.proofs.lemmas.Bool.Decides.{nat_tests}
use Rattle.std.proofs.lemmas.Option.{none-some, same_Some, slice_get_past, slice_get_within}
use Rattle.hep_machine.specs.Words.{is_number_among, numbered, with_numbered}
use Rattle.hep_proc.specs.declared.process.Process.{Process}
use Rattle.hep_proc.specs.Stacks.{Stack, is_left, no_stack, stack_of}
use Rattle.hep_blocked.specs.Numbers.{AreRising}
use Rattle.hep_state.specs.Words.{numbers_of, stack_numbered, stacks_from, stacks_of}

-- ---- elements by their numbers

-- what a mapped list has under a number
pub numbered-mapped : {A B : Type 0} (f : A → B) (xs : List A) (p : ℕ) (y : B) → numbered (map f xs) p ≡ Some y → (x : A) × (numbered xs p ≡ Some x) × (f x ≡ y)
numbered-mapped f xs zero y e = absurd (none-some y e)
numbered-mapped f [] (suc i) y e = absurd (none-some y e)
numbered-mapped f (x ∷ xs) (suc zero) y e = (x, refl, same_Some (f x) y e)
numbered-mapped f (x ∷ xs) (suc (suc i)) y e = numbered-mapped f xs (suc i) y e

-- ---- numbers that rise

pub number-within : (least greatest : ℕ) (qs : List Process) (i : ℕ) (q : Process) → AreRising least greatest (numbers_of qs) → slice_get qs i ≡ Some q → (least ≤ q.number) × (q.number ≤ greatest)
number-within least greatest [] i q rise e = absurd (none-some q e)
number-within least greatest (x ∷ xs) zero q rise e =
    let same = ap (λ (z : Process). z.number) (same_Some x q e) in
    (omega (arith, same, rise.0), omega (arith, same, rise.1))
number-within least greatest (x ∷ xs) (suc i) q rise e =
    let rest = number-within (x.number + 1) greatest xs i q rise.2 e in
    (omega (arith, rise.0, rest.0), rest.1)

-- a number has one place
pub one-place : (least greatest : ℕ) (qs : List Process) (i j : ℕ) (q r : Process) → AreRising least greatest (numbers_of qs) → slice_get qs i ≡ Some q → slice_get qs j ≡ Some r → q.number ≡ r.number → i ≡ j
one-place least greatest [] i j q r rise e f same = absurd (none-some q e)
one-place least greatest (x ∷ xs) zero zero q r rise e f same = refl
one-place least greatest (x ∷ xs) zero (suc j) q r rise e f same =
    let first = ap (λ (z : Process). z.number) (same_Some x q e) in
    absurd (omega (arith, first, same, (number-within (x.number + 1) greatest xs j r rise.2 f).0))
one-place least greatest (x ∷ xs) (suc i) zero q r rise e f same =
    let first = ap (λ (z : Process). z.number) (same_Some x r f) in
    absurd (omega (arith, first, same, (number-within (x.number + 1) greatest xs i q rise.2 e).0))
one-place least greatest (x ∷ xs) (suc i) (suc j) q r rise e f same = ap suc (one-place (x.number + 1) greatest xs i j q r rise.2 e f same)

rise-lower : (low least greatest : ℕ) (ns : List ℕ) → AreRising least greatest ns → low ≤ least → AreRising low greatest ns
rise-lower low least greatest [] rise le = tt
rise-lower low least greatest (n ∷ ns) rise le = (omega (arith, rise.0, le), rise.1, rise.2)

-- ---- the stack of a number

stack-below : (p least greatest : ℕ) (qs : List Process) → AreRising least greatest (numbers_of qs) → p < least → stack_numbered qs p ≡ no_stack
stack-below p least greatest [] rise low = refl
stack-below p least greatest (q ∷ qs) rise low =
    rw (ne_eqb p q.number (λ e. omega (arith, e, rise.0, low))) (stack-below p (q.number + 1) greatest qs rise.2 (omega (arith, rise.0, low)))

-- that of the process which is kept with it
pub stack-found : (p least greatest : ℕ) (qs : List Process) (i : ℕ) (q : Process) → AreRising least greatest (numbers_of qs) → slice_get qs i ≡ Some q → q.number ≡ p → stack_numbered qs p ≡ stack_of q
stack-found p least greatest [] i q rise e is = absurd (none-some q e)
stack-found p least greatest (x ∷ xs) zero q rise e is =
    let same = same_Some x q e in
    rw (eq-eqb p x.number (sym (ap (λ (z : Process). z.number) same ∙ is))) (ap stack_of same)
stack-found p least greatest (x ∷ xs) (suc i) q rise e is =
    let above = (number-within (x.number + 1) greatest xs i q rise.2 e).0 in
    rw (ne_eqb p x.number (λ same. omega (arith, same, is, above))) (stack-found p (x.number + 1) greatest xs i q rise.2 e is)

-- where none is kept with it
pub stack-absent : (p : ℕ) (qs : List Process) → is_number_among p (numbers_of qs) ≡ false → stack_numbered qs p ≡ no_stack
stack-absent p [] none = refl
stack-absent p (q ∷ qs) none = elim (cases_Bool (nat_eq p q.number)) [
  | inl is ↦ absurd (true≢false (sym (ap (λ (b : Bool). b || is_number_among p (numbers_of qs)) is) ∙ none))
  | inr other ↦ rw other (stack-absent p qs (sym (ap (λ (b : Bool). b || is_number_among p (numbers_of qs)) other) ∙ none))
]

-- a stack of which nothing is left, or that of a process that is kept
abbrev pub IsFrom : List Process → Stack → Type 0
IsFrom qs k = (k ≡ no_stack) ⊎ ((j : ℕ) × (q : Process) × (slice_get qs j ≡ Some q) × (k ≡ stack_of q))

from-behind : (x : Process) (qs : List Process) (k : Stack) → IsFrom qs k → IsFrom (x ∷ qs) k
from-behind x qs k (inl none) = inl none
from-behind x qs k (inr found) = inr (suc found.0, found.1, found.2, found.3)

from-either : (x : Process) (qs : List Process) (k : Stack) (b : Bool) → IsFrom qs k → IsFrom (x ∷ qs) (if b then stack_of x else k)
from-either x qs k true from = inr (0, x, refl, refl)
from-either x qs k false from = from-behind x qs k from

pub stack-from : (qs : List Process) (p : ℕ) → IsFrom qs (stack_numbered qs p)
stack-from [] p = inl refl
stack-from (q ∷ qs) p = from-either q qs (stack_numbered qs p) (nat_eq p q.number) (stack-from qs p)

-- ---- the list of stacks

pub length-stacks : (qs : List Process) (n k : ℕ) → length (stacks_from qs n k) ≡ k
length-stacks qs n zero = refl
length-stacks qs n (suc k) = ap suc (length-stacks qs (suc n) k)

pub stack-got : (qs : List Process) (n k i : ℕ) → i < k → slice_get (stacks_from qs n k) i ≡ Some (stack_numbered qs (n + i))
stack-got qs n zero i h = absurd (omega (arith, h))
stack-got qs n (suc k) zero h = let same : n ≡ n + 0 = omega arith in ap (λ m. Some (stack_numbered qs m)) same
stack-got qs n (suc k) (suc i) h =
    let same : suc n + i ≡ n + suc i = omega arith in
    stack-got qs (suc n) k i (omega (arith, h)) ∙ ap (λ m. Some (stack_numbered qs m)) same

pub numbered-stack : (qs : List Process) (made p : ℕ) → 1 ≤ p → p ≤ made → numbered (stacks_of qs made) p ≡ Some (stack_numbered qs p)
numbered-stack qs made zero some within = absurd (omega (arith, some))
numbered-stack qs made (suc i) some within =
    let same : 1 + i ≡ suc i = omega arith in
    stack-got qs 1 made i (omega (arith, within)) ∙ ap (λ m. Some (stack_numbered qs m)) same

pub numbered-past : (qs : List Process) (made p : ℕ) → made < p → numbered (stacks_of qs made) p ≡ None
numbered-past qs made zero past = absurd (omega (arith, past))
numbered-past qs made (suc i) past = slice_get_past (stacks_of qs made) i (omega (arith, past, length-stacks qs 1 made))

pub numbered-there : (qs : List Process) (made p : ℕ) (k : Stack) → numbered (stacks_of qs made) p ≡ Some k → (1 ≤ p) × (p ≤ made) × (stack_numbered qs p ≡ k)
numbered-there qs made zero k e = absurd (none-some k e)
numbered-there qs made (suc i) k e =
    let within : i < made = omega (arith, slice_get_within (stacks_of qs made) i k e, length-stacks qs 1 made) in
    (omega arith, omega (arith, within), same_Some (stack_numbered qs (suc i)) k (sym (numbered-stack qs made (suc i) (omega arith) (omega (arith, within))) ∙ e))

-- the same stacks
pub stacks-alike : (qs rs : List Process) (n k : ℕ) → ((m : ℕ) → n ≤ m → m < n + k → stack_numbered rs m ≡ stack_numbered qs m) → stacks_from rs n k ≡ stacks_from qs n k
stacks-alike qs rs n zero same = refl
stacks-alike qs rs n (suc k) same =
    let first : stack_numbered rs n ≡ stack_numbered qs n = same n (omega arith) (omega arith) in
    let rest : stacks_from rs (suc n) k ≡ stacks_from qs (suc n) k = stacks-alike qs rs (suc n) k (λ m from below. same m (omega (arith, from)) (omega (arith, below))) in
    λ i. first i ∷ rest i

-- ---- one is another

pub numbers-set : (qs : List Process) (i : ℕ) (q r : Process) → slice_get qs i ≡ Some q → r.number ≡ q.number → numbers_of (slice_set qs i r) ≡ numbers_of qs
numbers-set [] i q r e same = refl
numbers-set (x ∷ xs) zero q r e same = ap (λ n. n ∷ numbers_of xs) (same ∙ ap (λ (z : Process). z.number) (sym (same_Some x q e)))
numbers-set (x ∷ xs) (suc i) q r e same = ap (λ ns. x.number ∷ ns) (numbers-set xs i q r e same)

stack-set : (p least greatest : ℕ) (qs : List Process) (i : ℕ) (q r : Process) → AreRising least greatest (numbers_of qs) → slice_get qs i ≡ Some q → q.number ≡ p → r.number ≡ p
    → (m : ℕ) → stack_numbered (slice_set qs i r) m ≡ (if nat_eq m p then stack_of r else stack_numbered qs m)
stack-set p least greatest [] i q r rise e was is m = absurd (none-some q e)
stack-set p least greatest (x ∷ xs) zero q r rise e was is m =
    let first : x.number ≡ p = ap (λ (z : Process). z.number) (same_Some x q e) ∙ was in
    elim (cases_eq m p) [
      | inl own ↦ rw (eq-eqb m p own, eq-eqb m r.number (own ∙ sym is)) refl
      | inr other ↦ rw (ne_eqb m p other, ne_eqb m r.number (λ same. other (same ∙ is)), ne_eqb m x.number (λ same. other (same ∙ first))) refl
    ]
stack-set p least greatest (x ∷ xs) (suc i) q r rise e was is m =
    let above = (number-within (x.number + 1) greatest xs i q rise.2 e).0 in
    elim (cases_eq m x.number) [
      | inl first ↦ rw (eq-eqb m x.number first, ne_eqb m p (λ same. omega (arith, same, first, was, above))) refl
      | inr other ↦ rw (ne_eqb m x.number other) (stack-set p (x.number + 1) greatest xs i q r rise.2 e was is m)
    ]

stacks-with : (qs rs : List Process) (p : ℕ) (k : Stack) → ((m : ℕ) → stack_numbered rs m ≡ (if nat_eq m p then k else stack_numbered qs m)) → (n c j : ℕ) → n + j ≡ p → stacks_from rs n c ≡ slice_set (stacks_from qs n c) j k
stacks-with qs rs p k told n zero j is = refl
stacks-with qs rs p k told n (suc c) zero is =
    let own : (if nat_eq n p then k else stack_numbered qs n) ≡ k = rw (eq-eqb n p (omega (arith, is))) refl in
    let first : stack_numbered rs n ≡ k = told n ∙ own in
    let rest : stacks_from rs (suc n) c ≡ stacks_from qs (suc n) c = stacks-alike qs rs (suc n) c (λ m from below. told m ∙ other m (λ same. omega (arith, same, is, from))) in
    λ i. first i ∷ rest i
  where
    other : (m : ℕ) → m ≢ p → (if nat_eq m p then k else stack_numbered qs m) ≡ stack_numbered qs m
    other m ne = rw (ne_eqb m p ne) refl
stacks-with qs rs p k told n (suc c) (suc j) is =
    let own : (if nat_eq n p then k else stack_numbered qs n) ≡ stack_numbered qs n = rw (ne_eqb n p (λ same. omega (arith, same, is))) refl in
    let first : stack_numbered rs n ≡ stack_numbered qs n = told n ∙ own in
    let rest = stacks-with qs rs p k told (suc n) c j (omega (arith, is)) in
    λ i. first i ∷ rest i

pub set-stacks : (qs : List Process) (made p i : ℕ) (q r : Process) (k : Stack) → AreRising 1 made (numbers_of qs) → slice_get qs i ≡ Some q → q.number ≡ p → r.number ≡ p → stack_of r ≡ k
    → stacks_of (slice_set qs i r) made ≡ with_numbered (stacks_of qs made) p k
set-stacks qs made p i q r k rise e was is same =
    let some : 1 ≤ p = omega (arith, was, (number-within 1 made qs i q rise e).0) in
    stacks-with qs (slice_set qs i r) p k (λ m. stack-set p 1 made qs i q r rise e was is m ∙ ap (λ (s : Stack). if nat_eq m p then s else stack_numbered qs m) same) 1 made (p - 1) (omega (arith, some))

-- ---- there is one more

stack-more : (least greatest : ℕ) (qs : List Process) (r : Process) → AreRising least greatest (numbers_of qs) → greatest < r.number → (m : ℕ) → stack_numbered (qs ++ r ∷ []) m ≡ (if nat_eq m r.number then stack_of r else stack_numbered qs m)
stack-more least greatest [] r rise high m = refl
stack-more least greatest (x ∷ xs) r rise high m = elim (cases_eq m x.number) [
  | inl first ↦ rw (eq-eqb m x.number first, ne_eqb m r.number (λ same. omega (arith, same, first, rise.1, high))) refl
  | inr other ↦ rw (ne_eqb m x.number other) (stack-more (x.number + 1) greatest xs r rise.2 high m)
]

stacks-last : (qs : List Process) (n c : ℕ) → stacks_from qs n (suc c) ≡ stacks_from qs n c ++ stack_numbered qs (n + c) ∷ []
stacks-last qs n zero = let same : n ≡ n + 0 = omega arith in ap (λ m. stack_numbered qs m ∷ []) same
stacks-last qs n (suc c) =
    let same : suc n + c ≡ n + suc c = omega arith in
    ap (λ (ks : List Stack). stack_numbered qs n ∷ ks) (stacks-last qs (suc n) c ∙ ap (λ m. stacks_from qs (suc n) c ++ stack_numbered qs m ∷ []) same)

pub more-stacks : (qs : List Process) (made : ℕ) (r : Process) (k : Stack) → AreRising 1 made (numbers_of qs) → r.number ≡ made + 1 → stack_of r ≡ k → stacks_of (qs ++ r ∷ []) (made + 1) ≡ stacks_of qs made ++ k ∷ []
more-stacks qs made r k rise is same =
    let next : made + 1 ≡ suc made = omega arith in
    let all = stack-more 1 made qs r rise (omega (arith, is)) in
    let alike : stacks_of (qs ++ r ∷ []) made ≡ stacks_of qs made = stacks-alike qs (qs ++ r ∷ []) 1 made (λ m from below. all m ∙ other m (λ e. omega (arith, e, is, below))) in
    let own : (if nat_eq (1 + made) r.number then stack_of r else stack_numbered qs (1 + made)) ≡ stack_of r = rw (eq-eqb (1 + made) r.number (omega (arith, is))) refl in
    let last : stack_numbered (qs ++ r ∷ []) (1 + made) ≡ k = all (1 + made) ∙ (own ∙ same) in
    ap (stacks_of (qs ++ r ∷ [])) next ∙ (stacks-last (qs ++ r ∷ []) 1 made ∙ (λ i. alike i ++ last i ∷ []))
  where
    other : (m : ℕ) → m ≢ r.number → (if nat_eq m r.number then stack_of r else stack_numbered qs m) ≡ stack_numbered qs m
    other m ne = rw (ne_eqb m r.number ne) refl

pub numbers-more : (least greatest : ℕ) (qs : List Process) (r : Process) → AreRising least greatest (numbers_of qs) → least ≤ r.number → greatest < r.number → AreRising least r.number (numbers_of (qs ++ r ∷ []))
numbers-more least greatest [] r rise from high = (from, omega arith, tt)
numbers-more least greatest (x ∷ xs) r rise from high =
    (rise.0, omega (arith, rise.1, high), numbers-more (x.number + 1) greatest xs r rise.2 (omega (arith, rise.1, high)) high)

-- ---- those of which something is left

nothing-left : (q : Process) → is_left q ≡ false → stack_of q ≡ no_stack
nothing-left q none =
    let levels : vec_len q.levels ≡ 0 = grind (arith, nat_tests, none) in
    let operands : vec_len q.operands ≡ 0 = grind (arith, nat_tests, none) in
    let pending : vec_len q.pending ≡ 0 = grind (arith, nat_tests, none) in
    let no_levels = empty q.levels.items (sym q.levels.ok.0 ∙ levels) in
    let no_operands = empty q.operands.items (sym q.operands.ok.0 ∙ operands) in
    let no_pending = empty q.pending.items (sym q.pending.ok.0 ∙ pending) in
    λ i. record { levels = reverse (no_levels i); operands = no_operands i; pending = no_pending i }
  where
    empty : {A : Type 0} (xs : List A) → length xs ≡ 0 → xs ≡ []
    empty [] e = refl
    empty (x ∷ xs) e = absurd (omega (arith, e))

left-step : (x : Process) (xs : List Process) (greatest m : ℕ) (b : Bool) → is_left x ≡ b → AreRising (x.number + 1) greatest (numbers_of xs) → stack_numbered (filter is_left xs) m ≡ stack_numbered xs m
    → stack_numbered (if b then x ∷ filter is_left xs else filter is_left xs) m ≡ stack_numbered (x ∷ xs) m
left-step x xs greatest m true left rise rest = ap (λ (k : Stack). if nat_eq m x.number then stack_of x else k) rest
left-step x xs greatest m false none rise rest = elim (cases_eq m x.number) [
  | inl own ↦ rw (eq-eqb m x.number own) (rest ∙ (stack-below m (x.number + 1) greatest xs rise (omega (arith, own)) ∙ sym (nothing-left x none)))
  | inr other ↦ rw (ne_eqb m x.number other) rest
]

pub stack-left : (least greatest : ℕ) (qs : List Process) → AreRising least greatest (numbers_of qs) → (m : ℕ) → stack_numbered (filter is_left qs) m ≡ stack_numbered qs m
stack-left least greatest [] rise m = refl
stack-left least greatest (x ∷ xs) rise m = left-step x xs greatest m (is_left x) refl rise.2 (stack-left (x.number + 1) greatest xs rise.2 m)

numbers-step : (x : Process) (xs : List Process) (least greatest : ℕ) (b : Bool) → least ≤ x.number → x.number ≤ greatest → AreRising (x.number + 1) greatest (numbers_of (filter is_left xs))
    → AreRising least greatest (numbers_of (if b then x ∷ filter is_left xs else filter is_left xs))
numbers-step x xs least greatest true from to rest = (from, to, rest)
numbers-step x xs least greatest false from to rest = rise-lower least (x.number + 1) greatest (numbers_of (filter is_left xs)) rest (omega (arith, from))

pub numbers-left : (least greatest : ℕ) (qs : List Process) → AreRising least greatest (numbers_of qs) → AreRising least greatest (numbers_of (filter is_left qs))
numbers-left least greatest [] rise = tt
numbers-left least greatest (x ∷ xs) rise = numbers-step x xs least greatest (is_left x) rise.0 rise.1 (numbers-left (x.number + 1) greatest xs rise.2)

pub left-stacks : (qs : List Process) (made : ℕ) → AreRising 1 made (numbers_of qs) → stacks_of (filter is_left qs) made ≡ stacks_of qs made
left-stacks qs made rise = stacks-alike qs (filter is_left qs) 1 made (λ m from below. stack-left 1 made qs rise m)

-- each of them was there
abbrev pub WasThere : List Process → Process → Type 0
WasThere qs q = (j : ℕ) × (slice_get qs j ≡ Some q)

got-step : (x : Process) (xs ys : List Process) (q : Process) (b : Bool) → ((i : ℕ) → slice_get ys i ≡ Some q → WasThere xs q) → (i : ℕ) → slice_get (if b then x ∷ ys else ys) i ≡ Some q → WasThere (x ∷ xs) q
got-step x xs ys q true rest zero e = (0, e)
got-step x xs ys q true rest (suc i) e = let back = rest i e in (suc back.0, back.1)
got-step x xs ys q false rest i e = let back = rest i e in (suc back.0, back.1)

pub got-left : (qs : List Process) (i : ℕ) (q : Process) → slice_get (filter is_left qs) i ≡ Some q → WasThere qs q
got-left [] i q e = absurd (none-some q e)
got-left (x ∷ xs) i q e = got-step x xs (filter is_left xs) q (is_left x) (λ k f. got-left xs k q f) i e

-- a number that an element has is at least 1
pub from-one : {A : Type 0} (xs : List A) (p : ℕ) (x : A) → numbered xs p ≡ Some x → 1 ≤ p
from-one xs zero x e = absurd (none-some x e)
from-one xs (suc i) x e = omega arith

-- and at most the length of the list
pub within-number : {A : Type 0} (xs : List A) (p : ℕ) (x : A) → numbered xs p ≡ Some x → p ≤ length xs
within-number xs zero x e = omega arith
within-number xs (suc i) x e = omega (arith, slice_get_within xs i x e)
