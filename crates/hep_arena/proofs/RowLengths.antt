-- Holes by the number of each cell: what is read of the numbers, and what a write to one of them makes of the holes.
use Rattle.std.proofs.lemmas.Bool.{cond_both, cases_Bool}
use Rattle.std.proofs.Common.{◌≡◌, ◌⊎◌, inl, inr, ℕ, zero, suc, ◌+◌, ◌<◌, ◌≤◌, List, [], ◌∷◌, length, replicate, take, set, Option, Some, None, slice_get, refl, sym, subst, ◌∙◌, arith, if◌then◌else◌, nat_eq, nat_lt}
use Rattle.std.proofs.lemmas.Bool.Decides.{nat_tests}
use Rattle.std.proofs.lemmas.Option.{same_Some, none-some}
use Rattle.hep_arena.specs.Places.{first_from, last_from}
use Rattle.hep_arena.specs.Holes.{Hole, AreHoles, first_fit}
use Rattle.hep_arena.specs.Lengths.{holes_from, start_at}

-- ---- where holes begin

-- how many cells the hole has that begins at an index, 0 where none begins there
abbrev pub length_at : ℕ → List Hole → ℕ
length_at at [] = 0
length_at at (h ∷ hs) = if nat_eq h.0 at then h.1 else length_at at hs

-- the first hole doesn't begin below an index
abbrev pub BeginFrom : ℕ → List Hole → Type 0
BeginFrom low [] = Unit {0}
BeginFrom low (h ∷ hs) = low ≤ h.0

holes-begin : (k low : ℕ) (xs : List ℕ) → low ≤ k → BeginFrom low (holes_from k xs)
holes-begin k low [] le = tt
holes-begin k low (x ∷ xs) le = cond_both (nat_lt 0 x) ((k, x) ∷ holes_from (suc k) xs) (holes_from (suc k) xs) (BeginFrom low) (λ e. le) (λ e. holes-begin (suc k) low xs (omega arith))

pub length-first : (h : Hole) (hs : List Hole) → length_at h.0 (h ∷ hs) ≡ h.1
length-first h hs = grind (arith, nat_tests)

pub length-next : (at : ℕ) (h : Hole) (hs : List Hole) → (h.0 ≡ at → ⊥) → length_at at (h ∷ hs) ≡ length_at at hs
length-next at h hs other = grind (arith, nat_tests)

pub length-below : (at low high : ℕ) (hs : List Hole) → AreHoles low high hs → at < low → length_at at hs ≡ 0
length-below at low high [] t less = refl
length-below at low high (h ∷ hs) t less = grind (arith, nat_tests, t.0, length-below at (h.0 + h.1 + 1) high hs t.3)

-- a hole ends where the cells do, at the most
pub length-fits : (at low high : ℕ) (hs : List Hole) → AreHoles low high hs → at ≤ high → at + length_at at hs ≤ high
length-fits at low high [] t le = omega arith
length-fits at low high (h ∷ hs) t le = grind (arith, nat_tests, t.2, length-fits at (h.0 + h.1 + 1) high hs t.3 le)

-- ---- where holes end

pub start-first : (at : ℕ) (h : Hole) (hs : List Hole) → h.0 + h.1 ≡ at → start_at at (h ∷ hs) ≡ h.0
start-first at h hs e = grind (arith, nat_tests)

pub start-next : (at : ℕ) (h : Hole) (hs : List Hole) → (h.0 + h.1 ≡ at → ⊥) → start_at at (h ∷ hs) ≡ start_at at hs
start-next at h hs other = grind (arith, nat_tests)

pub start-below : (at low high : ℕ) (hs : List Hole) → AreHoles low high hs → at < low → start_at at hs ≡ at
start-below at low high [] t less = refl
start-below at low high (h ∷ hs) t less = grind (arith, nat_tests, t.0, start-below at (h.0 + h.1 + 1) high hs t.3)

pub start-from : (at low high : ℕ) (hs : List Hole) → AreHoles low high hs → low ≤ at → (low ≤ start_at at hs) × (start_at at hs ≤ at)
start-from at low high [] t le = (le, omega arith)
start-from at low high (h ∷ hs) t le =
    let more : h.0 + h.1 + 1 ≤ at → (h.0 + h.1 + 1 ≤ start_at at hs) × (start_at at hs ≤ at) = start-from at (h.0 + h.1 + 1) high hs t.3 in
    let below = start-below at (h.0 + h.1 + 1) high hs t.3 in
    (grind (arith, nat_tests, t.0, more, below), grind (arith, nat_tests, t.0, more, below))

-- ---- a write

abbrev pub fronted : ℕ → ℕ → List Hole → List Hole
fronted at n hs = if nat_lt 0 n then (at, n) ∷ hs else hs

-- the holes once the number at an index is n
abbrev pub numbered : ℕ → ℕ → List Hole → List Hole
numbered at n [] = fronted at n []
numbered at n (h ∷ hs) = if nat_lt at h.0 then fronted at n (h ∷ hs) else (if nat_eq at h.0 then fronted at n hs else h ∷ numbered at n hs)

pub numbered-front : (at n : ℕ) (hs : List Hole) → BeginFrom (suc at) hs → numbered at n hs ≡ fronted at n hs
numbered-front at n [] t = refl
numbered-front at n (h ∷ hs) t = grind (arith, nat_tests)

pub numbered-first : (at n : ℕ) (h : Hole) (hs : List Hole) → at ≡ h.0 → numbered at n (h ∷ hs) ≡ fronted at n hs
numbered-first at n h hs e = grind (arith, nat_tests)

pub numbered-next : (at n : ℕ) (h : Hole) (hs : List Hole) → h.0 < at → numbered at n (h ∷ hs) ≡ h ∷ numbered at n hs
numbered-next at n h hs less = grind (arith, nat_tests)

pub holes-set : (k i at n : ℕ) (xs : List ℕ) → k + i ≡ at → i < length xs → holes_from k (set xs i n) ≡ numbered at n (holes_from k xs)
holes-set k i at n [] e inside = absurd (omega arith)
holes-set k zero at n (x ∷ xs) e inside =
    let here : at ≡ k = omega arith in
    rw here (grind (arith, nat_tests, numbered-front k n (holes_from (suc k) xs) (holes-begin (suc k) (suc k) xs (omega arith))))
holes-set k (suc i) at n (x ∷ xs) e inside = grind (arith, nat_tests, holes-set (suc k) i at n xs (omega arith) (omega arith))

-- where no hole begins, a 0 changes nothing
pub numbered-none : (k at : ℕ) (xs : List ℕ) → length_at at (holes_from k xs) ≡ 0 → numbered at 0 (holes_from k xs) ≡ holes_from k xs
numbered-none k at [] e = refl
numbered-none k at (x ∷ xs) e = grind (arith, nat_tests, numbered-none (suc k) at xs)

length-front : (at other n : ℕ) (hs : List Hole) → (other ≡ at → ⊥) → length_at at (fronted other n hs) ≡ length_at at hs
length-front at other n hs apart = grind (arith, nat_tests)

-- the numbers of other cells stay
pub length-kept : (at other n : ℕ) (hs : List Hole) → (other ≡ at → ⊥) → length_at at (numbered other n hs) ≡ length_at at hs
length-kept at other n [] apart = length-front at other n [] apart
length-kept at other n (h ∷ hs) apart = grind (arith, nat_tests, length-kept at other n hs apart)

-- where all are 0 there is no hole
pub holes-none : (k n : ℕ) → holes_from k (replicate n 0) ≡ []
holes-none k zero = refl
holes-none k (suc n) = holes-none (suc k) n

-- ---- reading

length-none : (k at : ℕ) (xs : List ℕ) → ((j : ℕ) → k ≤ j → j < k + length xs → j ≡ at → ⊥) → length_at at (holes_from k xs) ≡ 0
length-none k at [] other = refl
length-none k at (x ∷ xs) other = grind (arith, nat_tests, length-none (suc k) at xs (λ j low high. other j (omega arith) (omega arith)), other k (omega arith) (omega arith))

pub length-read : (k i at n : ℕ) (xs : List ℕ) → k + i ≡ at → slice_get xs i ≡ Some n → length_at at (holes_from k xs) ≡ n
length-read k i at n [] e read = absurd (none-some n read)
length-read k zero at n (x ∷ xs) e read = grind (arith, nat_tests, length-none (suc k) at xs (λ j low high f. omega arith))
length-read k (suc i) at n (x ∷ xs) e read = grind (arith, nat_tests, length-read (suc k) i at n xs (omega arith) read)

-- ---- the first that is long enough

pub fit-read : (k n : ℕ) (xs : List ℕ) → 1 ≤ n → first_from k n xs ≡ first_fit n (holes_from k xs)
fit-read k n [] some = refl
fit-read k n (x ∷ xs) some = grind (arith, nat_tests, fit-read (suc k) n xs some)

-- ---- the last that begins before an index

-- where it begins, or else `before`
abbrev pub last_begin : ℕ → Option ℕ → List Hole → Option ℕ
last_begin at before [] = before
last_begin at before (h ∷ hs) = if nat_lt h.0 at then last_begin at (Some h.0) hs else before

last-none : (at : ℕ) (before : Option ℕ) (hs : List Hole) → BeginFrom at hs → before ≡ last_begin at before hs
last-none at before [] t = refl
last-none at before (h ∷ hs) t = grind (arith, nat_tests)

pub last-read : (k i at : ℕ) (before : Option ℕ) (xs : List ℕ) → k + i ≡ at → last_from k (take i xs) before ≡ last_begin at before (holes_from k xs)
last-read k zero at before xs e = last-none at before (holes_from k xs) (holes-begin k at xs (omega arith))
last-read k (suc i) at before [] e = refl
last-read k (suc i) at before (x ∷ xs) e =
    let more : (last : Option ℕ) → last_from (suc k) (take i xs) last ≡ last_begin at last (holes_from (suc k) xs) = λ last. last-read (suc k) i at last xs (omega arith) in
    grind (arith, nat_tests, more (Some k), more before)

-- a hole that ends at an index is the last one that begins before it
pub record IsLast (low at : ℕ) (hs : List Hole) (last : ℕ) : Type 0 where
  pub above : low ≤ last
  pub below : last < at
  pub ends : last + length_at last hs ≡ at → start_at at hs ≡ last
  pub apart : (last + length_at last hs ≡ at → ⊥) → start_at at hs ≡ at

pub last-start : (low high at : ℕ) (before : Option ℕ) (hs : List Hole) → AreHoles low high hs
    → ((last_begin at before hs ≡ before) × (start_at at hs ≡ at)) ⊎ ((last : ℕ) × (last_begin at before hs ≡ Some last) × IsLast low at hs last)
last-start low high at before [] t = inl (refl, refl)
last-start low high at before (h ∷ hs) t = elim (cases_Bool (nat_lt h.0 at)) [
  | inr e ↦
      let past : at ≤ h.0 = grind (arith, nat_tests) in
      inl (rw e refl, start-next at h hs (λ d. omega (arith, d, t.1)) ∙ start-below at (h.0 + h.1 + 1) high hs t.3 (omega arith))
  | inl e ↦
      let less : h.0 < at = grind (arith, nat_tests) in
      elim (last-start (h.0 + h.1 + 1) high at (Some h.0) hs t.3) [
        | inl r ↦ inr (
          h.0,
          rw e r.0,
          record {
            above = t.0;
            below = less;
            ends = λ w. start-first at h hs (omega (arith, w, length-first h hs));
            apart = λ w. start-next at h hs (λ d. w (omega (arith, d, length-first h hs))) ∙ r.1;
          },
        )
        | inr r ↦
            let next = length-next r.0 h hs (λ d. omega (arith, d, r.2.above)) in
            let other : start_at at (h ∷ hs) ≡ start_at at hs = start-next at h hs (λ d. omega (arith, d, r.2.above, r.2.below)) in
            inr (
              r.0,
              rw e r.1,
              record {
                above = omega (arith, r.2.above, t.0);
                below = r.2.below;
                ends = λ w. other ∙ r.2.ends (omega (arith, w, next));
                apart = λ w. other ∙ r.2.apart (λ d. w (omega (arith, d, next)));
              },
            )
      ]
]

pub last-found : (high at last : ℕ) (xs : List ℕ) → AreHoles 0 high (holes_from 0 xs) → last_from 0 (take at xs) None ≡ Some last → IsLast 0 at (holes_from 0 xs) last
last-found high at last xs apart e =
    let read = sym (last-read 0 at at None xs (omega arith)) ∙ e in
    elim (last-start 0 high at None (holes_from 0 xs) apart) [
      | inl r ↦ absurd (none-some last (sym r.0 ∙ read))
      | inr r ↦ subst (IsLast 0 at (holes_from 0 xs)) (same_Some r.0 last (sym r.1 ∙ read)) r.2
    ]

pub last-missing : (high at : ℕ) (xs : List ℕ) → AreHoles 0 high (holes_from 0 xs) → last_from 0 (take at xs) None ≡ None → start_at at (holes_from 0 xs) ≡ at
last-missing high at xs apart e =
    let read = sym (last-read 0 at at None xs (omega arith)) ∙ e in
    elim (last-start 0 high at None (holes_from 0 xs) apart) [
      | inl r ↦ r.1
      | inr r ↦ absurd (none-some r.0 (sym read ∙ r.1))
    ]
