-- Holes below a limit, and after them the hole of all cells from there on.
use Rattle.std.proofs.Common.{◌≡◌, ◌⊎◌, inl, inr, ℕ, ◌+◌, ◌-◌, ◌<◌, ◌≤◌, true, List, [], ◌∷◌, ◌++◌, length, length-set, max, set, Option, Some, None, refl, sym, ap, subst, ◌∙◌, arith, suc, zero, nat_lt}
use Rattle.std.specs.Option.{is_some}
use Rattle.std.proofs.lemmas.Bool.{cases_lt, cases_Bool, cases_eq}
use Rattle.std.proofs.lemmas.Bool.Decides.{nat_tests}
use Rattle.std.proofs.lemmas.Option.{none-some}
use Rattle.hep_arena.specs.Holes.{Hole, AreHoles, IsOut, first_fit, given, joined, taken}
use Rattle.hep_arena.specs.declared.holes.Holes.{Holes}
use Rattle.hep_arena.specs.Lengths.{IsLimited, hole_from, holes_from, holes_of, lower_holes, start_at}
use Rattle.hep_arena.proofs.Giving.{IsFree, out-free}
use Rattle.hep_arena.proofs.RowLengths.{holes-set, length_at, numbered, numbered-first, numbered-next, numbered-none, start-first, start-from, start-next}

-- ---- holes

pub apart-up_to : (low high high' : ℕ) (hs : List Hole) → high ≤ high' → AreHoles low high hs → AreHoles low high' hs
apart-up_to low high high' [] le t = tt
apart-up_to low high high' (h ∷ hs) le t = (t.0, t.1, omega (arith, t.2), apart-up_to (h.0 + h.1 + 1) high high' hs le t.3)

pub out-front : (k : ℕ) (front back : List Hole) → IsOut k (front ++ back) → IsOut k front
out-front k [] back t = tt
out-front k (h ∷ front) back t = (t.0, out-front k front back t.1)

out-back : (k : ℕ) (front back : List Hole) → IsOut k (front ++ back) → IsOut k back
out-back k [] back t = t
out-back k (h ∷ front) back t = out-back k front back t.1

pub last-some : (at cells : ℕ) → at < cells → hole_from at cells ≡ (at, cells - at) ∷ []
last-some at cells less = grind (arith, nat_tests)

last-none : (at cells : ℕ) → cells ≤ at → hole_from at cells ≡ []
last-none at cells le = grind (arith, nat_tests)

pub holes-apart : (low limit cells : ℕ) (hs : List Hole) → AreHoles low (limit - 1) hs → limit ≤ cells → low ≤ limit → AreHoles low cells (hs ++ hole_from limit cells)
holes-apart low limit cells [] t inside le = elim (cases_Bool (nat_lt limit cells)) [ inl e ↦ rw e (le, grind (arith, nat_tests), omega arith, tt) | inr e ↦ rw e tt ]
holes-apart low limit cells (h ∷ hs) t inside le = (t.0, t.1, omega (arith, t.1, t.2), holes-apart (h.0 + h.1 + 1) limit cells hs t.3 inside (omega (arith, t.1, t.2)))

-- cells that are out lie below the limit
pub out-below : (at n limit cells : ℕ) (hs : List Hole) → 1 ≤ n → at + n ≤ cells → ((k : ℕ) → at ≤ k → k < at + n → IsOut k (hs ++ hole_from limit cells)) → at + n ≤ limit
out-below at n limit cells hs some inside out = elim (cases_lt limit cells) [
  | inr past ↦ omega arith
  | inl less ↦ let last = subst (IsOut (at + n - 1)) (last-some limit cells less) (out-back (at + n - 1) hs (hole_from limit cells) (out (at + n - 1) (omega arith) (omega arith))) in grind (arith, last.0)
]

-- ---- the first that is long enough

pub fit-front : (n at : ℕ) (hs ks : List Hole) → first_fit n hs ≡ Some at → first_fit n (hs ++ ks) ≡ Some at
fit-front n at [] ks e = absurd (none-some at e)
fit-front n at (h ∷ hs) ks e = grind (arith, fit-front n at hs ks)

fit-back : (n : ℕ) (hs ks : List Hole) → first_fit n hs ≡ None → first_fit n (hs ++ ks) ≡ first_fit n ks
fit-back n [] ks e = refl
fit-back n (h ∷ hs) ks e = grind (arith, fit-back n hs ks)

pub fit-last : (n limit cells : ℕ) (hs : List Hole) → 1 ≤ n → n ≤ cells - limit → first_fit n hs ≡ None → first_fit n (hs ++ hole_from limit cells) ≡ Some limit
fit-last n limit cells hs some fits e = grind (arith, nat_tests, fit-back n hs (hole_from limit cells) e)

pub fit-none : (n limit cells : ℕ) (hs : List Hole) → cells - limit < n → first_fit n hs ≡ None → first_fit n (hs ++ hole_from limit cells) ≡ None
fit-none n limit cells hs less e = grind (arith, nat_tests, fit-back n hs (hole_from limit cells) e)

-- ---- taking

pub taken-front : (n at : ℕ) (hs ks : List Hole) → first_fit n hs ≡ Some at → taken n (hs ++ ks) ≡ taken n hs ++ ks
taken-front n at [] ks e = absurd (none-some at e)
taken-front n at (h ∷ hs) ks e = grind (arith, taken-front n at hs ks)

taken-back : (n : ℕ) (hs ks : List Hole) → first_fit n hs ≡ None → taken n (hs ++ ks) ≡ hs ++ taken n ks
taken-back n [] ks e = refl
taken-back n (h ∷ hs) ks e = grind (arith, taken-back n hs ks)

pub taken-last : (n limit cells : ℕ) (hs : List Hole) → 1 ≤ n → n ≤ cells - limit → first_fit n hs ≡ None → hs ++ hole_from (limit + n) cells ≡ taken n (hs ++ hole_from limit cells)
taken-last n limit cells hs some fits e = grind (arith, nat_tests, taken-back n hs (hole_from limit cells) e)

-- ---- giving below the limit

joined-front : (b : Hole) (limit cells : ℕ) (hs : List Hole) → b.0 + b.1 < limit → joined b (hs ++ hole_from limit cells) ≡ joined b hs ++ hole_from limit cells
joined-front b limit cells [] less = grind (arith, nat_tests)
joined-front b limit cells (h ∷ hs) less = grind arith

pub given-front : (at n limit cells : ℕ) (hs : List Hole) → at + n < limit → given (at, n) (hs ++ hole_from limit cells) ≡ given (at, n) hs ++ hole_from limit cells
given-front at n limit cells [] less = grind (arith, nat_tests)
given-front at n limit cells (h ∷ hs) less =
    grind (arith, nat_tests, given-front at n limit cells hs less, joined-front (at, n) limit cells (h ∷ hs) less, joined-front (h.0, h.1 + n) limit cells hs)

-- ---- giving at the limit

-- the hole that touches the cells is gone, and the last one begins in its place
pub record IsGivenLast (low at limit cells start : ℕ) (hs : List Hole) : Type 0 where
  pub given_is : numbered start 0 hs ++ hole_from start cells ≡ given (at, limit - at) (hs ++ hole_from limit cells)
  pub lower : AreHoles low (start - 1) (numbered start 0 hs)

pub given-last : (low at limit cells start : ℕ) (hs : List Hole) → AreHoles low (limit - 1) hs → low ≤ at → at < limit → limit ≤ cells → IsFree (at, limit - at) hs → start_at at hs ≡ start → IsGivenLast low at limit cells start hs
given-last low at limit cells start [] t le less inside free is =
    record { given_is = rw (← is) (grind (arith, nat_tests)); lower = tt }
given-last low at limit cells start (h ∷ hs) t le less inside free is = elim (cases_eq (h.0 + h.1) at) [
  | inl end ↦
      let none : hs ≡ [] = alone hs end t.3 free.1 in
      let here : start ≡ h.0 = sym is ∙ start-first at h hs end in
      let gone : numbered start 0 (h ∷ hs) ≡ [] = numbered-first start 0 h hs here ∙ none in
      record { given_is = rw (gone, here, none) (grind (arith, nat_tests, t.1)); lower = rw gone tt }
  | inr other ↦
      let up : h.0 + h.1 + 1 ≤ at = omega (arith, before, other) in
      let rest : start_at at hs ≡ start = sym (start-next at h hs other) ∙ is in
      let r = given-last (h.0 + h.1 + 1) at limit cells start hs t.3 up less inside free.1 rest in
      let far = (start-from at (h.0 + h.1 + 1) (limit - 1) hs t.3 up).0 in
      let next : numbered start 0 (h ∷ hs) ≡ h ∷ numbered start 0 hs = numbered-next start 0 h hs (omega (arith, far, rest)) in
      record { given_is = rw next (grind (arith, nat_tests, t.1, r.given_is)); lower = rw next (t.0, t.1, omega (arith, far, rest), r.lower) }
] where
  before : h.0 + h.1 ≤ at
  before = grind (arith, free.0, t.1, t.2)

  alone : (ks : List Hole) → h.0 + h.1 ≡ at → AreHoles (h.0 + h.1 + 1) (limit - 1) ks → IsFree (at, limit - at) ks → ks ≡ []
  alone [] e u v = refl
  alone (k ∷ ks) e u v = absurd (grind (arith, v.0, u.0, u.1, u.2))

-- no hole begins among cells that are free
pub length-free : (low high at n : ℕ) (hs : List Hole) → AreHoles low high hs → 1 ≤ n → IsFree (at, n) hs → length_at at hs ≡ 0
length-free low high at n [] t some free = refl
length-free low high at n (h ∷ hs) t some free = grind (arith, nat_tests, t.1, free.0, length-free (h.0 + h.1 + 1) high at n hs t.3 some free.1)

-- ---- whether one fits

-- each hole has one cell at least
fit-one : (low high : ℕ) (hs : List Hole) → AreHoles low high hs → first_fit 1 hs ≡ first_fit 0 hs
fit-one low high [] t = refl
fit-one low high (h ∷ hs) t = grind (arith, nat_tests, t.1)

pub fit-least : (low high n : ℕ) (hs : List Hole) → AreHoles low high hs → first_fit (max n 1) hs ≡ first_fit n hs
fit-least low high zero hs t = fit-one low high hs t
fit-least low high (suc n) hs t = ap (λ (k : ℕ). first_fit k hs) (omega arith)

fit-some : (o : Option ℕ) (n limit cells : ℕ) (hs : List Hole) → 1 ≤ n → n ≤ cells - limit → first_fit n hs ≡ o → true ≡ is_some (first_fit n (hs ++ hole_from limit cells))
fit-some None n limit cells hs some fits e = rw (fit-last n limit cells hs some fits e) refl
fit-some (Some at) n limit cells hs some fits e = rw (fit-front n at hs (hole_from limit cells) e) refl

fit-below : (o : Option ℕ) (n limit cells : ℕ) (hs : List Hole) → cells - limit < n → first_fit n hs ≡ o → is_some o ≡ is_some (first_fit n (hs ++ hole_from limit cells))
fit-below None n limit cells hs less e = rw (fit-none n limit cells hs less e) refl
fit-below (Some at) n limit cells hs less e = rw (fit-front n at hs (hole_from limit cells) e) refl

module _ (n least limit cells : ℕ) (hs : List Hole) (apart : AreHoles 0 (limit - 1) hs) (inside : limit ≤ cells) (is : least ≡ max n 1) where
  same : first_fit least (hs ++ hole_from limit cells) ≡ first_fit n (hs ++ hole_from limit cells)
  same = ap (λ (k : ℕ). first_fit k (hs ++ hole_from limit cells)) is ∙ fit-least 0 cells n (hs ++ hole_from limit cells) (holes-apart 0 limit cells hs apart inside (omega arith))

  pub fits-last : 1 ≤ least → least ≤ cells - limit → true ≡ is_some (first_fit n (hs ++ hole_from limit cells))
  fits-last some fits = fit-some (first_fit least hs) least limit cells hs some fits refl ∙ ap is_some same

  pub fits-below : cells - limit < least → is_some (first_fit least hs) ≡ is_some (first_fit n (hs ++ hole_from limit cells))
  fits-below less = fit-below (first_fit least hs) least limit cells hs less refl ∙ ap is_some same

-- ---- what an arena keeps of its holes

-- the holes below the limit are others, and lie below it too
module _ (holes holes' : Holes) (limited : IsLimited holes) (hs : List Hole) (is : lower_holes holes' ≡ hs) (limit : holes'.limit ≡ holes.limit) (cells : length holes'.lengths ≡ length holes.lengths) where
  pub changed-holes : holes_of holes' ≡ hs ++ hole_from holes.limit (length holes.lengths)
  changed-holes = (λ i. is i ++ hole_from (limit i) (cells i))

  pub changed-limited : AreHoles 0 (holes.limit - 1) hs → IsLimited holes'
  changed-limited t = record {
    inside = omega (arith, limit, cells, limited.inside);
    lower = subst (λ (u : ℕ × List Hole). AreHoles 0 (u.0 - 1) u.1) (λ i. (sym limit i, sym is i)) t;
  }

module _ (at limit start : ℕ) (xs ys : List ℕ) (apart : AreHoles 0 (limit - 1) (holes_from 0 xs)) (below : at < limit) (inside : limit ≤ length xs) (out : (k : ℕ) → at ≤ k → k < limit → IsOut k (holes_from 0 xs))
    (begins : start ≡ start_at at (holes_from 0 xs)) (written : ((start < at) × (ys ≡ set xs start 0)) ⊎ ((at ≤ start) × (ys ≡ xs))) where
  free : IsFree (at, limit - at) (holes_from 0 xs)
  free = out-free 0 (limit - 1) at (limit - at) (holes_from 0 xs) apart (omega arith) (λ k low high. out k low (omega arith))

  last : IsGivenLast 0 at limit (length xs) start (holes_from 0 xs)
  last = given-last 0 at limit (length xs) start (holes_from 0 xs) apart (omega arith) below inside free (sym begins)

  long : length ys ≡ length xs
  long = elim written [ inl w ↦ rw w.1 (length-set xs start 0) | inr w ↦ ap length w.1 ]

  low : start ≤ at
  low = omega (arith, begins, (start-from at 0 (limit - 1) (holes_from 0 xs) apart (omega arith)).1)

  lower : holes_from 0 ys ≡ numbered start 0 (holes_from 0 xs)
  lower = elim written [
    | inl w ↦ ap (holes_from 0) w.1 ∙ holes-set 0 start start 0 xs (omega arith) (omega (arith, low, below, inside))
    | inr w ↦
        let same : at ≡ start = omega (arith, low, w.0) in
        let none = length-free 0 (limit - 1) at (limit - at) (holes_from 0 xs) apart (omega arith) free in
        ap (holes_from 0) w.1 ∙ sym (ap (λ (k : ℕ). numbered k 0 (holes_from 0 xs)) (sym same) ∙ numbered-none 0 at xs none)
  ]

  pub last-given : (holes_from 0 ys ++ hole_from start (length ys) ≡ given (at, limit - at) (holes_from 0 xs ++ hole_from limit (length xs))) × IsLimited (record { lengths = ys; limit = start }) × (length ys ≡ length xs)
  last-given = (
    (λ i. lower i ++ hole_from start (long i)) ∙ (last).given_is,
    record { inside = omega (arith, low, below, inside, long); lower = subst (AreHoles 0 (start - 1)) (sym lower) (last).lower },
    long,
  )
