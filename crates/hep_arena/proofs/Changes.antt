-- What taking and giving make of the holes, as writes to the numbers of cells.
use Rattle.hep_arena.proofs.Cases.{given-cases}
use Rattle.std.proofs.Common.{◌≡◌, ℕ, suc, ◌+◌, ◌-◌, ◌<◌, ◌≤◌, List, [], ◌∷◌, length, length-set, set, Some, slice_get, refl, sym, ap, ◌∙◌, arith}
use Rattle.std.proofs.lemmas.Bool.Decides.{nat_tests}
use Rattle.std.proofs.lemmas.Option.{none-some}
use Rattle.hep_arena.specs.Holes.{Hole, AreHoles, IsOut, first_fit, given, joined, taken}
use Rattle.hep_arena.specs.Lengths.{holes_from, start_at}
use Rattle.hep_arena.proofs.Blocks.{fit-inside}
use Rattle.hep_arena.proofs.Giving.{IsFree, out-free}
use Rattle.hep_arena.proofs.RowLengths.{BeginFrom, fronted, holes-set, length-below, length-fits, length-kept, length-next, length_at, length-read, numbered, numbered-first, numbered-front, numbered-next, numbered-none, start-below, start-from, start-next, start-first}

-- ---- taking

-- holes that lie from an index on begin there or behind
holes-begin_from : (low from high : ℕ) (hs : List Hole) → low ≤ from → AreHoles from high hs → BeginFrom low hs
holes-begin_from low from high [] le t = tt
holes-begin_from low from high (h ∷ hs) le t = omega (arith, t.0)

-- all of a hole, or its front
fit-fits : (n at low high : ℕ) (hs : List Hole) → AreHoles low high hs → first_fit n hs ≡ Some at → n ≤ length_at at hs
fit-fits n at low high [] t e = absurd (none-some at e)
fit-fits n at low high (h ∷ hs) t e =
    let far : first_fit n hs ≡ Some at → (h.0 + h.1 + 1 ≤ at) × (at + n ≤ high) = fit-inside n at (h.0 + h.1 + 1) high hs t.3 in
    grind (arith, nat_tests, far, fit-fits n at (h.0 + h.1 + 1) high hs t.3)

taken-whole : (n at low high : ℕ) (hs : List Hole) → AreHoles low high hs → first_fit n hs ≡ Some at → length_at at hs ≡ n → taken n hs ≡ numbered at 0 hs
taken-whole n at low high [] t e is = absurd (none-some at e)
taken-whole n at low high (h ∷ hs) t e is =
    let far : first_fit n hs ≡ Some at → (h.0 + h.1 + 1 ≤ at) × (at + n ≤ high) = fit-inside n at (h.0 + h.1 + 1) high hs t.3 in
    grind (arith, nat_tests, far, taken-whole n at (h.0 + h.1 + 1) high hs t.3)

taken-front : (n at len low high : ℕ) (hs : List Hole) → AreHoles low high hs → 1 ≤ n → first_fit n hs ≡ Some at → length_at at hs ≡ len → n < len → taken n hs ≡ numbered at 0 (numbered (at + n) (len - n) hs)
taken-front n at len low high [] t some e is less = absurd (none-some at e)
taken-front n at len low high (h ∷ hs) t some e is less =
    let far : first_fit n hs ≡ Some at → (h.0 + h.1 + 1 ≤ at) × (at + n ≤ high) = fit-inside n at (h.0 + h.1 + 1) high hs t.3 in
    let behind : suc (at + n) ≤ h.0 + h.1 + 1 → numbered (at + n) (len - n) hs ≡ fronted (at + n) (len - n) hs = λ le. numbered-front (at + n) (len - n) hs (holes-begin_from (suc (at + n)) (h.0 + h.1 + 1) high hs le t.3) in
    grind (arith, nat_tests, t.1, far, behind, taken-front n at len (h.0 + h.1 + 1) high hs t.3 some)

-- ---- giving

-- a hole in front of others takes up the one that begins where it ends
joined-is : (at n end low high : ℕ) (hs : List Hole) → AreHoles low high hs → at + n ≡ end → end ≤ low → joined (at, n) hs ≡ (at, n + length_at end hs) ∷ numbered end 0 hs
joined-is at n end low high [] t e le = ap (λ (k : ℕ). (at, k) ∷ []) (omega arith)
joined-is at n end low high (h ∷ hs) t e le = grind (arith, nat_tests, t.0, length-below end (h.0 + h.1 + 1) high hs t.3)

-- behind a hole the numbers are written as without it
behind : (start n end : ℕ) (hs : List Hole) → start < end → 0 < n → numbered end 0 (fronted start n hs) ≡ (start, n) ∷ numbered end 0 hs
behind start n end hs less some = grind (arith, nat_tests)

giving : (low high at n start len : ℕ) (hs : List Hole) → AreHoles low high hs → low ≤ at → 1 ≤ n → IsFree (at, n) hs → start_at at hs ≡ start → start + len ≡ at + n + length_at (at + n) hs
    → given (at, n) hs ≡ numbered (at + n) 0 (numbered start len hs)
giving low high at n start len [] t le some free begins ends =
    let same : n ≡ len = omega arith in
    (λ i. (begins i, same i) ∷ []) ∙ sym (behind start len (at + n) [] (omega arith) (omega arith))
giving low high at n start len (h ∷ hs) t le some free begins ends = given-cases (λ l. l ≡ numbered (at + n) 0 (numbered start len (h ∷ hs))) (at, n) h hs in_front (λ up touch. touching touch) (λ up apart.
    let far : h.0 + h.1 + 1 ≤ at = grind (arith, free.0, apart) in
    let begins' : start_at at hs ≡ start = sym (start-next at h hs apart) ∙ begins in
    let ends' : start + len ≡ at + n + length_at (at + n) hs = omega (arith, ends, length-next (at + n) h hs (λ d. omega (arith, d))) in
    let low' = (start-from at (h.0 + h.1 + 1) high hs t.3 far).0 in
    ap (λ (l : List Hole). h ∷ l) (giving (h.0 + h.1 + 1) high at n start len hs t.3 far some free.1 begins' ends')
    ∙ sym (ap (numbered (at + n) 0) (numbered-next start len h hs (omega (arith, low', begins'))) ∙ numbered-next (at + n) 0 h (numbered start len hs) (omega arith)))
  where
    in_front : at < h.0 → joined (at, n) (h ∷ hs) ≡ numbered (at + n) 0 (numbered start len (h ∷ hs))
    in_front less =
        let past : at + n ≤ h.0 = grind (arith, free.0, t.1) in
        let all : AreHoles h.0 high (h ∷ hs) = (omega arith, t.1, t.2, t.3) in
        let is : at ≡ start = sym (start-below at h.0 high (h ∷ hs) all less) ∙ begins in
        let long : n + length_at (at + n) (h ∷ hs) ≡ len = omega (arith, is, ends) in
        joined-is at n (at + n) h.0 high (h ∷ hs) all refl past ∙ (λ i. (is i, long i) ∷ numbered (at + n) 0 (h ∷ hs))
        ∙ sym (ap (numbered (at + n) 0) (numbered-front start len (h ∷ hs) (omega arith)) ∙ behind start len (at + n) (h ∷ hs) (omega (arith, is)) (omega (arith, long)))

    touching : h.0 + h.1 ≡ at → joined (h.0, h.1 + n) hs ≡ numbered (at + n) 0 (numbered start len (h ∷ hs))
    touching end =
        let is : h.0 ≡ start = sym (start-first at h hs end) ∙ begins in
        let next = length-next (at + n) h hs (λ d. omega (arith, d, t.1)) in
        let long : h.1 + n + length_at (at + n) hs ≡ len = omega (arith, is, ends, next) in
        joined-is h.0 (h.1 + n) (at + n) (at + n) high hs (from_end hs t.3 free.1) (omega arith) (omega arith) ∙ (λ i. (is i, long i) ∷ numbered (at + n) 0 hs)
        ∙ sym (ap (numbered (at + n) 0) (numbered-first start len h hs (sym is)) ∙ behind start len (at + n) hs (omega (arith, is)) (omega (arith, long, some)))
      where
        from_end : (ks : List Hole) → AreHoles (h.0 + h.1 + 1) high ks → IsFree (at, n) ks → AreHoles (at + n) high ks
        from_end [] u v = tt
        from_end (k ∷ ks) u v = (grind (arith, v.0, u.0), u.1, u.2, u.3)

-- ---- the numbers

module _ (n at high : ℕ) (xs : List ℕ) (some : 1 ≤ n) (apart : AreHoles 0 high (holes_from 0 xs)) (within : high ≤ length xs) (fit : first_fit n (holes_from 0 xs) ≡ Some at) where
  pub taken-inside : at + n ≤ high
  taken-inside = (fit-inside n at 0 high (holes_from 0 xs) apart fit).1

  module _ (len : ℕ) (read : slice_get xs at ≡ Some len) where
    long : length_at at (holes_from 0 xs) ≡ len
    long = length-read 0 at at len xs (omega arith) read

    pub taken-fits : at + len ≤ high
    taken-fits = omega (arith, long, length-fits at 0 high (holes_from 0 xs) apart (omega (arith, taken-inside)))

    pub taken-numbers : (len ≤ n → holes_from 0 (set xs at 0) ≡ taken n (holes_from 0 xs)) × (n < len → holes_from 0 (set (set xs (at + n) (len - n)) at 0) ≡ taken n (holes_from 0 xs))
    taken-numbers = (
      λ le.
          let all : length_at at (holes_from 0 xs) ≡ n = omega (arith, long, fit-fits n at 0 high (holes_from 0 xs) apart fit) in
          holes-set 0 at at 0 xs (omega arith) (omega (arith, taken-inside)) ∙ sym (taken-whole n at 0 high (holes_from 0 xs) apart fit all),
      λ less.
          holes-set 0 at at 0 (set xs (at + n) (len - n)) (omega arith) (omega (arith, length-set xs (at + n) (len - n), taken-inside))
          ∙ ap (numbered at 0) (holes-set 0 (at + n) (at + n) (len - n) xs (omega arith) (omega (arith, taken-fits))) ∙ sym (taken-front n at len 0 high (holes_from 0 xs) apart some fit long less),
    )

module _ (at n start behind high : ℕ) (xs : List ℕ) (some : 1 ≤ n) (apart : AreHoles 0 high (holes_from 0 xs)) (within : high < length xs) (inside : at + n ≤ high)
    (out : (k : ℕ) → at ≤ k → k < at + n → IsOut k (holes_from 0 xs)) (begins : start ≡ start_at at (holes_from 0 xs)) (read : slice_get xs (at + n) ≡ Some behind) where
  pub given-start : start ≤ at
  given-start = omega (arith, begins, (start-from at 0 high (holes_from 0 xs) apart (omega arith)).1)

  rest : length_at (at + n) (holes_from 0 xs) ≡ behind
  rest = length-read 0 (at + n) (at + n) behind xs (omega arith) read

  pub given-fits : at + n + behind ≤ high
  given-fits = omega (arith, rest, length-fits (at + n) 0 high (holes_from 0 xs) apart inside)

  module _ (len : ℕ) (ends : start + len ≡ at + n + behind) where
    changed : given (at, n) (holes_from 0 xs) ≡ numbered (at + n) 0 (holes_from 0 (set xs start len))
    changed =
        giving 0 high at n start len (holes_from 0 xs) apart (omega arith) some (out-free 0 high at n (holes_from 0 xs) apart some out) (sym begins) (omega (arith, rest, ends))
        ∙ ap (numbered (at + n) 0) (sym (holes-set 0 start start len xs (omega arith) (omega (arith, given-start, inside, some, within))))

    -- the number behind the cells is written too, if a hole begins there
    pub given-numbers : (holes_from 0 (set (set xs start len) (at + n) 0) ≡ given (at, n) (holes_from 0 xs)) × (behind ≤ 0 → holes_from 0 (set xs start len) ≡ given (at, n) (holes_from 0 xs))
    given-numbers = (
      holes-set 0 (at + n) (at + n) 0 (set xs start len) (omega arith) (omega (arith, length-set xs start len, inside, within)) ∙ sym changed,
      λ none.
          let written = holes-set 0 start start len xs (omega arith) (omega (arith, given-start, inside, some, within)) in
          let kept = ap (length_at (at + n)) written ∙ length-kept (at + n) start len (holes_from 0 xs) (λ e. omega (arith, e, given-start, some)) in
          sym (numbered-none 0 (at + n) (set xs start len) (omega (arith, kept, rest, none))) ∙ sym changed,
    )
