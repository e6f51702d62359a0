-- Blocks that are out: they stay out, a new one has none of their cells, and giving undoes taking.
use Rattle.hep_arena.proofs.Cases.{fit-cases, given-cases, joined-cases, shortened-cases, taken-cases}
use Rattle.std.proofs.Common.{◌≡◌, ◌⊎◌, inl, inr, ℕ, ◌+◌, ◌<◌, ◌≤◌, true, false, List, [], ◌∷◌, Some, sym, ap, arith, nat_eq, nat_lt}
use Rattle.std.proofs.lemmas.Bool.Decides.{nat_tests}
use Rattle.std.proofs.lemmas.Option.{none-some}
use Rattle.hep_arena.specs.Holes.{Hole, AreHoles, IsOut, first_fit, given, joined, taken}
use Rattle.hep_arena.proofs.Giving.{given-apart, out-free}

-- ---- taking

pub out-taken : (n k : ℕ) (hs : List Hole) → IsOut k hs → IsOut k (taken n hs)
out-taken n k [] t = tt
out-taken n k (h ∷ hs) t = taken-cases (IsOut k) n h hs
    (λ fits. shortened-cases (IsOut k) n h hs (λ all. t.1) (λ part. (grind (arith, t.0), t.1)))
    (λ short. (t.0, out-taken n k hs t.1))

-- where the new block lies
pub fit-inside : (n at low high : ℕ) (hs : List Hole) → AreHoles low high hs → first_fit n hs ≡ Some at → (low ≤ at) × (at + n ≤ high)
fit-inside n at low high [] t e = absurd (none-some at e)
fit-inside n at low high (h ∷ hs) t e = elim (fit-cases n at h hs e) [
  | inl here ↦ (omega (arith, here.1, t.0), omega (arith, here.0, here.1, t.2))
  | inr behind ↦ let r = fit-inside n at (h.0 + h.1 + 1) high hs t.3 behind.1 in (omega (arith, r.0, t.0), r.1)
]

-- cells below all holes are out
below-out : (low high k : ℕ) (hs : List Hole) → AreHoles low high hs → k < low → IsOut k hs
below-out low high k [] t less = tt
below-out low high k (h ∷ hs) t less = (inl (omega (arith, t.0)), below-out (h.0 + h.1 + 1) high k hs t.3 (omega (arith, t.0)))

-- the cells of the new block are out
pub block-out : (n at low high : ℕ) (hs : List Hole) → AreHoles low high hs → first_fit n hs ≡ Some at → (k : ℕ) → at ≤ k → k < at + n → IsOut k (taken n hs)
block-out n at low high [] t e k le less = absurd (none-some at e)
block-out n at low high (h ∷ hs) t e k le less = elim (fit-cases n at h hs e) [
  | inl here ↦
      let below = below-out (h.0 + h.1 + 1) high k hs t.3 (omega (arith, here.0, here.1)) in
      taken-cases (IsOut k) n h hs (λ fits. shortened-cases (IsOut k) n h hs (λ all. below) (λ part. (inl (omega (arith, here.1)), below))) (λ short. absurd (omega (arith, here.0)))
  | inr behind ↦
      let far = (fit-inside n at (h.0 + h.1 + 1) high hs t.3 behind.1).0 in
      taken-cases (IsOut k) n h hs (λ fits. absurd (omega (arith, behind.0))) (λ short. (inr (omega (arith, far)), block-out n at (h.0 + h.1 + 1) high hs t.3 behind.1 k le less))
]

-- and were not so before
pub block-new : (n at k : ℕ) (hs : List Hole) → first_fit n hs ≡ Some at → at ≤ k → k < at + n → IsOut k hs → ⊥
block-new n at k [] e le less out = none-some at e
block-new n at k (h ∷ hs) e le less out = elim (fit-cases n at h hs e) [
  | inl here ↦ grind (arith, here.0, here.1, out.0)
  | inr behind ↦ block-new n at k hs behind.1 le less out.1
]

-- ---- giving

out-joined : (k : ℕ) (b : Hole) (hs : List Hole) → IsOut k hs → (k < b.0) ⊎ (b.0 + b.1 ≤ k) → IsOut k (joined b hs)
out-joined k b [] t o = (o, tt)
out-joined k b (h ∷ hs) t o = joined-cases (IsOut k) b h hs (λ touch. (grind (arith, t.0), t.1)) (λ apart. (o, t))

-- a cell that is out, and none of those that are given back, stays out
pub out-kept : (k : ℕ) (b : Hole) (hs : List Hole) → IsOut k hs → (k < b.0) ⊎ (b.0 + b.1 ≤ k) → IsOut k (given b hs)
out-kept k b [] t o = (o, tt)
out-kept k b (h ∷ hs) t o = given-cases (IsOut k) b h hs
    (λ front. out-joined k b (h ∷ hs) t o)
    (λ up touch. out-joined k (h.0, h.1 + b.1) hs t.1 (grind (arith, t.0)))
    (λ up apart. (t.0, out-kept k b hs t.1 o))

pub given-holes : (cells at n : ℕ) (hs : List Hole) → AreHoles 0 cells hs → 0 < n → at + n ≤ cells → ((k : ℕ) → at ≤ k → k < at + n → IsOut k hs) → AreHoles 0 cells (given (at, n) hs)
given-holes cells at n hs t some inside out = given-apart 0 cells at n hs t (omega arith) some inside (out-free 0 cells at n hs t some out)

alone : (high n : ℕ) (h : Hole) (ks : List Hole) → AreHoles (h.0 + h.1 + 1) high ks → h.1 ≡ n → given (h.0, n) ks ≡ h ∷ ks
alone high n h [] t e = ap (λ (m : ℕ). (h.0, m) ∷ []) (sym e)
alone high n h (k ∷ ks) t e =
    let yes : nat_lt h.0 k.0 ≡ true = grind (arith, nat_tests, t.0) in
    let no : nat_eq (h.0 + n) k.0 ≡ false = grind (arith, nat_tests, t.0) in
    rw (yes, no) (ap (λ (m : ℕ). (h.0, m) ∷ k ∷ ks) (sym e))

-- what was taken and is given back at once leaves the holes as they were
pub given-taken : (n at low high : ℕ) (hs : List Hole) → AreHoles low high hs → 0 < n → first_fit n hs ≡ Some at → given (at, n) (taken n hs) ≡ hs
given-taken n at low high [] t some e = absurd (none-some at e)
given-taken n at low high (h ∷ hs) t some e = elim (fit-cases n at h hs e) [
  | inl here ↦
      rw (← here.1) (
      taken-cases (λ l. given (h.0, n) l ≡ h ∷ hs) n h hs (λ fits.
      shortened-cases (λ l. given (h.0, n) l ≡ h ∷ hs) n h hs (alone high n h hs t.3) (λ part.
      let yes : nat_lt h.0 (h.0 + n) ≡ true = grind (arith, nat_tests) in
      let touch : nat_eq (h.0 + n) (h.0 + n) ≡ true = grind (arith, nat_tests) in
      rw (yes, touch) (ap (λ (m : ℕ). (h.0, m) ∷ hs) (omega arith)))) (λ short. absurd (omega (arith, here.0))))
  | inr behind ↦
      let far = (fit-inside n at (h.0 + h.1 + 1) high hs t.3 behind.1).0 in
      grind (arith, nat_tests, behind.0, far, given-taken n at (h.0 + h.1 + 1) high hs t.3 some behind.1)
]
