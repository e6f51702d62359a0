-- Giving back: cells become a hole, one with the holes that they touch.
use Rattle.std.proofs.lemmas.Bool.{cases_lt}
use Rattle.hep_arena.proofs.Taking.{holes_from_lower}
use Rattle.hep_arena.proofs.Cases.{given-cases, joined-cases}
use Rattle.std.proofs.Common.{◌⊎◌, inl, inr, ℕ, ◌+◌, ◌<◌, ◌≤◌, List, [], ◌∷◌, arith}
use Rattle.hep_arena.specs.Holes.{Hole, AreHoles, IsOut, joined, given}

-- ---- cells that are out

-- no hole has a cell of b
abbrev pub IsFree : Hole → List Hole → Type 0
IsFree b [] = Unit {0}
IsFree b (h ∷ hs) = ((b.0 + b.1 ≤ h.0) ⊎ (h.0 + h.1 ≤ b.0)) × IsFree b hs

-- cells that are out one by one are out together
pub out-free : (low high at n : ℕ) (hs : List Hole) → AreHoles low high hs → 0 < n → ((k : ℕ) → at ≤ k → k < at + n → IsOut k hs) → IsFree (at, n) hs
out-free low high at n [] t some out = tt
out-free low high at n (h ∷ hs) t some out = (first, out-free (h.0 + h.1 + 1) high at n hs t.3 some (λ k le less. (out k le less).1)) where
  first : (at + n ≤ h.0) ⊎ (h.0 + h.1 ≤ at)
  first = elim (cases_lt h.0 (at + n)) [
    | inr le ↦ inl le
    | inl more ↦ elim (cases_lt at h.0) [
      | inl less ↦ absurd (grind (arith, t.1, (out h.0 (omega arith) more).0))
      | inr le ↦ elim (out at (omega arith) (omega arith)).0 [ inl u ↦ absurd (omega (arith, u)) | inr u ↦ inr u ]
    ]
  ]

-- ---- the holes lie apart

joined-apart : (low high : ℕ) (b : Hole) (hs : List Hole) → low ≤ b.0 → 0 < b.1 → b.0 + b.1 ≤ high → AreHoles (b.0 + b.1) high hs → AreHoles low high (joined b hs)
joined-apart low high b [] le some inside t = (le, some, inside, tt)
joined-apart low high b (h ∷ hs) le some inside t = joined-cases (AreHoles low high) b h hs
    (λ touch. (le, omega arith, omega (arith, t.2), holes_from_lower (h.0 + h.1 + 1) (b.0 + (b.1 + h.1) + 1) high hs (omega arith) t.3))
    (λ apart. (le, some, inside, (omega (arith, t.0, apart), t.1, t.2, t.3)))

free-apart : (low high at n : ℕ) (hs : List Hole) → AreHoles low high hs → at < low → IsFree (at, n) hs → AreHoles (at + n) high hs
free-apart low high at n [] t less free = tt
free-apart low high at n (h ∷ hs) t less free = (grind (arith, free.0, t.0), t.1, t.2, t.3)

-- the holes lie apart after a giving
pub given-apart : (low high at n : ℕ) (hs : List Hole) → AreHoles low high hs → low ≤ at → 0 < n → at + n ≤ high → IsFree (at, n) hs → AreHoles low high (given (at, n) hs)
given-apart low high at n [] t le some inside free = (le, some, inside, tt)
given-apart low high at n (h ∷ hs) t le some inside free = given-cases (AreHoles low high) (at, n) h hs
    (λ front. joined-apart low high (at, n) (h ∷ hs) le some inside (grind (arith, free.0, t.1), t.1, t.2, t.3))
    (λ up touch. joined-apart low high (h.0, h.1 + n) hs t.0 (omega (arith, t.1)) (omega (arith, touch)) (holes_from_lower (at + n) (h.0 + (h.1 + n)) high hs (omega (arith, touch)) (free-apart (h.0 + h.1 + 1) high at n hs t.3 (omega (arith, touch)) free.1)))
    (λ up apart. (t.0, t.1, t.2, given-apart (h.0 + h.1 + 1) high at n hs t.3 (grind (arith, free.0, apart)) some inside free.1))
