-- The holes lie apart after a taking.
use Rattle.hep_arena.proofs.Cases.{shortened-cases, taken-cases}
use Rattle.std.proofs.Common.{ℕ, ◌+◌, ◌-◌, ◌≤◌, List, [], ◌∷◌, arith}
use Rattle.hep_arena.specs.Holes.{Hole, AreHoles, shortened, taken}

pub holes_from_lower : (low low' high : ℕ) (hs : List Hole) → low' ≤ low → AreHoles low high hs → AreHoles low' high hs
holes_from_lower low low' high [] le t = tt
holes_from_lower low low' high (h ∷ hs) le t = (omega (arith, t.0), t.1, t.2, t.3)

shortened-apart : (n high : ℕ) (h : Hole) (back : List Hole) → n ≤ h.1 → h.0 + h.1 ≤ high → AreHoles (h.0 + h.1 + 1) high back → AreHoles (h.0 + n) high (shortened n h back)
shortened-apart n high h back fits inside t = shortened-cases (AreHoles (h.0 + n) high) n h back
    (λ all. holes_from_lower (h.0 + h.1 + 1) (h.0 + n) high back (omega arith) t)
    (λ part. (omega arith, omega (arith, part), omega arith, holes_from_lower (h.0 + h.1 + 1) (h.0 + n + (h.1 - n) + 1) high back (omega arith) t))

pub taken-apart : (n low high : ℕ) (hs : List Hole) → AreHoles low high hs → AreHoles low high (taken n hs)
taken-apart n low high [] t = tt
taken-apart n low high (h ∷ hs) t = taken-cases (AreHoles low high) n h hs
    (λ fits. holes_from_lower (h.0 + n) low high (shortened n h hs) (omega (arith, t.0)) (shortened-apart n high h hs fits t.2 t.3))
    (λ short. (t.0, t.1, t.2, taken-apart n (h.0 + h.1 + 1) high hs t.3))
