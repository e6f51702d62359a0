-- What each call makes of an arena.
use Rattle.hep_arena.proofs.Cases.{given-cases, joined-cases}
use Rattle.std.proofs.Common.{◌≡◌, ◌⊎◌, inl, inr, ℕ, ◌+◌, ◌-◌, ◌<◌, ◌≤◌, List, [], ◌∷◌, length, Some, sym, subst, ◌∙◌, arith}
use Rattle.std.proofs.lemmas.Bool.{cases_lt}
use Rattle.hep_machine.specs.declared.slot.Slot.{Slot}
use Rattle.hep_arena.specs.declared.holes.Holes.{Holes}
use Rattle.hep_arena.specs.Holes.{Hole, AreHoles, IsOut, first_fit, free_cells, given, joined, taken}
use Rattle.hep_arena.specs.Lengths.{IsArena, IsLimited, holes_of, lower_holes, space_of}
use Rattle.hep_arena.specs.Space.{Space}
use Rattle.hep_arena.proofs.Blocks.{block-new, given-holes}
use Rattle.hep_arena.proofs.Counting.{free-few, given-cells, taken-cells}
use Rattle.hep_arena.proofs.Limits.{holes-apart}

-- ---- take

pub arena-apart : (s : List Slot) (holes : Holes) (used : ℕ) → IsArena s holes used → AreHoles 0 (length s) (holes_of holes)
arena-apart s holes used arena =
    subst (λ (k : ℕ). AreHoles 0 k (holes_of holes)) arena.cells (holes-apart 0 holes.limit (length holes.lengths) (lower_holes holes) arena.limited.lower arena.limited.inside (omega arith))

pub arena-taken : (s s' : List Slot) (holes holes' : Holes) (used n at : ℕ) → IsArena s holes used → first_fit n (holes_of holes) ≡ Some at → holes_of holes' ≡ taken n (holes_of holes) → IsLimited holes'
    → length holes'.lengths ≡ length holes.lengths → length s' ≡ length s → IsArena s' holes' (used + n)
arena-taken s s' holes holes' used n at arena fit is limited cells long = record {
  cells = cells ∙ arena.cells ∙ sym long;
  few = omega (arith, long, arena.few);
  limited = limited;
  counted =
      let less = taken-cells n at (holes_of holes) fit in let count = arena.counted in
      subst (λ (hs : List Hole). used + n + free_cells hs ≡ length s') (sym is) (omega (arith, less, count, long));
}

-- a cell that was out is none of those that were taken
pub out-beside : (n at k : ℕ) (hs : List Hole) → first_fit n hs ≡ Some at → IsOut k hs → (k < at) ⊎ (at + n ≤ k)
out-beside n at k hs fit out = elim (cases_lt k at) [
  | inl l ↦ inl l
  | inr le ↦ elim (cases_lt k (at + n)) [ inl l ↦ absurd (block-new n at k hs fit le l out) | inr r ↦ inr r ]
]

-- so many cells more are in use, and no more than there are
pub taken-used : (s : List Slot) (holes : Holes) (used n at : ℕ) → IsArena s holes used → first_fit n (holes_of holes) ≡ Some at → used + n ≤ length s
taken-used s holes used n at arena fit = let less = taken-cells n at (holes_of holes) fit in let count = arena.counted in omega arith

-- ---- give

-- what a caller knows of a block is so of what an arena keeps
pub block-reported : (s : List Slot) (holes : Holes) (at n at' n' : ℕ) (a : Space) → space_of s holes ≡ a → at' ≡ at → n' ≡ n → at + n ≤ length a.contents → ((k : ℕ) → at ≤ k → k < at + n → IsOut k a.holes)
    → (at' + n' ≤ length s) × ((k : ℕ) → at' ≤ k → k < at' + n' → IsOut k (holes_of holes))
block-reported s holes at n at' n' a view e₀ e₁ inside out =
    subst (λ (u : ℕ × ℕ × Space). (u.0 + u.1 ≤ length u.2.contents) × ((k : ℕ) → u.0 ≤ k → k < u.0 + u.1 → IsOut k u.2.holes)) (λ j. (sym e₀ j, sym e₁ j, sym view j)) (inside, out)

out-joined : (k : ℕ) (b : Hole) (hs : List Hole) → IsOut k (joined b hs) → IsOut k hs × ((k < b.0) ⊎ (b.0 + b.1 ≤ k))
out-joined k b [] = λ t. (tt, t.0)
out-joined k b (h ∷ hs) = joined-cases (λ l. IsOut k l → IsOut k (h ∷ hs) × ((k < b.0) ⊎ (b.0 + b.1 ≤ k))) b h hs
    (λ touch t. ((grind (arith, t.0), t.1), grind (arith, t.0))) (λ apart t. (t.1, t.0))

-- a cell that is out of cells that were given back was out before, and is none of them
pub out-given : (k : ℕ) (b : Hole) (hs : List Hole) → IsOut k (given b hs) → IsOut k hs × ((k < b.0) ⊎ (b.0 + b.1 ≤ k))
out-given k b [] = λ t. (tt, t.0)
out-given k b (h ∷ hs) = given-cases (λ l. IsOut k l → IsOut k (h ∷ hs) × ((k < b.0) ⊎ (b.0 + b.1 ≤ k))) b h hs
    (λ front. out-joined k b (h ∷ hs))
    (λ up touch t. let r = out-joined k (h.0, h.1 + b.1) hs t in ((grind (arith, r.1), r.0), grind (arith, r.1)))
    (λ up apart t. let r = out-given k b hs t.1 in ((t.0, r.0), r.1))

module _ (s : List Slot) (holes : Holes) (used at n : ℕ) (arena : IsArena s holes used) (some : 0 < n) (inside : at + n ≤ length s) (out : (k : ℕ) → at ≤ k → k < at + n → IsOut k (holes_of holes)) where
  back : AreHoles 0 (length s) (given (at, n) (holes_of holes))
  back = given-holes (length s) at n (holes_of holes) (arena-apart s holes used arena) some inside out

  -- so many cells are in use
  pub given-used : n ≤ used
  given-used =
      let fits = free-few (length s) (given (at, n) (holes_of holes)) back in let more = given-cells at n (holes_of holes) in let count = arena.counted in
      omega arith

  pub arena-given : (holes' : Holes) → holes_of holes' ≡ given (at, n) (holes_of holes) → IsLimited holes' → length holes'.lengths ≡ length holes.lengths → IsArena s holes' (used - n)
  arena-given holes' is limited cells = record {
    cells = cells ∙ arena.cells;
    few = arena.few;
    limited = limited;
    counted =
        let more = given-cells at n (holes_of holes) in let count = arena.counted in let le = given-used in
        subst (λ (hs : List Hole). used - n + free_cells hs ≡ length s) (sym is) (omega arith);
  }
