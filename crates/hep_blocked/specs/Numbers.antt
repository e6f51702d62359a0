-- The ready processes by their numbers: docs/MACHINE.md, "Which process comes next".
use Rattle.std.specs.Prelude.{◌≡◌, ℕ, zero, suc, ◌+◌, ◌<◌, ◌≤◌, nat_eq, nat_lt, if◌then◌else◌, List, [], ◌∷◌, Option, Some, None}
use Rattle.std.specs.Int.{bit_at}
use Rattle.hep_arena.specs.declared.tree.Tree.{Tree}
use Rattle.hep_arena.specs.Trees.{IsTree, leaves_of, number}

-- the greatest number that there is room for, and the numbers of the ready processes, which rise
pub record Numbers : Type 0 where
  pub room : ℕ
  pub ready : List ℕ

-- rising numbers with p inserted; the same ones where it is among them
abbrev pub with_number : ℕ → List ℕ → List ℕ
with_number p [] = p ∷ []
with_number p (q ∷ qs) = if nat_lt p q then p ∷ q ∷ qs else (if nat_eq p q then q ∷ qs else q ∷ with_number p qs)

-- the numbers of the marks that are set, which are those that aren't 0; the first mark has the number n
abbrev pub numbers_from : ℕ → List ℕ → List ℕ
numbers_from n [] = []
numbers_from n (zero ∷ ms) = numbers_from (suc n) ms
numbers_from n (suc m ∷ ms) = n ∷ numbers_from (suc n) ms

-- each number has a leaf; the number of the first one is 1
abbrev pub numbers_of : Tree → Numbers
numbers_of tree = record { room = tree.size; ready = numbers_from 1 (leaves_of tree) }

-- 64 bits are the first marks
abbrev pub AreBits : ℕ → List ℕ → Type 0
AreBits bits marks = (k : ℕ) → k < 64 → bit_at bits k ≡ number marks k

-- the first of 64 bits that is set, from a place on
abbrev pub IsNextBit : ℕ → ℕ → Option ℕ → Type 0
IsNextBit bits from None = (k : ℕ) → from ≤ k → k < 64 → bit_at bits k ≡ 0
IsNextBit bits from (Some at) = (from ≤ at) × (at < 64) × (bit_at bits at ≡ 1) × ((k : ℕ) → from ≤ k → k < at → bit_at bits k ≡ 0)

-- the bits have the first leaves too
pub record IsMarked (of : Tree) (first : ℕ) : Type 0 where
  pub tree : IsTree of
  pub bits : AreBits first (leaves_of of)

-- numbers rise, and lie between two
abbrev pub AreRising : ℕ → ℕ → List ℕ → Type 0
AreRising least greatest [] = Unit {0}
AreRising least greatest (p ∷ ps) = (least ≤ p) × (p ≤ greatest) × AreRising (p + 1) greatest ps
