-- Full binary trees of numbers, each in one list. The root is at index 1, the children of the node at i are at 2 i and 2 i + 1, and
-- the leaves are at the end. Index 0 isn't used.
use Rattle.std.specs.Prelude.{◌≡◌, ℕ, zero, suc, ◌+◌, ◌*◌, ◌^◌, ◌<◌, ◌≤◌, max, List, length, drop, slice_index_or, Option, Some, None}
use Rattle.hep_arena.specs.declared.tree.Tree.{Tree}

-- the index of the first node that is a number of levels below a node
abbrev pub leftmost : ℕ → ℕ → ℕ
leftmost zero node = node
leftmost (suc levels) node = leftmost levels (2 * node)

-- the number at an index; 0 past the end
abbrev pub number : List ℕ → ℕ → ℕ
number numbers i = slice_index_or numbers i 0

-- The node at i has the greater of the two numbers below it.
abbrev pub IsTop : List ℕ → ℕ → Type 0
IsTop numbers i = number numbers i ≡ max (number numbers (2 * i)) (number numbers (2 * i + 1))

-- The tree has no leaves, or all nodes `levels` levels below the root as leaves. `few` keeps indices within 64 bits.
pub record IsTree (tree : Tree) : Type 0 where
  pub leaves : 0 < tree.size → tree.size ≡ leftmost tree.levels 1
  pub nodes : length tree.greatest.items ≡ 2 * tree.size
  pub few : tree.size < 2 ^ 62
  pub tops : (i : ℕ) → 1 ≤ i → i < tree.size → IsTop tree.greatest.items i

abbrev pub leaves_of : Tree → List ℕ
leaves_of tree = drop tree.size tree.greatest.items

-- Each place has a leaf, and the leaves after the places are 0.
pub record IsPadded (of : Tree) (places : ℕ) : Type 0 where
  pub tree : IsTree of
  pub few : places ≤ 16777216
  pub room : places ≤ of.size
  pub zeros : (k : ℕ) → places ≤ k → number (leaves_of of) k ≡ 0

-- The result is the index of the first number that is at least `least`.
abbrev pub IsFirst : List ℕ → ℕ → Option ℕ → Type 0
IsFirst numbers least None = (k : ℕ) → number numbers k < least
IsFirst numbers least (Some found) = (least ≤ number numbers found) × ((k : ℕ) → k < found → number numbers k < least)

-- The result is the index of the last number before a place that isn't 0.
abbrev pub IsLast : List ℕ → ℕ → Option ℕ → Type 0
IsLast numbers at None = (k : ℕ) → k < at → number numbers k ≡ 0
IsLast numbers at (Some found) = (found < at) × (1 ≤ number numbers found) × ((k : ℕ) → found < k → k < at → number numbers k ≡ 0)

-- The result is the index of the first number from a place on that isn't 0.
abbrev pub IsNext : List ℕ → ℕ → Option ℕ → Type 0
IsNext numbers at None = (k : ℕ) → at ≤ k → number numbers k ≡ 0
IsNext numbers at (Some found) = (at ≤ found) × (1 ≤ number numbers found) × ((k : ℕ) → at ≤ k → k < found → number numbers k ≡ 0)
