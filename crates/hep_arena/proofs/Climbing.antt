-- The way up from a leaf, past all that comes behind it.
use Rattle.std.proofs.Common.{◌≡◌, ℕ, suc, ◌+◌, ◌*◌, ◌/◌, ◌%◌, ◌<◌, ◌≤◌, List, length, drop, refl, sym, ap, ◌∙◌, ◌⊎◌, inl, inr, zero-add, arith}
use Rattle.std.proofs.lemmas.Bool.{cases_lt}
use Rattle.hep_arena.specs.Trees.{IsTop, leftmost, number}
use Rattle.hep_arena.proofs.Nodes.{leftmost-add, leftmost-double, leftmost-le, leftmost-rises, low_below, number-leaf, number-past}

-- from `first` on all are 0 up to the last leaf below a node, which is so many levels above the leaves and so many
-- below the root
pub record IsRise (numbers : List ℕ) (size first level above node : ℕ) : Type 0 where
  pub behind : first ≤ leftmost level (node + 1)
  pub zeros : (k : ℕ) → first ≤ k → k < leftmost level (node + 1) → k < 2 * size → number numbers k < 1
  pub begins : leftmost above 1 ≤ node
  pub ends : node < 2 * leftmost above 1
  pub leaves : size ≡ leftmost (above + level) 1

module _ (numbers : List ℕ) (size : ℕ) (tops : (i : ℕ) → 1 ≤ i → i < size → IsTop numbers i) where
  rise-step : (first level above node half end : ℕ) → IsRise numbers size first level (suc above) node → node / 2 ≡ half → 2 * (half + 1) ≡ end → end ≡ node + 1 ⊎ ((end ≡ node + 1 + 1) × (number numbers (node + 1) < 1))
      → IsRise numbers size first (suc level) above half
  rise-step first level above node half end a h is which =
      let double = leftmost-double above 1 in
      let up = leftmost-rises level (node + 1) end (elim which [ inl l ↦ omega arith | inr r ↦ omega (arith, r.0) ]) in
      let to = ap (leftmost level) is in
      let sum : suc above + level ≡ above + suc level = omega arith in
      record {
        behind = omega (arith, a.behind, up, to);
        zeros = λ k low high inside. elim which [
          | inl l ↦ a.zeros k low (omega (arith, high, to, ap (leftmost level) l)) inside
          | inr r ↦ elim (cases_lt k (leftmost level (node + 1))) [
            | inl before ↦ a.zeros k low before inside
            | inr from ↦ low_below numbers size 1 tops level (node + 1) end k (omega arith) r.0 r.1 from (omega (arith, high, to)) inside
          ]
        ];
        begins = omega (arith, a.begins, double);
        ends = omega (arith, a.ends, double);
        leaves = a.leaves ∙ ap (λ (n : ℕ). leftmost n 1) sum;
      }

  -- a node at the right side
  pub rise-odd : (first level above node : ℕ) → IsRise numbers size first level (suc above) node → node % 2 ≡ 1 → IsRise numbers size first (suc level) above (node / 2)
  rise-odd first level above node a odd = let e : 2 * (node / 2 + 1) ≡ node + 1 = omega arith in rise-step first level above node (node / 2) (node + 1) a refl e (inl refl)

  -- a node at the left side, where the other one is 0
  pub rise-even : (first level above node : ℕ) → IsRise numbers size first level (suc above) node → node % 2 ≡ 0 → number numbers (node + 1) < 1 → IsRise numbers size first (suc level) above (node / 2)
  rise-even first level above node a even zero = let e : 2 * (node / 2 + 1) ≡ node + 1 + 1 = omega arith in rise-step first level above node (node / 2) (node + 1 + 1) a refl e (inr (refl, zero))

-- the node after one at the left side is a node of the tree, and so are the leaves below it
pub rise-next : (numbers : List ℕ) (size first level above node : ℕ) → IsRise numbers size first level above node → node % 2 ≡ 0 → node + 1 < 2 * leftmost above 1
rise-next numbers size first level above node a even = omega (arith, a.ends)

pub rise-node : (numbers : List ℕ) (size first level above node : ℕ) → IsRise numbers size first level above node → node % 2 ≡ 0 → node + 1 < 2 * size
rise-node numbers size first level above node a even =
    let le = leftmost-le level (leftmost above 1) in
    omega (arith, rise-next numbers size first level above node a even, leftmost-add level above 1, a.leaves)

pub rise-inside : (numbers : List ℕ) (size first level above node : ℕ) → IsRise numbers size first level above node → node % 2 ≡ 0 → leftmost level (node + 1 + 1) ≤ 2 * size
rise-inside numbers size first level above node a even =
    let top = leftmost-rises level (node + 1 + 1) (2 * leftmost above 1) (omega (arith, rise-next numbers size first level above node a even)) in
    let double = leftmost-double level (leftmost above 1) in
    omega (arith, top, double, leftmost-add level above 1, a.leaves)

-- past the root nothing is left to climb
pub rise-ends : (numbers : List ℕ) (size at node levels : ℕ) → IsRise numbers size (size + at) levels 0 node → length numbers ≡ 2 * size → (k : ℕ) → at ≤ k → number (drop size numbers) k ≡ 0
rise-ends numbers size at node levels a nodes k from =
    let root : node ≡ 1 = omega (arith, a.begins, a.ends) in
    let one = ap (λ (n : ℕ). leftmost n 1) (sym (zero-add levels)) ∙ sym a.leaves in
    let all = ap (λ (n : ℕ). leftmost levels (n + 1)) root ∙ leftmost-double levels 1 ∙ ap (λ (n : ℕ). 2 * n) one in
    elim (cases_lt k size) [
      | inl l ↦ number-leaf numbers size k (size + k) refl ∙ omega (arith, a.zeros (size + k) (omega arith) (omega (arith, all)) (omega arith))
      | inr r ↦ number-past numbers size k nodes r
    ]
