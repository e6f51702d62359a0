-- A number is written, and then those of the nodes above it one after the other.
use Rattle.std.proofs.Common.{◌≡◌, ◌≢◌, ◌⊎◌, ℕ, ◌+◌, ◌*◌, ◌/◌, ◌<◌, ◌≤◌, max, List, length, set, sym, ap, subst, ◌∙◌, inl, inr, arith, get_or-set_same, get_or-set_other, length-set}
use Rattle.std.proofs.Math.Nat.{max_comm}
use Rattle.std.proofs.lemmas.Bool.{cases_eq}
use Rattle.hep_arena.specs.Trees.{IsTop, number}

-- after a write to a node all the others but the one above it are as they were
pub record IsMended (numbers : List ℕ) (size node : ℕ) : Type 0 where
  pub some : 1 ≤ node
  pub inside : node < 2 * size
  pub nodes : length numbers ≡ 2 * size
  pub tops : (i : ℕ) → 1 ≤ i → i < size → (i ≡ node / 2 → ⊥) → IsTop numbers i

module _ (numbers : List ℕ) (size node : ℕ) (value : ℕ) where
  others : (i : ℕ) → i ≢ node → i ≢ node / 2 → IsTop numbers i → IsTop (set numbers node value) i
  others i apart above u =
      let left : 2 * i ≢ node = λ e. above (omega arith) in
      let right : 2 * i + 1 ≢ node = λ e. above (omega arith) in
      rw (get_or-set_other numbers node i value 0 apart, get_or-set_other numbers node (2 * i) value 0 left, get_or-set_other numbers node (2 * i + 1) value 0 right) u

  written : 1 ≤ node → node < length numbers → value ≡ max (number numbers (2 * node)) (number numbers (2 * node + 1)) → (i : ℕ) → i ≡ node → IsTop (set numbers node value) i
  written some inside is i e =
      let left : 2 * node ≢ node = omega arith in
      let right : 2 * node + 1 ≢ node = omega arith in
      subst (IsTop (set numbers node value)) (sym e) (rw (get_or-set_same numbers node value 0 inside, get_or-set_other numbers node (2 * node) value 0 left, get_or-set_other numbers node (2 * node + 1) value 0 right) is)

  -- a node is written after all those behind it
  pub filled-step : (next : ℕ) → 1 ≤ node → next ≡ node + 1 → node < length numbers → value ≡ max (number numbers (2 * node)) (number numbers (2 * node + 1)) → ((i : ℕ) → 1 ≤ i → next ≤ i → i < size → IsTop numbers i)
      → (i : ℕ) → 1 ≤ i → node ≤ i → i < size → IsTop (set numbers node value) i
  filled-step next some step inside is tops i low from high = elim (cases_eq i node) [
    | inl e ↦ written some inside is i e
    | inr ne ↦ others i ne (λ e. omega (arith, ne)) (tops i low (omega (arith, ne)) high)
  ]

  pub mended-begins : 1 ≤ node → size ≤ node → node < 2 * size → length numbers ≡ 2 * size → ((i : ℕ) → 1 ≤ i → i < size → IsTop numbers i) → IsMended (set numbers node value) size node
  mended-begins some leaf inside nodes tops = record {
    some = some;
    inside = inside;
    nodes = length-set numbers node value ∙ nodes;
    tops = λ i low high apart. others i (λ e. omega arith) apart (tops i low high);
  }

pub mended-step : (numbers : List ℕ) (size node : ℕ) (value : ℕ) → IsMended numbers size node → 1 < node → value ≡ max (number numbers (2 * (node / 2))) (number numbers (2 * (node / 2) + 1)) → IsMended (set numbers (node / 2) value) size (node / 2)
mended-step numbers size node value m more is = record {
  some = omega (arith, m.some);
  inside = omega (arith, m.inside);
  nodes = length-set numbers (node / 2) value ∙ m.nodes;
  tops = λ i low high apart. elim (cases_eq i (node / 2)) [
    | inl e ↦ written numbers size (node / 2) value (omega arith) (omega (arith, m.inside, m.nodes)) is i e
    | inr ne ↦ others numbers size (node / 2) value i ne apart (m.tops i low high ne)
  ];
}

-- the greater one of the numbers of the two nodes below a node, one of which is at hand
pub sides-max : (numbers : List ℕ) (node other up top x : ℕ) → number numbers node ≡ top → number numbers other ≡ x → ((2 * up ≡ node) × (2 * up + 1 ≡ other)) ⊎ ((2 * up ≡ other) × (2 * up + 1 ≡ node))
    → max top x ≡ max (number numbers (2 * up)) (number numbers (2 * up + 1))
sides-max numbers node other up top x here there sides = elim sides [
  | inl s ↦
      let left : top ≡ number numbers (2 * up) = sym here ∙ ap (number numbers) (sym s.0) in
      let right : x ≡ number numbers (2 * up + 1) = sym there ∙ ap (number numbers) (sym s.1) in
      (λ i. max (left i) (right i))
  | inr s ↦
      let left : x ≡ number numbers (2 * up) = sym there ∙ ap (number numbers) (sym s.0) in
      let right : top ≡ number numbers (2 * up + 1) = sym here ∙ ap (number numbers) (sym s.1) in
      max_comm top x ∙ (λ i. max (left i) (right i))
]
