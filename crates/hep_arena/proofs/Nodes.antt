-- The nodes of a tree of numbers: what is below a node, the ways down to a leaf, and the way up.
use Rattle.std.proofs.Common.{◌≡◌, ℕ, zero, suc, ◌+◌, ◌-◌, ◌*◌, ◌/◌, ◌%◌, ◌<◌, ◌≤◌, max, List, length, drop, refl, sym, ap, ◌∙◌, ◌⊎◌, inl, inr, zero-add, arith, get_or, get_or-drop}
use Rattle.std.proofs.Math.Nat.{le-max_left, le-max_right, max-eq_left, max-eq_right}
use Rattle.std.proofs.lemmas.List.{get_or_default, get_or_past}
use Rattle.std.proofs.lemmas.Bool.{cases_lt}
use Rattle.hep_arena.specs.Trees.{IsTop, leftmost, number}

-- ---- the leftmost node so many levels below

pub leftmost-le : (k i : ℕ) → i ≤ leftmost k i
leftmost-le zero i = omega arith
leftmost-le (suc k) i = omega (arith, leftmost-le k (2 * i))

pub leftmost-rises : (k i j : ℕ) → i ≤ j → leftmost k i ≤ leftmost k j
leftmost-rises zero i j h = h
leftmost-rises (suc k) i j h = leftmost-rises k (2 * i) (2 * j) (omega arith)

pub leftmost-double : (k i : ℕ) → leftmost k (2 * i) ≡ 2 * leftmost k i
leftmost-double zero i = refl
leftmost-double (suc k) i = leftmost-double k (2 * i)

-- as many levels and then others are all of them
pub leftmost-add : (k j i : ℕ) → leftmost k (leftmost j i) ≡ leftmost (j + k) i
leftmost-add k zero i = let n : k ≡ 0 + k = omega arith in ap (λ (m : ℕ). leftmost m i) n
leftmost-add k (suc j) i =
    let n : suc (j + k) ≡ suc j + k = omega arith in
    leftmost-add k j (2 * i) ∙ ap (λ (m : ℕ). leftmost m i) n

-- ---- numbers that are read

pub number-read : (numbers : List ℕ) (i x : ℕ) → i < length numbers → x ≡ get_or numbers i x → number numbers i ≡ x
number-read numbers i x h e = get_or_default numbers i 0 x h ∙ sym e

-- a leaf is read at its place behind the other nodes
pub number-leaf : (numbers : List ℕ) (size i j : ℕ) → size + i ≡ j → number (drop size numbers) i ≡ number numbers j
number-leaf numbers size i j e = get_or-drop size numbers i 0 ∙ ap (number numbers) e

pub number-past : (numbers : List ℕ) (size k : ℕ) → length numbers ≡ 2 * size → size ≤ k → number (drop size numbers) k ≡ 0
number-past numbers size k nodes h = number-leaf numbers size k (size + k) refl ∙ get_or_past numbers (size + k) 0 (omega arith)

-- only a tree with leaves has a root
pub root-inside : (size : ℕ) (numbers : List ℕ) → length numbers ≡ 2 * size → 1 ≤ number numbers 1 → 0 < size
root-inside zero numbers nodes some = absurd (omega (arith, get_or_past numbers 1 0 (omega arith)))
root-inside (suc size) numbers nodes some = omega arith

-- ---- below a node

max-right : (a b least : ℕ) → least ≤ max a b → a < least → least ≤ b
max-right a b least h l = elim (cases_lt a b) [
  | inl w ↦ omega arith
  | inr w ↦ omega (arith, max-eq_left {n = a} {m = b} w)
]

max-left : (a b least : ℕ) → least ≤ max a b → b < least → least ≤ a
max-left a b least h l = elim (cases_lt a b) [
  | inl w ↦ omega (arith, max-eq_right {n = a} {m = b} (omega arith))
  | inr w ↦ omega arith
]

module _ (numbers : List ℕ) (size least : ℕ) (tops : (i : ℕ) → 1 ≤ i → i < size → IsTop numbers i) where
  low-left : (i : ℕ) → 1 ≤ i → i < size → number numbers i < least → number numbers (2 * i) < least
  low-left i some inner low = omega (arith, tops i some inner, le-max_left (number numbers (2 * i)) (number numbers (2 * i + 1)))

  low-right : (i : ℕ) → 1 ≤ i → i < size → number numbers i < least → number numbers (2 * i + 1) < least
  low-right i some inner low = omega (arith, tops i some inner, le-max_right (number numbers (2 * i)) (number numbers (2 * i + 1)))

  -- every number below a node with too small a number is too small
  pub low_below : (k i e j : ℕ) → 1 ≤ i → e ≡ i + 1 → number numbers i < least → leftmost k i ≤ j → j < leftmost k e → j < 2 * size → number numbers j < least
  low_below zero i e j some is low from to inside =
      let same : j ≡ i = omega arith in omega (arith, ap (number numbers) same)
  low_below (suc k) i e j some is low from to inside =
      let inner : i < size = omega (arith, leftmost-le k (2 * i)) in
      elim (cases_lt j (leftmost k (2 * i + 1))) [
        | inl l ↦ low_below k (2 * i) (2 * i + 1) j (omega arith) refl (low-left i some inner low) from l inside
        | inr r ↦ low_below k (2 * i + 1) (2 * e) j (omega arith) (omega arith) (low-right i some inner low) r to inside
      ]

  -- below a node with a number that is great enough there is a leaf with one
  great_below : (k i e : ℕ) → 1 ≤ i → e ≡ i + 1 → least ≤ number numbers i → leftmost k e ≤ 2 * size → (j : ℕ) × (leftmost k i ≤ j) × (least ≤ number numbers j)
  great_below zero i e some is great inside = (i, omega arith, great)
  great_below (suc k) i e some is great inside =
      let inner : i < size = omega (arith, leftmost-le k (2 * e)) in
      let one : least ≤ max (number numbers (2 * i)) (number numbers (2 * i + 1)) = omega (arith, tops i some inner) in
      elim (cases_lt (number numbers (2 * i)) least) [
        | inl l ↦
            let right = great_below k (2 * i + 1) (2 * e) (omega arith) (omega arith) (max-right _ _ least one l) inside in
            (right.0, omega (arith, right.1, leftmost-rises k (2 * i) (2 * i + 1) (omega arith)), right.2)
        | inr r ↦ great_below k (2 * i) (2 * i + 1) (omega arith) refl r (omega (arith, leftmost-rises k (2 * i + 1) (2 * e) (omega arith)))
      ]

  -- ---- below the root

  module _ (levels : ℕ) (nodes : length numbers ≡ 2 * size) (leaves : 0 < size → size ≡ leftmost levels 1) where
    pub root-none : number numbers 1 < least → 1 ≤ least → (k : ℕ) → number (drop size numbers) k < least
    root-none low some k = elim (cases_lt k size) [
      | inl l ↦
          let all = leaves (omega arith) in
          omega (arith, number-leaf numbers size k (size + k) refl, low_below levels 1 2 (size + k) (omega arith) refl low (omega (arith, all)) (omega (arith, leftmost-double levels 1, all)) (omega arith))
      | inr r ↦ omega (arith, number-past numbers size k nodes r)
    ]

    pub root-some : least ≤ number numbers 1 → 1 ≤ least → (k : ℕ) × (least ≤ number (drop size numbers) k)
    root-some great some =
        let all = leaves (root-inside size numbers nodes (omega arith)) in
        let found = great_below levels 1 2 (omega arith) refl great (omega (arith, leftmost-double levels 1, all)) in
        (found.0 - size, omega (arith, number-leaf numbers size (found.0 - size) found.0 (omega (arith, found.1, all)), found.2))

-- ---- the ways down, among the leaves from `first` up to `last`

-- before the leaves below a node, which has a number that is great enough, all are too small
pub record IsDescent (numbers : List ℕ) (least first last below node : ℕ) : Type 0 where
  pub great : least ≤ number numbers node
  pub some : 1 ≤ node
  pub inside : leftmost below (node + 1) ≤ last
  pub from : first ≤ leftmost below node
  pub low : (k : ℕ) → first ≤ k → k < leftmost below node → number numbers k < least

-- behind them all are too small
pub record IsLastDescent (numbers : List ℕ) (least first last below node : ℕ) : Type 0 where
  pub great : least ≤ number numbers node
  pub some : 1 ≤ node
  pub inside : leftmost below (node + 1) ≤ last
  pub from : first ≤ leftmost below node
  pub low : (k : ℕ) → leftmost below (node + 1) ≤ k → k < last → number numbers k < least

module _ (numbers : List ℕ) (size least first last : ℕ) (ends : last ≤ 2 * size) (tops : (i : ℕ) → 1 ≤ i → i < size → IsTop numbers i) where
  pub descent-inner : (below node : ℕ) → IsDescent numbers least first last (suc below) node → node < size
  descent-inner below node d = omega (arith, leftmost-le below (2 * (node + 1)), d.inside)

  pub descent-left : (below node : ℕ) → IsDescent numbers least first last (suc below) node → least ≤ number numbers (2 * node) → IsDescent numbers least first last below (2 * node)
  descent-left below node d great = record {
    great = great;
    some = omega (arith, d.some);
    inside = omega (arith, d.inside, leftmost-rises below (2 * node + 1) (2 * (node + 1)) (omega arith));
    from = d.from;
    low = d.low;
  }

  pub descent-right : (below node : ℕ) → IsDescent numbers least first last (suc below) node → number numbers (2 * node) < least → IsDescent numbers least first last below (2 * node + 1)
  descent-right below node d low =
      let inner = descent-inner below node d in
      let same : 2 * (node + 1) ≡ (2 * node + 1) + 1 = omega arith in
      let end = ap (leftmost below) same in
      let up = leftmost-rises below (2 * node) (2 * node + 1) (omega arith) in
      let to = leftmost-rises below (2 * node + 1) (2 * (node + 1)) (omega arith) in
      record {
        great = max-right (number numbers (2 * node)) (number numbers (2 * node + 1)) least (omega (arith, d.great, tops node d.some inner)) low;
        some = omega arith;
        inside = omega (arith, d.inside, end);
        from = omega (arith, d.from, up);
        low = λ k begins high. elim (cases_lt k (leftmost below (2 * node))) [
          | inl l ↦ d.low k begins l
          | inr r ↦ low_below numbers size least tops below (2 * node) (2 * node + 1) k (omega (arith, d.some)) refl low r high (omega (arith, d.inside, to))
        ];
      }

  pub last-descent-inner : (below node : ℕ) → IsLastDescent numbers least first last (suc below) node → node < size
  last-descent-inner below node d = omega (arith, leftmost-le below (2 * (node + 1)), d.inside)

  pub last-descent-right : (below node : ℕ) → IsLastDescent numbers least first last (suc below) node → least ≤ number numbers (2 * node + 1) → IsLastDescent numbers least first last below (2 * node + 1)
  last-descent-right below node d great =
      let same : 2 * (node + 1) ≡ (2 * node + 1) + 1 = omega arith in
      let end = ap (leftmost below) same in
      record {
        great = great;
        some = omega (arith, d.some);
        inside = omega (arith, d.inside, end);
        from = omega (arith, d.from, leftmost-rises below (2 * node) (2 * node + 1) (omega arith));
        low = λ k begins high. d.low k (omega (arith, begins, end)) high;
      }

  pub last-descent-left : (below node : ℕ) → IsLastDescent numbers least first last (suc below) node → number numbers (2 * node + 1) < least → IsLastDescent numbers least first last below (2 * node)
  last-descent-left below node d low =
      let inner = last-descent-inner below node d in
      let next : 2 * (node + 1) ≡ (2 * node + 1) + 1 = omega arith in
      let to = leftmost-rises below (2 * node + 1) (2 * (node + 1)) (omega arith) in
      record {
        great = max-left (number numbers (2 * node)) (number numbers (2 * node + 1)) least (omega (arith, d.great, tops node d.some inner)) low;
        some = omega (arith, d.some);
        inside = omega (arith, d.inside, to);
        from = d.from;
        low = λ k begins high. elim (cases_lt k (leftmost below (2 * (node + 1)))) [
          | inl l ↦ low_below numbers size least tops below (2 * node + 1) (2 * (node + 1)) k (omega arith) next low begins l (omega arith)
          | inr r ↦ d.low k r high
        ];
      }

-- ---- the way up from a leaf

-- from the first leaf below a node, which is so many levels above the leaves and so many below the root, all are too small up
-- to `last`
pub record IsAscent (numbers : List ℕ) (least size last level above node : ℕ) : Type 0 where
  pub before : leftmost level node ≤ last
  pub low : (k : ℕ) → leftmost level node ≤ k → k < last → number numbers k < least
  pub begins : leftmost above 1 ≤ node
  pub ends : node < 2 * leftmost above 1
  pub leaves : size ≡ leftmost (above + level) 1

module _ (numbers : List ℕ) (size least last : ℕ) (within : last ≤ 2 * size) (tops : (i : ℕ) → 1 ≤ i → i < size → IsTop numbers i) where
  ascent-step : (level above node half other : ℕ) → IsAscent numbers least size last level (suc above) node → node / 2 ≡ half → 2 * half ≡ other → other ≡ node ⊎ ((node ≡ other + 1) × (1 ≤ other) × (number numbers other < least))
      → IsAscent numbers least size last (suc level) above half
  ascent-step level above node half other a h is which =
      let double = leftmost-double above 1 in
      let up = leftmost-rises level other node (elim which [ inl l ↦ omega arith | inr r ↦ omega (arith, r.0) ]) in
      let to = ap (leftmost level) is in
      let sum : suc above + level ≡ above + suc level = omega arith in
      record {
        before = omega (arith, a.before, up, to);
        low = λ k from high. elim which [
          | inl l ↦ a.low k (omega (arith, from, to, ap (leftmost level) l)) high
          | inr r ↦ elim (cases_lt k (leftmost level node)) [
            | inl before ↦ low_below numbers size least tops level other node k r.1 r.0 r.2 (omega (arith, from, to)) before (omega arith)
            | inr behind ↦ a.low k behind high
          ]
        ];
        begins = omega (arith, a.begins, double);
        ends = omega (arith, a.ends, double);
        leaves = a.leaves ∙ ap (λ (n : ℕ). leftmost n 1) sum;
      }

  -- a node at the left side
  pub ascent-even : (level above node : ℕ) → IsAscent numbers least size last level (suc above) node → node % 2 ≡ 0 → IsAscent numbers least size last (suc level) above (node / 2)
  ascent-even level above node a even = let e : 2 * (node / 2) ≡ node = omega arith in ascent-step level above node (node / 2) node a refl e (inl refl)

  -- a node at the right side, where the other one's number is too small
  pub ascent-odd : (level above node : ℕ) → IsAscent numbers least size last level (suc above) node → node % 2 ≡ 1 → number numbers (node - 1) < least → IsAscent numbers least size last (suc level) above (node / 2)
  ascent-odd level above node a odd low =
      let e : 2 * (node / 2) ≡ node - 1 = omega arith in
      let next : node ≡ (node - 1) + 1 = omega arith in
      let some : 1 ≤ node - 1 = omega (arith, a.begins, leftmost-double above 1, leftmost-le above 1) in
      ascent-step level above node (node / 2) (node - 1) a refl e (inr (next, some, low))

-- the nodes on the way up are nodes of the tree, and so are the leaves below them
pub ascent-inside : (numbers : List ℕ) (least size last level above node : ℕ) → IsAscent numbers least size last level above node → leftmost level (node + 1) ≤ 2 * size
ascent-inside numbers least size last level above node a =
    let top = leftmost-rises level (node + 1) (2 * leftmost above 1) (omega (arith, a.ends)) in
    let double = leftmost-double level (leftmost above 1) in
    omega (arith, top, double, leftmost-add level above 1, a.leaves)

pub ascent-node : (numbers : List ℕ) (least size last level above node : ℕ) → IsAscent numbers least size last level above node → node < 2 * size
ascent-node numbers least size last level above node a =
    omega (arith, leftmost-le level (node + 1), ascent-inside numbers least size last level above node a)

-- below the root there is another node before one at the right side
pub ascent-other : (numbers : List ℕ) (least size last level above node : ℕ) → IsAscent numbers least size last level (suc above) node → node % 2 ≡ 1 → 1 ≤ node - 1
ascent-other numbers least size last level above node a odd = omega (arith, a.begins, leftmost-double above 1, leftmost-le above 1)

-- all leaves below that other node are leaves of the tree
pub ascent-first : (numbers : List ℕ) (least size last level above node : ℕ) → IsAscent numbers least size last level (suc above) node → node % 2 ≡ 1 → size ≤ leftmost level (node - 1)
ascent-first numbers least size last level above node a odd =
    let from = leftmost-rises level (2 * leftmost above 1) (node - 1) (omega (arith, a.begins, leftmost-double above 1)) in
    let double = leftmost-double above 1 in
    let sum = leftmost-add level (suc above) 1 in
    let same = ap (leftmost level) double in
    omega (arith, from, same, sum, a.leaves)

-- past the root nothing is left to climb
pub ascent-ends : (numbers : List ℕ) (size at node levels : ℕ) → IsAscent numbers 1 size (size + at) levels 0 node → (k : ℕ) → k < at → number (drop size numbers) k ≡ 0
ascent-ends numbers size at node levels a k to =
    let root : node ≡ 1 = omega (arith, a.begins, a.ends) in
    let one = ap (λ (n : ℕ). leftmost n 1) (sym (zero-add levels)) ∙ sym a.leaves in
    let all = ap (leftmost levels) root ∙ one in
    number-leaf numbers size k (size + k) refl ∙ omega (arith, a.low (size + k) (omega (arith, all)) (omega arith))
