-- From rest to rest: what a step makes of a tree in which nothing is to be given back.
use Rattle.std.proofs.Common.{◌≡◌, ℕ, Bool, [], ◌∷◌, ◌++◌, length, Some, None, sym, subst}
use Rattle.hep_machine.specs.Words.{Activation, State}
use Rattle.hep_layout.specs.Words.{also, AreNeededBut, but, is_stacked, IsAtRest, IsFrameTree, new_node, FrameNode, Nodes, with_ended, with_node}
use Rattle.hep_layout.proofs.Beginning.{tree-same, needed-same}
use Rattle.hep_layout.proofs.FrameTreeSteps.{tree-ended, tree-entered, needed-ended, needed-entered}

-- tests that agree are one
pub one-test : (p q : ℕ → Bool) → ((a : ℕ) → p a ≡ q a) → p ≡ q
one-test p q h = λ i a. h a i

pub rest-same : (s t : State) (out : ℕ → Bool) (nodes : Nodes) → IsAtRest s out nodes → t.activations ≡ s.activations → ((a : ℕ) → is_stacked t a ≡ is_stacked s a) → IsAtRest t out nodes
rest-same s t out nodes rest e stacks =
    let on : is_stacked s ≡ is_stacked t = one-test (is_stacked s) (is_stacked t) (λ a. sym (stacks a)) in
    record {
      tree = subst (λ p. IsFrameTree t p out nodes) on (tree-same s t (is_stacked s) out nodes e rest.tree);
      needed = subst (λ p. AreNeededBut None t p out) on (needed-same s t (is_stacked s) out None e rest.needed);
    }

pub rest-begun : (s t : State) (x : Activation) (out : ℕ → Bool) (nodes : Nodes) (first cells v k : ℕ) (n : FrameNode) → IsAtRest s out nodes → nodes v ≡ None → nodes k ≡ Some n → t.activations ≡ s.activations ++ x ∷ [] → x.parent ≡ Some n.activation
    → ((a : ℕ) → is_stacked t a ≡ also (length t.activations) (is_stacked s) a) → IsAtRest t (also (length t.activations) out) (with_node nodes v (new_node (length t.activations) x.unit first cells k) k)
rest-begun s t x out nodes first cells v k n rest free at more owner stacks =
    let on : also (length t.activations) (is_stacked s) ≡ is_stacked t = one-test (also (length t.activations) (is_stacked s)) (is_stacked t) (λ a. sym (stacks a)) in
    record {
      tree = subst (λ p. IsFrameTree t p (also (length t.activations) out) (with_node nodes v (new_node (length t.activations) x.unit first cells k) k)) on (tree-entered s t x (is_stacked s) out nodes first cells v k n rest.tree free at more owner);
      needed = subst (λ p. AreNeededBut None t p (also (length t.activations) out)) on (needed-entered s t x (is_stacked s) out nodes k n rest.tree at more owner rest.needed);
    }

pub rest-ended : (s t : State) (out : ℕ → Bool) (nodes : Nodes) (k : ℕ) (n : FrameNode) → IsAtRest s out nodes → nodes k ≡ Some n → t.activations ≡ s.activations → ((a : ℕ) → is_stacked t a ≡ but n.activation (is_stacked s) a)
    → IsFrameTree t (is_stacked t) out (with_ended nodes k) × AreNeededBut (Some n.activation) t (is_stacked t) out
rest-ended s t out nodes k n rest at e stacks =
    let on : but n.activation (is_stacked s) ≡ is_stacked t = one-test (but n.activation (is_stacked s)) (is_stacked t) (λ a. sym (stacks a)) in
    (subst (λ p. IsFrameTree t p out (with_ended nodes k)) on (tree-same s t (but n.activation (is_stacked s)) out (with_ended nodes k) e (tree-ended s (is_stacked s) out nodes k n rest.tree at)), subst (λ p. AreNeededBut (Some n.activation) t p out) on (needed-same s t (but n.activation (is_stacked s)) out (Some n.activation) e (needed-ended s (is_stacked s) out n.activation rest.needed)))
