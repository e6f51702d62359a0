-- How many children a node can have.
use Rattle.std.proofs.Common.{ℕ, zero, suc, ◌+◌, ◌<◌, ◌≤◌, ◌^◌, Bool, true, false, length, arith, if◌then◌else◌, ◌&&◌}
use Rattle.hep_machine.specs.Words.{parent_of}
use Rattle.hep_arena.specs.Space.{Space}
use Rattle.hep_layout.specs.Words.{count_up_to, is_just, Nodes}
use Rattle.hep_proc.specs.FrameTable.{FramesOf, Keeps}
use Rattle.hep_proc.specs.Nodes.{CanCount}

few-counted : (test : ℕ → Bool) (n : ℕ) → count_up_to test n ≤ n
few-counted test zero = omega arith
few-counted test (suc n) = by_test (few-counted test n) (test (suc n)) where
  by_test : count_up_to test n ≤ n → (b : Bool) → count_up_to test n + (if b then 1 else 0) ≤ suc n
  by_test h true = omega (arith, h)
  by_test h false = omega (arith, h)

pub can-count : (f : FramesOf) (arena : Space) (nodes : Nodes) (key : ℕ) → Keeps f arena nodes → length f.state.activations + 1 < 2 ^ 64 → CanCount nodes key
can-count f arena nodes key h few n at =
    let children = (h.tree.shown key n at).children_are in
    let counted = few-counted (λ c. f.out c && is_just n.activation (parent_of f.state c)) (length f.state.activations) in
    omega (arith, children, counted, few)
