-- The nodes and the cells once a new activation's frame has entered.
use Rattle.std.proofs.Common.{◌≡◌, ℕ, Bool, true, false, Some, None, refl, sym, ap, ◌∙◌, suc, ◌+◌, ◌<◌, ◌≤◌, length, Option, subst, arith, if◌then◌else◌, nat_eq, eqb-true, eq-eqb}
use Rattle.std.specs.Option.{option_map}
use Rattle.std.proofs.lemmas.Option.{none-some}
use Rattle.hep_layout.specs.Words.{FrameNode, Nodes, with_node, with_one_more, IsMemory}
use Rattle.hep_machine.specs.Words.{Frame, common_cells, lowest_gap, with_frame}
use Rattle.hep_arena.specs.Gaps.{frame_among}
use Rattle.hep_arena.specs.Holes.{IsOut, first_fit, taken}
use Rattle.hep_arena.specs.Space.{Space}
use Rattle.hep_arena.proofs.Gaps.{taken-gaps}
use Rattle.hep_layout.proofs.Frames.{among, among-out, among-with_frame, apart-with_frame}
use Rattle.hep_layout.proofs.Memory.{memory-fits}
use Rattle.hep_proc.specs.FrameTable.{FramesOf, IsTaken}

-- ---- the nodes

-- one that was there is under its key still, of the same activation
pub node-stays : (old : Nodes) (v : ℕ) (new : FrameNode) (above : ℕ) → old v ≡ None → (key : ℕ) (n : FrameNode) → old key ≡ Some n → (k : FrameNode) × (with_node old v new above key ≡ Some k) × (k.activation ≡ n.activation)
node-stays old v new above vacant key n e = by_key (nat_eq key v) refl where
  by_parent : (b : Bool) → (k : FrameNode) × ((if b then option_map with_one_more (old key) else old key) ≡ Some k) × (k.activation ≡ n.activation)
  by_parent true = (with_one_more n, ap (option_map with_one_more) e, refl)
  by_parent false = (n, e, refl)

  by_key : (b : Bool) → nat_eq key v ≡ b → (k : FrameNode) × ((if b then Some new else (if nat_eq key above then option_map with_one_more (old key) else old key)) ≡ Some k) × (k.activation ≡ n.activation)
  by_key false t = by_parent (nat_eq key above)
  by_key true t = absurd (none-some n (sym (ap old (eqb-true key v t) ∙ vacant) ∙ e))

pub node-new : (old : Nodes) (v : ℕ) (new : FrameNode) (above : ℕ) → with_node old v new above v ≡ Some new
node-new old v new above = ap (λ b. if b then Some new else (if nat_eq v above then option_map with_one_more (old v) else old v)) (eq-eqb v v refl)

-- ---- the block of the frame is out, and inside the arena

module _ (f : FramesOf) (before after : Space) (cells first : ℕ) (one : 1 ≤ cells) (memory : IsMemory f.program f.state f.layout before.contents before.holes) (fit : first_fit cells before.holes ≡ Some first) (took : IsTaken cells first before after) where
  abbrev frame : Frame
  frame = record { activation = suc (length f.state.activations); first = first; cells = cells }

  gap : lowest_gap (length before.contents) cells (common_cells f.program) f.layout ≡ Some first
  gap = sym (memory-fits f.program f.state f.layout before.contents before.holes cells memory one) ∙ fit

  none : frame_among frame.activation f.layout ≡ None
  none = by_frame (frame_among frame.activation f.layout) refl where
    by_frame : (o : Option Frame) → frame_among frame.activation f.layout ≡ o → o ≡ None
    by_frame None e = refl
    by_frame (Some other) e = absurd (omega (arith, (memory.laid.made frame.activation other e).1))

  there : frame_among frame.activation (with_frame f.layout frame) ≡ Some frame
  there = among-with_frame frame.activation f.layout frame none ∙ ap (λ b. if b then Some frame else frame_among frame.activation f.layout) (eq-eqb frame.activation frame.activation refl)

  pub block-out : (p : ℕ) → first ≤ p → p < first + cells → IsOut p after.holes
  block-out p low high =
      subst (IsOut p) (sym (took.holes_are ∙ (ap (taken cells) memory.holes_are ∙ taken-gaps (length before.contents) frame.activation cells (common_cells f.program) first f.layout one memory.laid.apart gap))) (
      among-out (length before.contents) (common_cells f.program) frame.activation p (with_frame f.layout frame) frame (apart-with_frame (length before.contents) (common_cells f.program) f.layout frame one memory.laid.apart gap) there low high)

  pub block-inside : first + cells ≤ length after.contents
  block-inside =
      let placed = among (length before.contents) (common_cells f.program) frame.activation (with_frame f.layout frame) frame (apart-with_frame (length before.contents) (common_cells f.program) f.layout frame one memory.laid.apart gap) there in
      omega (arith, placed.inside, took.size)
