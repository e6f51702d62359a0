-- The frames of a state where another state has the same ones, where a cell is written, and after a run.
use Rattle.std.proofs.Common.{◌≡◌, ℕ, ◌≤◌, Bool, true, List, [], length, arith, Some, None, refl, sym, ap, ◌∙◌, subst, slice_set, is_some}
use Rattle.std.specs.List.{filter}
use Rattle.hep_machine.specs.Words.{Units, Frame, Layout, common_cells, is_held, layout_with_activation, lowest_gap, opening_layout, remaining_layout, frame_of, run, Location, State, with_cell}
use Rattle.hep_machine.specs.declared.slot.Slot.{Slot}
use Rattle.hep_arena.specs.Holes.{first_fit}
use Rattle.hep_arena.specs.Space.{Space}
use Rattle.hep_arena.proofs.Gaps.{fit-gaps}
use Rattle.hep_layout.specs.Words.{IsMemory, address, frame_address, Describes, DescriptorSlots, is_descriptor, descriptor_slots, FramePart, AreNeededBut, is_stacked, IsFrameTree, Nodes}
use Rattle.hep_layout.proofs.Beginning.{tree-same, needed-same}
use Rattle.hep_layout.proofs.Descriptors.{described-same, described-set, described-written, memory-described}
use Rattle.hep_layout.proofs.Memory.{memory-fits, memory-same, memory-written}
use Rattle.hep_layout.proofs.FrameTree.{rest-held}
use Rattle.hep_proc.specs.FrameTable.{FramesOf, HasLeft, IsEnded, IsUnused, Keeps, LeadUpwards, frames_in, frames_of}
use Rattle.hep_proc.proofs.Opened.{opening-gap}
use Rattle.hep_layout.proofs.Resting.{one-test}
use Rattle.hep_source.proofs.Tests.{some-mapped}

pub keeps-same : (f : FramesOf) (t : State) (now : ℕ → Bool) (after : DescriptorSlots) (arena : Space) (nodes : Nodes) → Keeps f arena nodes → t.activations ≡ f.state.activations → t.store ≡ f.state.store
    → ((a : ℕ) → now a ≡ f.on a) → ((a : ℕ) (c : FramePart × ℕ) (v : Slot) → after a c ≡ Some v → f.wanted a c ≡ Some v) → Keeps (record f { state = t; on = now; wanted = after }) arena nodes
keeps-same f t now after arena nodes h e st stacks fewer =
    let same : f.on ≡ now = one-test f.on now (λ a. sym (stacks a)) in
    record {
      memory = memory-same f.program f.state t f.layout arena.contents arena.holes h.memory e st;
      tree = subst (λ p. IsFrameTree t p f.out nodes) same (tree-same f.state t f.on f.out nodes e h.tree);
      rest = subst (λ p. AreNeededBut None t p f.out) same (needed-same f.state t f.on f.out None e h.rest);
      framed = h.framed;
      frames_are = h.frames_are;
      described = described-same f.program f.state t f.layout f.wanted after arena.contents h.described e fewer;
    }

-- what leaves in a state leaves after the step to it
pub ended-left : (program : Units) (s t : State) (after out : ℕ → Bool) (layout : Layout) (before now : Space) (old nodes : Nodes)
    → (Keeps (record (frames_in program t out layout) { on = is_stacked s }) before old → LeadUpwards t → HasLeft (record (frames_in program t out layout) { on = after }) before now old nodes)
    → Keeps (frames_in program s out layout) before old → IsEnded program layout after s t → LeadUpwards t → HasLeft (frames_in program t out layout) before now old nodes
ended-left program s t after out layout before now old nodes left h e lead =
    subst (λ test. HasLeft (record (frames_in program t out layout) { on = test }) before now old nodes) (sym (one-test (is_stacked t) after e.stacks_are))
    (left (keeps-same (frames_in program s out layout) t (is_stacked s) (descriptor_slots program t layout) before old h e.activations_are e.store_is (λ a. refl) e.no_more) lead)

-- ---- a write

module _ (f : FramesOf) (before after : Space) (nodes : Nodes) (p : ℕ) (slot : Slot)
    (h : Keeps f before nodes) (contents_are : after.contents ≡ slice_set before.contents p slot) (holes_are : after.holes ≡ before.holes) where
  -- of a storage unit's cell
  pub keeps-stored : (t : State) (at : Location) → address f.program f.state f.layout at ≡ Some p → t.activations ≡ f.state.activations → t.store ≡ with_cell f.state.store at slot → Keeps (record f { state = t }) after nodes
  keeps-stored t at here e st =
      record {
        memory = subst (λ c. IsMemory f.program t f.layout c after.holes) (sym contents_are) (subst (IsMemory f.program t f.layout (slice_set before.contents p slot)) (sym holes_are) (memory-written f.program f.state t f.layout before.contents before.holes at p slot h.memory here e st));
        tree = tree-same f.state t f.on f.out nodes e h.tree;
        rest = needed-same f.state t f.on f.out None e h.rest;
        framed = h.framed;
        frames_are = h.frames_are;
        described = subst (Describes f.program t f.layout f.wanted) (sym contents_are) (
            described-same f.program f.state t f.layout f.wanted f.wanted (slice_set before.contents p slot) (described-written f.program f.state f.layout f.wanted before.contents at p slot h.memory.laid h.described here) e (λ a c v w. w));
      }

  -- of another cell
  pub keeps-described : (new : DescriptorSlots) (a : ℕ) (c : FramePart × ℕ) → is_descriptor f.program f.state a c ≡ true → frame_address f.program f.state f.layout a c ≡ Some p → new a c ≡ Some slot
      → ((b : ℕ) (d : FramePart × ℕ) (v : Slot) → ((a ≡ b) × (c ≡ d) → ⊥) → new b d ≡ Some v → f.wanted b d ≡ Some v) → Keeps (record f { wanted = new }) after nodes
  keeps-described new a c is here now others =
      record {
        memory = subst (λ c. IsMemory f.program f.state f.layout c after.holes) (sym contents_are) (subst (IsMemory f.program f.state f.layout (slice_set before.contents p slot)) (sym holes_are) (memory-described f.program f.state f.layout before.contents before.holes a p c slot h.memory is here));
        tree = h.tree;
        rest = h.rest;
        framed = h.framed;
        frames_are = h.frames_are;
        described = subst (Describes f.program f.state f.layout new) (sym contents_are) (described-set f.program f.state f.layout f.wanted new before.contents a p c slot h.memory.laid h.described here now others);
      }

-- ---- gaps

pub keeps-fits : (f : FramesOf) (arena : Space) (nodes : Nodes) (n : ℕ) → Keeps f arena nodes → 1 ≤ n → is_some (first_fit n arena.holes) ≡ is_some (lowest_gap (length arena.contents) n (common_cells f.program) f.layout)
keeps-fits f arena nodes n h one = ap is_some (memory-fits f.program f.state f.layout arena.contents arena.holes n h.memory one)

pub unused-fits : (program : Units) (arena : Space) (nodes : Nodes) (n : ℕ)
    → IsUnused (common_cells program) arena nodes → n ≡ frame_of program (run program []) 1 → is_some (first_fit n arena.holes) ≡ is_some (opening_layout program (length arena.contents))
unused-fits program arena nodes n h size =
    ap is_some (ap (first_fit n) h.holes_are ∙ fit-gaps (length arena.contents) n (common_cells program) [] (omega (arith, size)))
    ∙ (sym (some-mapped _ (lowest_gap (length arena.contents) n (common_cells program) []))
    ∙ ap is_some (ap (layout_with_activation program (length arena.contents) [] 1) size ∙ sym (opening-gap program (length arena.contents))))

-- ---- after a run

pub keeps-held : (program : Units) (processes : List ℕ) (out : ℕ → Bool) (layout : Layout) (wanted : DescriptorSlots) (arena : Space) (nodes : Nodes) (a : ℕ)
    → Keeps (record (frames_in program (run program processes) out layout) { wanted = wanted }) arena nodes → out a ≡ is_held (run program processes) a
keeps-held program processes out layout wanted arena nodes a h = rest-held program processes out nodes a (record { tree = h.tree; needed = h.rest })

pub keeps-remaining : (program : Units) (processes : List ℕ) (out : ℕ → Bool) (layout before : Layout) (wanted : DescriptorSlots) (arena : Space) (nodes : Nodes)
    → Keeps (record (frames_in program (run program processes) out layout) { wanted = wanted }) arena nodes → frames_of out before ≡ remaining_layout is_held (run program processes) before
keeps-remaining program processes out layout before wanted arena nodes h =
    ap (λ test. filter (λ (f : Frame). test f.activation) before) (one-test out (is_held (run program processes)) (λ a. keeps-held program processes out layout wanted arena nodes a h))
