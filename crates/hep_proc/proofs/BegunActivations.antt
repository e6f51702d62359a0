-- An activation begins: the main program's, and any other one.
use Rattle.std.proofs.Common.{◌≡◌, ℕ, Bool, true, false, length, Option, Some, None, refl, sym, ap, ◌∙◌, subst, arith, if◌then◌else◌, nat_eq, slice_get, is_some, IsSome, eqb-true, eq-eqb}
use Rattle.std.proofs.lemmas.Option.{same_Some, none-some}
use Rattle.hep_machine.specs.Words.{unset_cell, Frame, common_cells, frame_of, lowest_gap, with_frame, Activation, State}
use Rattle.hep_machine.specs.declared.slot.Slot.{Slot}
use Rattle.hep_arena.specs.Gaps.{frame_among}
use Rattle.hep_arena.specs.Holes.{IsOut, first_fit}
use Rattle.hep_arena.specs.Space.{Space}
use Rattle.hep_layout.specs.Words.{IsMemory, frame_from, Describes, DescriptorSlots, FramePart, also, AreFramed, IsFrameTree, Nodes, new_node, with_node}
use Rattle.hep_layout.proofs.Addresses.{framed}
use Rattle.hep_layout.proofs.Descriptors.{described-entered}
use Rattle.hep_layout.proofs.Frames.{among-with_frame}
use Rattle.hep_layout.proofs.Memory.{memory-entered, memory-fits, unmade}
use Rattle.hep_layout.proofs.FrameTreeSteps.{framed-entered, tree-entered, needed-entered}
use Rattle.hep_proc.specs.FrameTable.{FramesOf, frames_begun, IsBegun, IsTaken, Keeps, with_unset}
use Rattle.hep_source.proofs.Tests.{numbers-turned}
use Rattle.hep_layout.specs.Words.{FrameNode}

-- the cells of the new one are unset
unset-wanted : (a : ℕ) (wanted : DescriptorSlots) (c : FramePart × ℕ) (v : Slot) → with_unset a wanted a c ≡ Some v → v ≡ unset_cell
unset-wanted a wanted c v e = by_test (nat_eq a a) (eq-eqb a a refl) e where
  by_test : (b : Bool) → b ≡ true → (if b then Some unset_cell else wanted a c) ≡ Some v → v ≡ unset_cell
  by_test true d f = sym (same_Some unset_cell v f)
  by_test false d f = absurd cc

module _ (f : FramesOf) (t : State) (x : Activation) (before after : Space) (old new : Nodes) (v k first : ℕ) (n : FrameNode)
    (kept : Keeps f before old) (at : old k ≡ Some n) (begun : IsBegun f.state t x) (owner : x.parent ≡ Some n.activation)
    (free : old v ≡ None) (fit : first_fit (frame_of f.program t (length t.activations)) before.holes ≡ Some first)
    (took : IsTaken (frame_of f.program t (length t.activations)) first before after)
    (nodes : new ≡ with_node old v (new_node (length t.activations) x.unit first (frame_of f.program t (length t.activations)) k) k) where
  abbrev a : ℕ
  a = length t.activations

  abbrev frame : Frame
  frame = frame_from f.program t (length t.activations) first

  pub begun-gap : lowest_gap (length before.contents) (frame_of f.program t (length t.activations)) (common_cells f.program) f.layout ≡ Some first
  begun-gap = sym (memory-fits f.program f.state f.layout before.contents before.holes (frame_of f.program t a) kept.memory (omega arith)) ∙ fit

  none : frame_among a f.layout ≡ None
  none = unmade f.program f.state t x f.layout first begun.activations_are kept.memory.laid

  now-framed : (b : ℕ) → is_some (frame_among b (with_frame f.layout frame)) ≡ also a f.out b
  now-framed b = ap is_some (among-with_frame b f.layout frame none) ∙ by_test (nat_eq a b) (nat_eq b a) (numbers-turned a b) where
    by_test : (p q : Bool) → p ≡ q → is_some (if p then Some frame else frame_among b f.layout) ≡ (if q then true else f.out b)
    by_test true true e = refl
    by_test true false e = absurd cc
    by_test false true e = absurd cc
    by_test false false e = kept.frames_are b

  -- which none of the old frames has
  unset-described : Describes f.program f.state f.layout (with_unset a f.wanted) before.contents
  unset-described b c p v is e w = by_test (nat_eq b a) refl w where
    by_test : (u : Bool) → nat_eq b a ≡ u → (if u then Some unset_cell else f.wanted b c) ≡ Some v → slice_get before.contents p ≡ Some v
    by_test true d w =
        let there = framed f.program f.state (length before.contents) f.layout b c p kept.memory.laid e in
        absurd (none-some there.frame (sym none ∙ (ap (λ z. frame_among z f.layout) (sym (eqb-true b a d)) ∙ there.framed)))
    by_test false d w = kept.described b c p v is e w

  described-now : Describes f.program t (with_frame f.layout frame) (with_unset a f.wanted) after.contents
  described-now =
      described-entered f.program f.state t x f.layout first (with_unset a f.wanted) before.contents after.contents kept.memory.laid
      unset-described begun.activations_are begun-gap (unset-wanted a f.wanted)
      (λ p free_of. took.kept p (subst (IsOut p) (sym kept.memory.holes_are) free_of)) took.cleared

  pub begun-keeps : Keeps (frames_begun f t first) after new
  begun-keeps =
      record {
        memory = subst (λ hs. IsMemory f.program t (with_frame f.layout frame) after.contents hs) (sym took.holes_are) (memory-entered f.program f.state t x f.layout first begun.activations_are before.contents after.contents before.holes kept.memory begun.store_is begun.unset fit took.size took.kept took.cleared);
        tree = subst (IsFrameTree t (also a f.on) (also a f.out)) (sym nodes) (tree-entered f.state t x f.on f.out old first (frame_of f.program t a) v k n kept.tree free at begun.activations_are owner);
        rest = needed-entered f.state t x f.on f.out old k n kept.tree at begun.activations_are owner kept.rest;
        framed = subst (AreFramed (with_frame f.layout frame)) (sym nodes) (framed-entered f.state t x f.on f.out old first (frame_of f.program t a) v k n kept.tree free at begun.activations_are owner f.layout none kept.framed);
        frames_are = now-framed;
        described = described-now;
      }

-- a gap that is there begins somewhere
pub fit-there : (o : Option ℕ) → IsSome o → (first : ℕ) × (o ≡ Some first)
fit-there None h = absurd cc
fit-there (Some n) h = (n, refl)
