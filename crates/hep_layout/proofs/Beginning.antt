-- The arena and the tree of frames at the opening.
use Rattle.hep_source.proofs.Tests.{or-false}
use Rattle.std.proofs.Common.{◌≡◌, inl, inr, ℕ, ◌<◌, ◌≤◌, Bool, true, false, List, [], length, Option, Some, None, refl, sym, ap, ◌∙◌, subst, arith, not, nat_eq, slice_get, eqb-true, eq-eqb}
use Rattle.std.proofs.lemmas.Option.{cond_some}
use Rattle.hep_machine.specs.Words.{Units, main_unit, unset_cell, Layout, common_cells, opening_layout, opening, activation_of, parent_of, run, run_from, Activation, Location, State}
use Rattle.hep_machine.specs.declared.slot.Slot.{Slot}
use Rattle.hep_arena.specs.Gaps.{gaps}
use Rattle.hep_layout.specs.Words.{IsLaid, IsMemory, AreNeededBut, children_out, first_nodes, is_stacked, IsAtRest, IsFrameNode, IsFrameTree, IsNeeded, FrameNode, Nodes}
use Rattle.hep_layout.proofs.Addresses.{address-out}
use Rattle.hep_layout.proofs.HeldFrames.{placed-opening, opening-single}
use Rattle.hep_layout.proofs.Memory.{laid-same, same-activation}

-- ---- the arena

-- before DATA gives values, in cells that are all unset
pub memory-begins : (program : Units) (s : State) (layout : Layout) (contents : List Slot) → opening_layout program (length contents) ≡ Some layout → s.activations ≡ (run program []).activations → ((at : Location) → s.store at ≡ unset_cell)
    → ((p : ℕ) → p < length contents → slice_get contents p ≡ Some unset_cell) → IsMemory program s layout contents (gaps (length contents) (common_cells program) layout)
memory-begins program s layout contents e same empty clear = record { laid = laid; holds = λ at p k. clear p (address-out program s (length contents) layout at p laid k).0 ∙ ap (λ z. Some z) (sym (empty at)); holes_are = refl } where
  laid : IsLaid program s (length contents) layout
  laid = laid-same program (run program []) s (length contents) layout same (placed-opening program (length contents) layout e).laid

-- ---- the tree

-- the frame of the main program, before the first step
abbrev pub main_node : ℕ → ℕ → ℕ → FrameNode
main_node unit first cells = record { activation = 1; unit = unit; first = first; cells = cells; parent = None; children = 0; finished = false }

-- the node under a key is that of the main program's activation
node-first : (v unit first cells k : ℕ) (n : FrameNode) → first_nodes v unit first cells k ≡ Some n → (k ≡ v) × (main_node unit first cells ≡ n)
node-first v unit first cells k n e = let found = cond_some (nat_eq k v) (main_node unit first cells) n e in (eqb-true k v found.0, found.1)

opening-on : (program : Units) (a : ℕ) → is_stacked (run program []) a ≡ nat_eq a 1
unfolding run run_from opening
opening-on program a = or-false (nat_eq a 1)

opening-parent : (program : Units) → parent_of (run program []) 1 ≡ None
unfolding run run_from opening
opening-parent program = refl

opening-unit : (program : Units) → (activation_of (run program []) 1).unit ≡ main_unit program
unfolding run run_from opening
opening-unit program = refl

opening-children : (program : Units) (out : ℕ → Bool) → out 1 ≡ true → children_out (run program []) out 1 ≡ 0
unfolding run run_from opening
opening-children program out e = rw e refl

pub rest-first : (program : Units) (v first cells : ℕ) → IsAtRest (run program []) (λ a. nat_eq a 1) (first_nodes v (main_unit program) first cells)
rest-first program v first cells =
    let nodes = first_nodes v (main_unit program) first cells in
    let of_main = λ (k : ℕ) (n : FrameNode). node-first v (main_unit program) first cells k n in
    record {
      tree = record {
        shown = λ k n e. subst (IsFrameNode (run program []) (is_stacked (run program [])) (λ a. nat_eq a 1) nodes) (of_main k n e).1 (record {
          out_is = refl;
          unit_is = sym (opening-unit program);
          parent_is = ap (λ o. Some o) (sym (opening-parent program));
          children_are = sym (opening-children program (λ a. nat_eq a 1) refl);
          finished_is = ap not (sym (opening-on program 1));
        });
        found = λ a e. (v, main_node (main_unit program) first cells, rw (eq-eqb v v refl) refl, sym (eqb-true a 1 e));
        single = λ k l m n e f same. (of_main k m e).0 ∙ sym (of_main l n f).0;
        stacked = λ a e. sym (opening-on program a) ∙ e;
        made = λ a e. let same = eqb-true a 1 e in (omega (arith, same), omega (arith, same, opening-single program));
      };
      needed = λ a e none. inl (opening-on program a ∙ e);
    }

-- ---- the same activations

pub tree-same : (s t : State) (on out : ℕ → Bool) (nodes : Nodes) → t.activations ≡ s.activations → IsFrameTree s on out nodes → IsFrameTree t on out nodes
tree-same s t on out nodes e tree =
    record {
      shown = λ k n h. let node = tree.shown k n h in record {
        out_is = node.out_is;
        unit_is = node.unit_is ∙ sym (ap (λ (z : Activation). z.unit) (same-activation s t n.activation e));
        parent_is = node.parent_is ∙ ap (λ o. Some o) (sym (ap (λ (z : Activation). z.parent) (same-activation s t n.activation e)));
        children_are = node.children_are ∙ sym (children-same n.activation);
        finished_is = node.finished_is;
      };
      found = tree.found;
      single = tree.single;
      stacked = tree.stacked;
      made = λ a h. let made = tree.made a h in (made.0, omega (arith, made.1, ap length e));
    }
  where
    children-same : (a : ℕ) → children_out t out a ≡ children_out s out a
    children-same a = ap (λ (xs : List Activation). children_out (record s { activations = xs }) out a) e

pub needed-same : (s t : State) (on out : ℕ → Bool) (exception : Option ℕ) → t.activations ≡ s.activations → AreNeededBut exception s on out → AreNeededBut exception t on out
needed-same s t on out exception e wanted a h other = by_want (wanted a h other) where
  by_want : IsNeeded s on out a → IsNeeded t on out a
  by_want (inl there) = inl there
  by_want (inr some) = inr (subst (λ (xs : List Activation). 1 ≤ children_out (record s { activations = xs }) out a) (sym e) some)
