-- An activation ends: what a step of the walk upwards makes of the frames.
use Rattle.std.proofs.Common.{◌≡◌, ◌⊎◌, ℕ, ◌+◌, ◌<◌, ◌≤◌, Bool, true, false, [], ◌∷◌, length, Option, Some, None, refl, sym, ap, ◌∙◌, subst, if◌then◌else◌, nat_eq, slice_get, is_some}
use Rattle.std.specs.Option.{option_map}
use Rattle.std.proofs.lemmas.Bool.{eqb-false, eq-eqb, ne_eqb}
use Rattle.std.proofs.lemmas.Option.{same_Some, none-some}
use Rattle.hep_machine.specs.Words.{unit_at, Frame, Layout, common_cells, dummy_at, activation_of, parent_of, unit_of, Location, local, common, is_owned}
use Rattle.hep_arena.specs.Gaps.{frame_among, gaps, without}
use Rattle.hep_arena.specs.Holes.{IsOut, given}
use Rattle.hep_arena.specs.Space.{Space}
use Rattle.hep_arena.proofs.Arenas.{out-given}
use Rattle.hep_layout.specs.Words.{AreSingle, IsMemory, cell_in, Describes, descriptor_slots, IsOwnedAbove, FramePart, place_of_part, activation_under, AreFramed, AreNeededBut, but, is_just, IsFrameTree, FrameNode, Nodes, with_end, with_ended, with_one_less, without_node}
use Rattle.hep_layout.proofs.Descriptors.{described-left}
use Rattle.hep_layout.proofs.Frames.{among, among-without}
use Rattle.hep_layout.proofs.Memory.{frame-is-out, memory-left}
use Rattle.hep_layout.proofs.FrameTree.{but-parts, node-needed, parent-apart, parent-counts, parent-kept, parent-out, tree-left, needed-all, needed-left}
use Rattle.hep_layout.proofs.FrameTreeSteps.{filter-without, framed-ended, framed-left, tree-ended, needed-ended}
use Rattle.hep_layout.proofs.Wants.{wanted-left}
use Rattle.hep_proc.specs.Nodes.{IsCountedAbove}
use Rattle.hep_proc.specs.FrameTable.{as_wanted, frames_of, FramesOf, HasLeft, Keeps, KeysStay, LeadUpwards}
use Rattle.hep_source.proofs.Tests.{numbers-turned}

-- where an activation is on no stack any more
abbrev pub off_stack : FramesOf → ℕ → FramesOf
off_stack f a = record f { on = but a f.on }

-- frames went back from an activation upwards, and what is under a key is looked at next
pub record IsGiving (f : FramesOf) (before : Space) (old : Nodes) (now : Space) (nodes : Nodes) (next : Option ℕ) : Type 0 where
  pub still : ℕ → Bool
  pub cursor : Option ℕ
  pub left : Layout
  pub left_is : left ≡ frames_of still f.layout
  pub memory : IsMemory f.program f.state left now.contents now.holes
  pub tree : IsFrameTree f.state f.on still nodes
  pub under : activation_under nodes next ≡ Some cursor
  pub rest : AreNeededBut cursor f.state f.on still
  pub framed : AreFramed left nodes
  pub frames_are : (a : ℕ) → is_some (frame_among a left) ≡ still a
  pub described : Describes f.program f.state left f.wanted now.contents
  pub wanted_stays : LeadUpwards f.state → (a : ℕ) (c : FramePart × ℕ) → still a ≡ true → descriptor_slots f.program f.state left a c ≡ descriptor_slots f.program f.state f.layout a c
  pub fewer : (a : ℕ) → still a ≡ true → f.out a ≡ true
  pub were_out : (p : ℕ) → IsOut p now.holes → IsOut p before.holes
  pub kept : (p : ℕ) → IsOut p now.holes → slice_get now.contents p ≡ slice_get before.contents p
  pub keys_stay : KeysStay still old nodes

-- ---- it begins

-- all frames of a layout are of activations that pass a test
pub all-kept : (out : ℕ → Bool) (fs : Layout) → ((a : ℕ) → is_some (frame_among a fs) ≡ true → out a ≡ true) → fs ≡ frames_of out fs
all-kept out [] h = refl
all-kept out (f ∷ fs) h =
    let itself : nat_eq f.activation f.activation ≡ true = eq-eqb f.activation f.activation refl in
    let first : out f.activation ≡ true = h f.activation (rw itself refl) in
    rw first (ap (λ (gs : Layout). f ∷ gs) (all-kept out fs (λ a e. h a (behind a (nat_eq f.activation a) e))))
  where
    behind : (a : ℕ) (b : Bool) → is_some (frame_among a fs) ≡ true → is_some (if b then Some f else frame_among a fs) ≡ true
    behind a true e = refl
    behind a false e = e

ended-under : (nodes : Nodes) (k : ℕ) (n : FrameNode) → nodes k ≡ Some n → activation_under (with_ended nodes k) (Some k) ≡ Some (Some n.activation)
ended-under nodes k n e =
    let itself : nat_eq k k ≡ true = eq-eqb k k refl in
    let there : with_ended nodes k k ≡ Some (with_end n) = rw itself (ap (option_map with_end) e) in
    ap (option_map (λ (m : FrameNode). Some m.activation)) there

ended-stays : (still : ℕ → Bool) (nodes : Nodes) (k : ℕ) → KeysStay still nodes (with_ended nodes k)
ended-stays still nodes k l n e o = by_key (nat_eq l k) where
  by_key : (b : Bool) → (m : FrameNode) × ((if b then option_map with_end (nodes l) else nodes l) ≡ Some m) × (m.activation ≡ n.activation) × (m.first ≡ n.first) × (m.cells ≡ n.cells) × (m.parent ≡ n.parent)
  by_key true = (with_end n, ap (option_map with_end) e, refl, refl, refl, refl)
  by_key false = (n, e, refl, refl, refl, refl)

pub giving-begins : (f : FramesOf) (arena : Space) (old new : Nodes) (k : ℕ) (n : FrameNode)
    → Keeps f arena old → old k ≡ Some n → new ≡ with_ended old k → IsGiving (off_stack f n.activation) arena old arena new (Some k)
giving-begins f arena old new k n h e now =
    subst (λ nodes. IsGiving (off_stack f n.activation) arena old arena nodes (Some k)) (sym now) (record {
      still = f.out;
      cursor = Some n.activation;
      left = f.layout;
      left_is = all-kept f.out f.layout (λ a d. sym (h.frames_are a) ∙ d);
      memory = h.memory;
      tree = tree-ended f.state f.on f.out old k n h.tree e;
      under = ended-under old k n e;
      rest = needed-ended f.state f.on f.out n.activation h.rest;
      framed = framed-ended f.layout old k h.framed;
      frames_are = h.frames_are;
      described = h.described;
      wanted_stays = λ lead a c o. refl;
      fewer = λ a o. o;
      were_out = λ p o. o;
      kept = λ p o. refl;
      keys_stay = ended-stays f.out old k;
    })

-- what is looked at is there
pub giving-there : (f : FramesOf) (before : Space) (old : Nodes) (now : Space) (nodes : Nodes) (next : Option ℕ) (k : ℕ) → next ≡ Some k → IsGiving f before old now nodes next → nodes k ≡ None → ⊥
giving-there f before old now nodes next k is g e = none-some g.cursor (sym (ap (option_map (λ (m : FrameNode). Some m.activation)) e) ∙ (sym (ap (activation_under nodes) is) ∙ g.under))

-- ---- a frame goes back

module _ (f : FramesOf) (before : Space) (old : Nodes) (now : Space) (nodes : Nodes) (next : Option ℕ) (k : ℕ) (n : FrameNode)
    (is : next ≡ Some k) (g : IsGiving f before old now nodes next) (at : nodes k ≡ Some n) where
  cursor-is : g.cursor ≡ Some n.activation
  cursor-is = same_Some g.cursor (Some n.activation) (sym g.under ∙ (ap (activation_under nodes) is ∙ ap (option_map (λ (m : FrameNode). Some m.activation)) at))

  abbrev frame : Frame
  frame = record { activation = n.activation; first = n.first; cells = n.cells }

  framed-here : frame_among n.activation g.left ≡ Some frame
  framed-here = g.framed k n at

  pub giving-inside : n.first + n.cells ≤ length now.contents
  giving-inside = (among (length now.contents) (common_cells f.program) n.activation g.left frame g.memory.laid.apart framed-here).inside

  pub giving-block : (p : ℕ) → n.first ≤ p → p < n.first + n.cells → IsOut p now.holes
  giving-block p low high = frame-is-out f.program f.state g.left now.contents now.holes n.activation p frame g.memory framed-here low high

  pub giving-counted : n.children ≡ 0 → IsCountedAbove nodes k
  giving-counted alone m above e above_is =
      let it : m ≡ n = same_Some m n (sym e ∙ at) in
      let owner : n.parent ≡ Some above = ap (λ (z : FrameNode). z.parent) (sym it) ∙ above_is in
      (parent-apart f.state f.on g.still nodes k n g.tree at above alone owner, λ r d. parent-counts f.state f.on g.still nodes k n g.tree at above r owner d)

  -- it stops at what is needed
  stopped : (n.finished ≡ false) ⊎ (1 ≤ n.children) → AreNeededBut None f.state f.on g.still
  stopped why = needed-all f.state f.on g.still n.activation (subst (λ o. AreNeededBut o f.state f.on g.still) cursor-is g.rest) (node-needed f.state f.on g.still nodes k n g.tree at why)

  pub giving-stops : (n.finished ≡ false) ⊎ (1 ≤ n.children) → IsGiving f before old now nodes None
  giving-stops why =
      record {
        still = g.still;
        cursor = None;
        left = g.left;
        left_is = g.left_is;
        memory = g.memory;
        tree = g.tree;
        under = refl;
        rest = stopped why;
        framed = g.framed;
        frames_are = g.frames_are;
        described = g.described;
        wanted_stays = g.wanted_stays;
        fewer = g.fewer;
        were_out = g.were_out;
        kept = g.kept;
        keys_stay = g.keys_stay;
      }

  module _ (after : Space) (new : Nodes) (single : AreSingle f.layout) (finished : n.finished ≡ true) (alone : n.children ≡ 0) (holes_are : after.holes ≡ given (n.first, n.cells) now.holes)
      (kept_now : (p : ℕ) → IsOut p after.holes → slice_get after.contents p ≡ slice_get now.contents p) (size : length after.contents ≡ length now.contents) (new_is : new ≡ without_node nodes k n) where
    abbrev still_now : ℕ → Bool
    still_now = but n.activation g.still

    abbrev left_now : Layout
    left_now = without n.activation g.left

    tree-now : IsFrameTree f.state f.on still_now (without_node nodes k n)
    tree-now = tree-left f.state f.on g.still nodes k n g.tree at finished alone

    memory-now : IsMemory f.program f.state left_now after.contents after.holes
    memory-now =
        subst (IsMemory f.program f.state left_now after.contents) (sym holes_are) (memory-left f.program f.state n.activation g.left frame now.contents after.contents now.holes g.memory framed-here size (λ p o. kept_now p (subst (IsOut p) (sym holes_are) o)))

    frames-now : (a : ℕ) → is_some (frame_among a left_now) ≡ still_now a
    frames-now a = ap is_some (among-without n.activation a g.left g.memory.laid.single) ∙ by_test (nat_eq n.activation a) (nat_eq a n.activation) (numbers-turned n.activation a) where
      by_test : (p q : Bool) → p ≡ q → is_some (if p then None else frame_among a g.left) ≡ (if q then false else g.still a)
      by_test true true e = refl
      by_test true false e = absurd cc
      by_test false true e = absurd cc
      by_test false false e = g.frames_are a

    described-now : Describes f.program f.state left_now f.wanted after.contents
    described-now =
        described-left f.program f.state n.activation g.left f.wanted now.contents after.contents g.memory.laid g.described
        (λ p o. kept_now p (subst (IsOut p) (sym (memory-now.holes_are ∙ ap (λ m. gaps m (common_cells f.program) left_now) size)) o))

    -- what a dummy argument of the others stands for is not of this activation, since theirs are all still out
    not-owned : (a : ℕ) (l : Location) → still_now a ≡ true → IsOwnedAbove f.state a l → is_owned n.activation l ≡ false
    not-owned a (local b x i) o above =
        let there = above still_now o (λ c d. parent-out f.state f.on still_now (without_node nodes k n) c d tree-now) in
        numbers-turned n.activation b ∙ (but-parts n.activation b g.still there).0
    not-owned a (common b i) o above = refl

    wanted-now : LeadUpwards f.state → (a : ℕ) (c : FramePart × ℕ) → still_now a ≡ true → descriptor_slots f.program f.state left_now a c ≡ descriptor_slots f.program f.state f.layout a c
    wanted-now lead a c o =
        wanted-left f.program f.state a n.activation (length now.contents) g.left c g.memory.laid (λ i. not-owned a (dummy_at (activation_of f.state a).dummies i).start o (lead a i))
        ∙ g.wanted_stays lead a c (but-parts n.activation a g.still o).1

    keys-now : KeysStay still_now old (without_node nodes k n)
    keys-now l m e o =
        let parts = but-parts n.activation m.activation g.still o in
        let there = g.keys_stay l m e parts.1 in
        let other : nat_eq l k ≡ false = ne_eqb l k (λ same.
        let it : there.0 ≡ n = same_Some there.0 n (sym there.1 ∙ (ap nodes same ∙ at)) in
        eqb-false m.activation n.activation parts.0 (sym there.2 ∙ ap (λ (z : FrameNode). z.activation) it)) in
        rw other (by_parent there.0 there.1 there.2 there.3 there.4 there.5 (is_just l n.parent))
      where
        by_parent : (r : FrameNode) → nodes l ≡ Some r → r.activation ≡ m.activation → r.first ≡ m.first → r.cells ≡ m.cells → r.parent ≡ m.parent → (b : Bool)
            → (z : FrameNode) × ((if b then option_map with_one_less (nodes l) else nodes l) ≡ Some z) × (z.activation ≡ m.activation) × (z.first ≡ m.first) × (z.cells ≡ m.cells) × (z.parent ≡ m.parent)
        by_parent r d whose begins size_is above true = (with_one_less r, ap (option_map with_one_less) d, whose, begins, size_is, above)
        by_parent r d whose begins size_is above false = (r, d, whose, begins, size_is, above)

    was-out : (p : ℕ) → IsOut p after.holes → IsOut p now.holes
    was-out p o = (out-given p (n.first, n.cells) now.holes (subst (IsOut p) holes_are o)).0

    pub giving-goes_on : IsGiving f before old after new n.parent
    giving-goes_on =
        let node = g.tree.shown k n at in
        subst (λ z. IsGiving f before old after z n.parent) (sym new_is) (record {
          still = still_now;
          cursor = parent_of f.state n.activation;
          left = left_now;
          left_is = ap (without n.activation) g.left_is ∙ filter-without g.still n.activation f.layout single;
          memory = memory-now;
          tree = tree-now;
          under = parent-kept f.state f.on g.still nodes k n g.tree at alone n.activation n.parent node.out_is node.parent_is;
          rest = needed-left f.state f.on g.still nodes k n g.tree at (subst (λ o. AreNeededBut o f.state f.on g.still) cursor-is g.rest);
          framed = framed-left f.state f.on g.still g.left nodes k n g.tree at g.memory.laid.single g.framed;
          frames_are = frames-now;
          described = described-now;
          wanted_stays = wanted-now;
          fewer = λ a o. g.fewer a (but-parts n.activation a g.still o).1;
          were_out = λ p o. g.were_out p (was-out p o);
          kept = λ p o. kept_now p o ∙ g.kept p (was-out p o);
          keys_stay = keys-now;
        })

-- ---- it ends

module _ (f : FramesOf) (before : Space) (old : Nodes) (now : Space) (nodes : Nodes) (next : Option ℕ)
    (is : next ≡ None) (g : IsGiving (as_wanted f) before old now nodes next) (lead : LeadUpwards f.state) where
  rest-now : AreNeededBut None f.state f.on g.still
  rest-now = subst (λ o. AreNeededBut o f.state f.on g.still) (sym (same_Some None g.cursor (sym (ap (activation_under nodes) is) ∙ g.under))) g.rest

  described-end : Describes f.program f.state g.left (descriptor_slots f.program f.state g.left) now.contents
  described-end a c p slot is e w = g.described a c p slot is e (sym (g.wanted_stays lead a c there) ∙ w) where
    there : g.still a ≡ true
    there = sym (g.frames_are a) ∙ by_frame (frame_among a g.left) e where
      by_frame : (o : Option Frame) → cell_in o (place_of_part (unit_at f.program (unit_of f.state a)) c.0 c.1) ≡ Some p → is_some o ≡ true
      by_frame None d = absurd (none-some p d)
      by_frame (Some here) d = refl

  pub giving-ends : HasLeft f before now old nodes
  giving-ends =
      record {
        still = g.still;
        keeps = subst (λ fs. Keeps (as_wanted (record f { out = g.still; layout = fs })) now nodes) g.left_is (record {
          memory = g.memory;
          tree = g.tree;
          rest = rest-now;
          framed = g.framed;
          frames_are = g.frames_are;
          described = described-end;
        });
        fewer = g.fewer;
        were_out = g.were_out;
        kept = g.kept;
        keys_stay = g.keys_stay;
      }
