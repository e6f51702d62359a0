-- Two machines that have the same nodes, under whichever keys, have the same layout, and so the same holes.
use Rattle.std.proofs.Common.{◌≡◌, ◌⊎◌, inl, inr, ℕ, ◌+◌, ◌≤◌, Bool, true, false, List, [], ◌∷◌, length, Option, Some, None}
use Rattle.std.proofs.Common.{refl, sym, ap, ◌∙◌, subst, arith, if◌then◌else◌, is_some, nat_eq}
use Rattle.std.proofs.lemmas.Bool.{eq-eqb, eqb-true}
use Rattle.std.proofs.lemmas.Option.{none-some, same_Some}
use Rattle.hep_machine.specs.Words.{Frame, Layout, StandApart, Units, common_cells}
use Rattle.hep_arena.specs.Gaps.{frame_among, gaps}
use Rattle.hep_layout.specs.Words.{AreSingle, FrameNode}
use Rattle.hep_layout.proofs.Frames.{among}
use Rattle.hep_state.specs.AlikeMachines.{AreRenamed, node_renamed}
use Rattle.hep_state.specs.Words.{IsAfter, Snapshot}

-- ---- layouts

-- the frame in front is found
first-found : (f : Frame) (fs : Layout) → frame_among f.activation (f ∷ fs) ≡ Some f
first-found f fs = ap (λ b. if b then Some f else frame_among f.activation fs) (eq-eqb f.activation f.activation refl)

-- one that is found is in front, or begins after the one in front
front-or-later : (cells from : ℕ) (g : Frame) (gs : Layout) (f : Frame) → StandApart cells from (g ∷ gs)
    → frame_among f.activation (g ∷ gs) ≡ Some f → (g ≡ f) ⊎ (g.first + g.cells ≤ f.first)
front-or-later cells from g gs f h e = by_number (nat_eq g.activation f.activation) refl where
  by_number : (b : Bool) → nat_eq g.activation f.activation ≡ b → (g ≡ f) ⊎ (g.first + g.cells ≤ f.first)
  by_number true is = inl (same_Some g f (sym (ap (λ b. if b then Some g else frame_among f.activation gs) is) ∙ e))
  by_number false is =
      let later = sym (ap (λ b. if b then Some g else frame_among f.activation gs) is) ∙ e in
      inr (among cells (g.first + g.cells) f.activation gs f h.2 later).behind

-- those after the same frame are found in both
found-later : (f : Frame) (fs gs : Layout) (a : ℕ) → frame_among f.activation fs ≡ None → frame_among f.activation gs ≡ None
    → frame_among a (f ∷ fs) ≡ frame_among a (f ∷ gs) → frame_among a fs ≡ frame_among a gs
found-later f fs gs a none other whole = by_number (nat_eq f.activation a) refl where
  by_number : (b : Bool) → nat_eq f.activation a ≡ b → frame_among a fs ≡ frame_among a gs
  by_number true is =
      let number = eqb-true f.activation a is in
      ap (λ b. frame_among b fs) (sym number) ∙ (none ∙ (sym other ∙ ap (λ b. frame_among b gs) number))
  by_number false is =
      sym (ap (λ b. if b then Some f else frame_among a fs) is) ∙ (whole ∙ ap (λ b. if b then Some f else frame_among a gs) is)

-- the frames in front are the same, where each is found among the others
fronts-same : (cells from : ℕ) (f : Frame) (fs : Layout) (g : Frame) (gs : Layout) → StandApart cells from (f ∷ fs)
    → StandApart cells from (g ∷ gs) → ((a : ℕ) → frame_among a (f ∷ fs) ≡ frame_among a (g ∷ gs)) → f ≡ g
fronts-same cells from f fs g gs h k same =
    elim (front-or-later cells from g gs f k (sym (same f.activation) ∙ first-found f fs)) [
      | inl here ↦ sym here
      | inr after ↦ elim (front-or-later cells from f fs g h (same g.activation ∙ first-found g gs)) [
        | inl here ↦ here
        | inr before ↦ absurd (omega (arith, after, before, h.1, k.1))
      ]
    ]

-- two layouts with the same frames are the same
layouts-same : (cells from : ℕ) (xs ys : Layout) → StandApart cells from xs → StandApart cells from ys → AreSingle xs → AreSingle ys
    → ((a : ℕ) → frame_among a xs ≡ frame_among a ys) → xs ≡ ys
layouts-same cells from [] [] h k one other same = refl
layouts-same cells from [] (g ∷ gs) h k one other same = absurd (none-some g (same g.activation ∙ first-found g gs))
layouts-same cells from (f ∷ fs) [] h k one other same = absurd (none-some f (sym (same f.activation) ∙ first-found f fs))
layouts-same cells from (f ∷ fs) (g ∷ gs) h k one other same =
    let front = fronts-same cells from f fs g gs h k same in
    let apart = subst (λ (x : Frame). StandApart cells (x.first + x.cells) gs) (sym front) k.2 in
    let none = subst (λ (x : Frame). frame_among x.activation gs ≡ None) (sym front) other.0 in
    let found = λ (a : ℕ). found-later f fs gs a one.0 none (same a ∙ ap (λ (x : Frame). frame_among a (x ∷ gs)) (sym front)) in
    λ i. front i ∷ layouts-same cells (f.first + f.cells) fs gs h.2 apart one.1 other.1 found i

-- ---- machines

module _ (program : Units) (cells : ℕ) (choices turns : List ℕ) (m n : Snapshot) (rename : ℕ → ℕ)
    (renamed : AreRenamed rename m.nodes n.nodes) (h : IsAfter program cells choices m) (k : IsAfter program cells turns n) where
  abbrev frame-of : FrameNode → Frame
  frame-of x = record { activation = x.activation; first = x.first; cells = x.cells }

  abbrev Found : Snapshot → Layout → ℕ → Type 0
  Found z layout a =
      (key : ℕ) × (x : FrameNode) × (z.nodes key ≡ Some x) × (x.activation ≡ a) × (frame_among a layout ≡ Some (frame-of x))

  -- a frame has its node
  node-found : (z : Snapshot) (ps : List ℕ) (j : IsAfter program cells ps z) (a : ℕ) (f : Frame) → frame_among a j.layout ≡ Some f
      → Found z j.layout a
  node-found z ps j a f there =
      let out = sym (j.shows.keeps.frames_are a) ∙ ap is_some there in
      let node = j.shows.keeps.tree.found a out in
      let framed = subst (λ b. frame_among b j.layout ≡ Some (frame-of node.1)) node.3 (j.shows.keeps.framed node.0 node.1 node.2) in
      (node.0, node.1, node.2, node.3, framed)

  -- a frame of one of them is one of the other
  frames-same : (a : ℕ) → frame_among a h.layout ≡ frame_among a k.layout
  frames-same a = by_frames (frame_among a h.layout) (frame_among a k.layout) refl refl where
    by_frames : (o p : Option Frame) → frame_among a h.layout ≡ o → frame_among a k.layout ≡ p
        → frame_among a h.layout ≡ frame_among a k.layout
    by_frames (Some f) p e d =
        let node = node-found m choices h a f e in
        let there = k.shows.keeps.framed (rename node.0) (node_renamed rename node.1) (renamed.kept node.0 node.1 node.2) in
        node.4 ∙ sym (subst (λ b. frame_among b k.layout ≡ Some (frame-of node.1)) node.3 there)
    by_frames None (Some g) e d =
        let node = node-found n turns k a g d in
        let was = renamed.no_more node.0 node.1 node.2 in
        let same = same_Some (node_renamed rename was.1) node.1 (sym (renamed.kept was.0 was.1 was.2) ∙ ap n.nodes was.3 ∙ node.2) in
        let there = h.shows.keeps.framed was.0 was.1 was.2 in
        let number : was.1.activation ≡ a = ap (λ (x : FrameNode). x.activation) same ∙ node.3 in
        absurd (none-some (frame-of was.1) (sym e ∙ subst (λ b. frame_among b h.layout ≡ Some (frame-of was.1)) number there))
    by_frames None None e d = e ∙ sym d

  layout-same : h.layout ≡ k.layout
  layout-same =
      let own = h.shows.keeps.memory.laid in
      let other = k.shows.keeps.memory.laid in
      let size = k.size ∙ sym h.size in
      let apart = subst (λ c. StandApart c (common_cells program) k.layout) size other.apart in
      layouts-same (length m.arena.contents) (common_cells program) h.layout k.layout own.apart apart own.single other.single frames-same

  -- they have the same holes
  pub holes-same : n.arena.holes ≡ m.arena.holes
  holes-same =
      let size = k.size ∙ sym h.size in
      k.shows.keeps.memory.holes_are
      ∙ ((λ i. gaps (size i) (common_cells program) (sym layout-same i)) ∙ sym h.shows.keeps.memory.holes_are)
