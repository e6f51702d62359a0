-- Machines of a program that have the same contents are alike.
use Rattle.std.proofs.Common.{◌≡◌, inl, inr, ℕ, zero, suc, ◌+◌, ◌-◌, ◌<◌, ◌≤◌, Bool, true, not, ◌&&◌, List, [], ◌∷◌}
use Rattle.std.proofs.Common.{drop, length, map, Option, Some, None, refl, sym, ap, ◌∙◌, subst, arith, slice_get, is_some}
use Rattle.std.proofs.Common.{if◌then◌else◌}
use Rattle.std.specs.Option.{option_map, unwrap_or}
use Rattle.std.specs.List.{flat_map}
use Rattle.std.proofs.lemmas.Bool.{cases_Bool}
use Rattle.std.proofs.lemmas.Bool.Decides.{same_from_decides}
use Rattle.std.proofs.lemmas.Option.{none-some, same_Some, slice_get-map}
use Rattle.hep_machine.specs.Words.{Frame, State, Units, common_cells, is_held, is_number_among, parent_of, run}
use Rattle.hep_machine.specs.declared.slot.Slot.{Slot}
use Rattle.hep_source.proofs.Tests.{get-drop}
use Rattle.hep_arena.specs.Gaps.{frame_among}
use Rattle.hep_arena.specs.Holes.{IsOut}
use Rattle.hep_layout.specs.Words.{FrameNode, children_out, count_up_to, is_just, is_stacked}
use Rattle.hep_proc.specs.declared.process.Local.{Local}
use Rattle.hep_proc.specs.Stacks.{Stack}
use Rattle.hep_state.specs.AlikeMachines.{AreAlike, AreRenamed, level_renamed, node_renamed, stack_renamed}
use Rattle.hep_state.specs.Words.{AreThere, IsAfter, IsThere, Snapshot, node_under}
use Rattle.hep_state.proofs.AlikeMachines.{alike-after}
use Rattle.hep_state.proofs.EqualLayouts.{holes-same}
use Rattle.hep_explore.specs.Contents.{Contents, HeldFrame, HeldLevel, HeldStack, activation_at, cells_from, contents_of, frame_at}
use Rattle.hep_explore.specs.Contents.{held_stack, keys_among, level_of, number_at}
use Rattle.hep_explore.proofs.HeldNodes.{IsHeld, activation-at, inside, key-at, levels-there, listed, made, node-listed, node-under}
use Rattle.hep_explore.proofs.HeldNodes.{optional, optional-some, parent-number, parent-there, stack_numbers, stacked-by-levels}
use Rattle.hep_explore.proofs.KeyLists.{count-cells, get-take}
use Rattle.hep_explore.proofs.OutCells.{IsInFrame, in-frame}

-- ---- from one of them to the other

-- the state that it keeps
abbrev state_of : {program : Units} {cells : ℕ} {m : Snapshot} → IsHeld program cells m → State
state_of {program = program} x = run program x.choices

-- a node of a machine that has the frame of another one's node
record Matches (a b : Snapshot) (key : ℕ) : Type 0 where
  other : ℕ
  node : FrameNode
  there : b.nodes other ≡ Some node
  same : frame_at a.nodes a.arena.contents key ≡ frame_at b.nodes b.arena.contents other

abbrev frames_of : (m : Snapshot) → List (Option ℕ) → List HeldFrame
frames_of m keys = map (frame_at m.nodes m.arena.contents) (keys_among keys)

module _ {program : Units} {cells : ℕ} {a b : Snapshot} (x : IsHeld program cells a) (y : IsHeld program cells b)
    (same : frames_of a x.keys ≡ frames_of b y.keys) where
  at-place : (j key : ℕ) → slice_get (keys_among x.keys) j ≡ Some key → Matches a b key
  at-place j key e =
      let here =
      slice_get-map (frame_at a.nodes a.arena.contents) (keys_among x.keys) j ∙ ap (option_map (frame_at a.nodes a.arena.contents)) e
      in
      by_key (slice_get (keys_among y.keys) j) refl (
      sym (slice_get-map (frame_at b.nodes b.arena.contents) (keys_among y.keys) j) ∙ ap (λ fs. slice_get fs j) (sym same) ∙ here)
    where
      by_key : (o : Option ℕ) → slice_get (keys_among y.keys) j ≡ o
          → option_map (frame_at b.nodes b.arena.contents) o ≡ Some (frame_at a.nodes a.arena.contents key) → Matches a b key
      by_key None is e = absurd (none-some (frame_at a.nodes a.arena.contents key) e)
      by_key (Some other) is e =
          let node = node-listed y j other is in
          record {
            other = other;
            node = node.0;
            there = node.1;
            same = sym (same_Some (frame_at b.nodes b.arena.contents other) (frame_at a.nodes a.arena.contents key) e);
          }

  matched : (key : ℕ) (n : FrameNode) → a.nodes key ≡ Some n → Matches a b key
  matched key n there = let at = listed x key n there in at-place at.0 key at.1

  module _ (key : ℕ) (n : FrameNode) (there : a.nodes key ≡ Some n) (m : Matches a b key) where
    same-number : n.activation ≡ m.node.activation
    same-number = sym (activation-at x key n there) ∙ ap (λ (f : HeldFrame). f.activation) m.same ∙ activation-at y m.other m.node m.there

    -- its parents have the same number
    same-parent : parent_of (state_of x) n.activation ≡ parent_of (state_of y) m.node.activation
    same-parent =
        parent-number x key n there
        ∙ ap (λ (z : FrameNode). optional (number_at a.nodes z.parent)) (sym (node-under x key n there))
        ∙ ap (λ (f : HeldFrame). optional f.parent) m.same
        ∙ ap (λ (z : FrameNode). optional (number_at b.nodes z.parent)) (node-under y m.other m.node m.there)
        ∙ sym (parent-number y m.other m.node m.there)

  -- what is held in one state is held in the other
  held-there : (c : ℕ) → is_held (state_of x) c ≡ true → is_held (state_of y) c ≡ true
  held-there c held =
      let node = x.after.shows.keeps.tree.found c held in
      let m = matched node.0 node.1 node.2 in
      let number : c ≡ m.node.activation = sym node.3 ∙ same-number node.0 node.1 node.2 m in
      ap (is_held (state_of y)) number ∙ (y.after.shows.keeps.tree.shown m.other m.node m.there).out_is

  parent-there-too : (c : ℕ) → is_held (state_of x) c ≡ true → parent_of (state_of x) c ≡ parent_of (state_of y) c
  parent-there-too c held =
      let node = x.after.shows.keeps.tree.found c held in
      let m = matched node.0 node.1 node.2 in
      let number = same-number node.0 node.1 node.2 m in
      ap (parent_of (state_of x)) (sym node.3) ∙ same-parent node.0 node.1 node.2 m ∙ ap (parent_of (state_of y)) (sym number ∙ node.3)

-- ---- both ways

-- tests that are the same count as many
counts-same : (p q : ℕ → Bool) → ((c : ℕ) → p c ≡ q c) → (n : ℕ) → count_up_to p n ≡ count_up_to q n
counts-same p q same zero = refl
counts-same p q same (suc n) = λ i. counts-same p q same n i + (if same (suc n) i then 1 else 0)

module _ {program : Units} {cells : ℕ} {a b : Snapshot} (x : IsHeld program cells a) (y : IsHeld program cells b)
    (same : contents_of a (common_cells program) x.keys ≡ contents_of b (common_cells program) y.keys) where
  frames : frames_of a x.keys ≡ frames_of b y.keys
  frames = ap (λ (c : Contents). c.frames) same

  held-same : (c : ℕ) → is_held (state_of x) c ≡ is_held (state_of y) c
  held-same c =
      same_from_decides {P = is_held (state_of x) c ≡ true} (is_held (state_of x) c) (is_held (state_of y) c) (λ e. e, λ e. e) (
        held-there y x (sym frames) c,
        held-there x y frames c,
      )

  stacked-same : (c : ℕ) → is_stacked (state_of x) c ≡ is_stacked (state_of y) c
  stacked-same c =
      stacked-by-levels x c
      ∙ ap (λ (z : Contents). is_number_among c (flat_map stack_numbers z.processes)) same
      ∙ sym (stacked-by-levels y c)

  -- a child of an activation
  abbrev is_child : State → ℕ → ℕ → Bool
  is_child z c = λ d. is_held z d && is_just c (parent_of z d)

  children-same : (c : ℕ) → children_out (state_of x) (is_held (state_of x)) c ≡ children_out (state_of y) (is_held (state_of y)) c
  children-same c =
      counts-same (is_child (state_of x) c) (is_child (state_of y) c) one (length (state_of x).activations)
      ∙ ap (count_up_to (is_child (state_of y) c)) as-many
    where
      as-many : length (state_of x).activations ≡ length (state_of y).activations
      as-many = sym x.after.shows.activations ∙ ap (λ (z : Contents). z.activations) same ∙ y.after.shows.activations

      one : (d : ℕ) → is_child (state_of x) c d ≡ is_child (state_of y) c d
      one d = elim (cases_Bool (is_held (state_of x) d)) [
        | inl held ↦ λ i. held-same d i && is_just c (parent-there-too x y frames d held i)
        | inr none ↦
            ap (λ p. p && is_just c (parent_of (state_of x) d)) none
            ∙ ap (λ p. p && is_just c (parent_of (state_of y) d)) (sym (sym (held-same d) ∙ none))
      ]

  -- ---- the new keys

  -- the key that the activation's node has in the other machine
  rename : ℕ → ℕ
  rename key = unwrap_or (unwrap_or (slice_get y.keys (activation_at a.nodes key - 1)) None) 0

  renamed : (key other : ℕ) (n z : FrameNode) → a.nodes key ≡ Some n → b.nodes other ≡ Some z → n.activation ≡ z.activation
      → rename key ≡ other
  unfolding rename
  renamed key other n z there found number =
      let like = activation-at x key n there ∙ number in
      ap (λ c. unwrap_or (unwrap_or (slice_get y.keys (c - 1)) None) 0) like
      ∙ ap (λ o. unwrap_or (unwrap_or o None) 0) (key-at y other z found)

  -- ---- the nodes

  module _ (key : ℕ) (n : FrameNode) (there : a.nodes key ≡ Some n) where
    abbrev m : Matches a b key
    m = matched x y frames key n there

    abbrev z : FrameNode
    z = m.node

    number : n.activation ≡ z.activation
    number = same-number x y frames key n there m

    -- a fact of both nodes, from what is kept of their frames
    by_frame : {A : Type 0} (f : FrameNode → A) (g : HeldFrame → A)
        → ((c : Snapshot) (k : ℕ) → f (node_under c.nodes k) ≡ g (frame_at c.nodes c.arena.contents k)) → f n ≡ f z
    by_frame f g is =
        ap f (sym (node-under x key n there)) ∙ is a key ∙ ap g m.same ∙ sym (is b m.other) ∙ ap f (node-under y m.other z m.there)

    unit-same : n.unit ≡ z.unit
    unit-same = by_frame (λ (w : FrameNode). w.unit) (λ (f : HeldFrame). f.unit) (λ c k. refl)

    first-same : n.first ≡ z.first
    first-same = by_frame (λ (w : FrameNode). w.first) (λ (f : HeldFrame). f.first) (λ c k. refl)

    slots-same : cells_from a.arena.contents n.first n.cells ≡ cells_from b.arena.contents z.first z.cells
    slots-same =
        ap (λ (w : FrameNode). cells_from a.arena.contents w.first w.cells) (sym (node-under x key n there))
        ∙ ap (λ (f : HeldFrame). f.cells) m.same
        ∙ ap (λ (w : FrameNode). cells_from b.arena.contents w.first w.cells) (node-under y m.other z m.there)

    cells-same : n.cells ≡ z.cells
    cells-same =
        sym (count-cells a.arena.contents n.first n.cells (inside x key n there)) ∙ ap length slots-same
        ∙ count-cells b.arena.contents z.first z.cells (inside y m.other z m.there)

    parent-number-of : (o p : Option ℕ) → n.parent ≡ o → z.parent ≡ p → optional (number_at a.nodes o) ≡ optional (number_at b.nodes p)
        → p ≡ option_map rename o
    parent-number-of None None e d same = refl
    parent-number-of None (Some l) e d same =
        let v = parent-there y m.other l z m.there d in
        let some = optional-some (activation_at b.nodes l) (omega (arith, (made y l v.0 v.1).0, activation-at y l v.0 v.1)) in
        absurd (none-some (activation_at b.nodes l) (same ∙ some))
    parent-number-of (Some k) None e d same =
        let w = parent-there x key k n there e in
        let some = optional-some (activation_at a.nodes k) (omega (arith, (made x k w.0 w.1).0, activation-at x k w.0 w.1)) in
        absurd (none-some (activation_at a.nodes k) (sym same ∙ some))
    parent-number-of (Some k) (Some l) e d same =
        let w = parent-there x key k n there e in
        let v = parent-there y m.other l z m.there d in
        let first = optional-some (activation_at a.nodes k) (omega (arith, (made x k w.0 w.1).0, activation-at x k w.0 w.1)) in
        let second = optional-some (activation_at b.nodes l) (omega (arith, (made y l v.0 v.1).0, activation-at y l v.0 v.1)) in
        let numbers = same_Some (activation_at a.nodes k) (activation_at b.nodes l) (sym first ∙ same ∙ second) in
        let number : w.0.activation ≡ v.0.activation = sym (activation-at x k w.0 w.1) ∙ numbers ∙ activation-at y l v.0 v.1 in
        ap (λ i. Some i) (sym (renamed k l w.0 v.0 w.1 v.1 number))

    parent-renamed : z.parent ≡ option_map rename n.parent
    parent-renamed =
        parent-number-of n.parent z.parent refl refl (
        sym (parent-number x key n there) ∙ same-parent x y frames key n there m ∙ parent-number y m.other z m.there)

    children-are : n.children ≡ z.children
    children-are =
        (x.after.shows.keeps.tree.shown key n there).children_are ∙ children-same n.activation
        ∙ ap (children_out (state_of y) (is_held (state_of y))) number ∙ sym (y.after.shows.keeps.tree.shown m.other z m.there).children_are

    finished-is : n.finished ≡ z.finished
    finished-is =
        (x.after.shows.keeps.tree.shown key n there).finished_is ∙ ap not (stacked-same n.activation ∙ ap (is_stacked (state_of y)) number)
        ∙ sym (y.after.shows.keeps.tree.shown m.other z m.there).finished_is

    node-same : z ≡ node_renamed rename n
    node-same = λ i. record {
      activation = sym number i;
      unit = sym unit-same i;
      first = sym first-same i;
      cells = sym cells-same i;
      parent = parent-renamed i;
      children = sym children-are i;
      finished = sym finished-is i;
    }

    kept : b.nodes (rename key) ≡ Some (node_renamed rename n)
    kept = ap b.nodes (renamed key m.other n z there m.there number) ∙ m.there ∙ ap (λ w. Some w) node-same

  -- and there are no more
  no-more : (key : ℕ) (z : FrameNode) → b.nodes key ≡ Some z → (was : ℕ) × (n : FrameNode) × (a.nodes was ≡ Some n) × (rename was ≡ key)
  no-more key z there =
      let m = matched y x (sym frames) key z there in
      let number = same-number y x (sym frames) key z there m in
      (m.other, m.node, m.there, renamed m.other key m.node z m.there there (sym number))

  are-renamed : AreRenamed rename a.nodes b.nodes
  are-renamed = record { kept = kept; no_more = no-more }

  -- ---- the arena

  size : length b.arena.contents ≡ length a.arena.contents
  size = y.after.size ∙ sym x.after.size

  -- an element of a part of a list
  within : (xs : List Slot) (first count c : ℕ) → first ≤ c → c < first + count
      → slice_get (cells_from xs first count) (c - first) ≡ slice_get xs c
  within xs first count c low high =
      get-take (drop first xs) count (c - first) (omega (arith, low, high)) ∙ sym (get-drop xs first (c - first))
      ∙ ap (slice_get xs) (let e : first + (c - first) ≡ c = omega (arith, low) in e)

  common-same : cells_from a.arena.contents 0 (common_cells program) ≡ cells_from b.arena.contents 0 (common_cells program)
  common-same = ap (λ (z : Contents). z.common) same

  outside : (c : ℕ) → c < length a.arena.contents → IsOut c a.arena.holes → slice_get b.arena.contents c ≡ slice_get a.arena.contents c
  outside c less out =
      elim (
      in-frame (length a.arena.contents) (common_cells program) c x.after.layout x.after.shows.keeps.memory.laid.apart
      x.after.shows.keeps.memory.laid.single less (subst (IsOut c) x.after.shows.keeps.memory.holes_are out)) [
        | inl low ↦
            sym (within b.arena.contents 0 (common_cells program) c (omega arith) (omega (arith, low)))
            ∙ ap (λ xs. slice_get xs (c - 0)) (sym common-same)
            ∙ within a.arena.contents 0 (common_cells program) c (omega arith) (omega (arith, low))
        | inr found ↦ in-node found
      ]
    where
      in-node : IsInFrame x.after.layout c → slice_get b.arena.contents c ≡ slice_get a.arena.contents c
      in-node f =
          let held = sym (x.after.shows.keeps.frames_are f.frame.activation) ∙ ap is_some f.there in
          let node = x.after.shows.keeps.tree.found f.frame.activation held in
          let n = node.1 in
          let m = matched x y frames node.0 n node.2 in
          let z = m.node in
          let there = x.after.shows.keeps.framed node.0 n node.2 in
          let like = ap (λ d. frame_among d x.after.layout) (sym node.3) ∙ there in
          let frame = same_Some f.frame (record { activation = n.activation; first = n.first; cells = n.cells }) (sym f.there ∙ like) in
          let first : f.frame.first ≡ n.first = ap (λ (g : Frame). g.first) frame in
          let count : f.frame.cells ≡ n.cells = ap (λ (g : Frame). g.cells) frame in
          let first-too = first-same node.0 n node.2 in
          let count-too = cells-same node.0 n node.2 in
          let slots = slots-same node.0 n node.2 in
          sym (within b.arena.contents z.first z.cells c (omega (arith, f.low, first, first-too)) (
          omega (arith, f.high, first, first-too, count, count-too)))
          ∙ (λ i. slice_get (sym slots i) (c - sym first-too i))
          ∙ within a.arena.contents n.first n.cells c (omega (arith, f.low, first)) (omega (arith, f.high, first, count))

  -- ---- processes

  level-same : (l k : Local) → IsThere program a.nodes l → IsThere program b.nodes k → level_of a.nodes l ≡ level_of b.nodes k
      → k ≡ level_renamed rename l
  level-same l k there found e =
      let number : activation_at a.nodes l.key ≡ activation_at b.nodes k.key = ap (λ (z : HeldLevel). z.activation) e in
      let same-key = renamed l.key k.key (node_under a.nodes l.key) (node_under b.nodes k.key) there.1 found.1 number in
      λ i. record {
        key = sym same-key i;
        unit = sym (ap (λ (z : HeldLevel). z.unit) e) i;
        kept = sym (ap (λ (z : HeldLevel). z.kept) e) i;
        index = sym (ap (λ (z : HeldLevel). z.index) e) i;
      }

  levels-same : (ls ks : List Local) → AreThere program a.nodes ls → AreThere program b.nodes ks
      → map (level_of a.nodes) ls ≡ map (level_of b.nodes) ks → ks ≡ map (level_renamed rename) ls
  levels-same [] [] there found e = refl
  levels-same [] (k ∷ ks) there found e = absurd (omega (arith, ap length e))
  levels-same (l ∷ ls) [] there found e = absurd (omega (arith, ap length e))
  levels-same (l ∷ ls) (k ∷ ks) there found e =
      let first : level_of a.nodes l ≡ level_of b.nodes k = cc in
      let rest : map (level_of a.nodes) ls ≡ map (level_of b.nodes) ks = cc in
      let head = level-same l k there.0 found.0 first in
      let tail = levels-same ls ks there.1 found.1 rest in
      λ i. head i ∷ tail i

  stack-same : (k j : Stack) → AreThere program a.nodes k.levels → AreThere program b.nodes j.levels
      → held_stack a.nodes k ≡ held_stack b.nodes j → j ≡ stack_renamed rename k
  stack-same k j there found e =
      let levels = levels-same k.levels j.levels there found (ap (λ (z : HeldStack). z.levels) e) in
      λ i. record {
        levels = levels i;
        operands = sym (ap (λ (z : HeldStack). z.operands) e) i;
        pending = sym (ap (λ (z : HeldStack). z.pending) e) i;
      }

  stacks-same : (ks js : List Stack) → ((i : ℕ) (k : Stack) → slice_get ks i ≡ Some k → AreThere program a.nodes k.levels)
      → ((i : ℕ) (j : Stack) → slice_get js i ≡ Some j → AreThere program b.nodes j.levels)
      → map (held_stack a.nodes) ks ≡ map (held_stack b.nodes) js → js ≡ map (stack_renamed rename) ks
  stacks-same [] [] there found e = refl
  stacks-same [] (j ∷ js) there found e = absurd (omega (arith, ap length e))
  stacks-same (k ∷ ks) [] there found e = absurd (omega (arith, ap length e))
  stacks-same (k ∷ ks) (j ∷ js) there found e =
      let first : held_stack a.nodes k ≡ held_stack b.nodes j = cc in
      let rest : map (held_stack a.nodes) ks ≡ map (held_stack b.nodes) js = cc in
      let head = stack-same k j (there 0 k refl) (found 0 j refl) first in
      let tail = stacks-same ks js (λ i r f. there (suc i) r f) (λ i r f. found (suc i) r f) rest in
      λ i. head i ∷ tail i

  processes : b.processes ≡ map (stack_renamed rename) a.processes
  processes = stacks-same a.processes b.processes (levels-there x) (levels-there y) (ap (λ (z : Contents). z.processes) same)

  -- ---- all

  pub alike : AreAlike a b
  alike =
      record {
        arena = record {
          size = size;
          holes = holes-same program cells x.choices y.choices a b rename are-renamed x.after y.after;
          cells = outside;
        };
        rename = rename;
        nodes = are-renamed;
        processes = processes;
        rest = λ i. record {
          arena = b.arena;
          nodes = b.nodes;
          processes = b.processes;
          activations = sym (ap (λ (z : Contents). z.activations) same) i;
          records = sym (ap (λ (z : Contents). z.records) same) i;
          faults = sym (ap (λ (z : Contents). z.faults) same) i;
          halted = sym (ap (λ (z : Contents). z.halted) same) i;
        };
      }

  -- the other one keeps the same states
  pub after-alike : IsAfter program cells x.choices b
  after-alike = alike-after alike x.after
