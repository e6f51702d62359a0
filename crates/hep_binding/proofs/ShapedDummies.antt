-- The bounds of adjustable arrays are written.
use Rattle.std.proofs.Common.{◌≡◌, ℕ, zero, suc, ◌+◌, ◌*◌, ◌<◌, ◌≤◌, [], ◌∷◌, length, get_or, Option, Some, None, refl, sym, ap, ◌∙◌, subst, arith, List, drop, ℤ, slice_get}
use Rattle.std.proofs.lemmas.Option.{none-some, same_Some, slice_get-get_or, slice_get_within}
use Rattle.hep_machine.specs.Words.{index_among, dummies_of, unset_cell, Frame, common_cells, activation_of, Bounds, Dummy, Name, Statement, adjustable_dimensions, dummy_at, adjustable_dimensions_of_all, frame_cells}
use Rattle.hep_machine.specs.declared.shape.Bound.{Bound}
use Rattle.hep_machine.specs.declared.slot.Slot.{Slot}
use Rattle.hep_arena.specs.Space.{Space}
use Rattle.hep_layout.specs.Words.{number, slot_by_dummy, slot_of_bounds, slot_of_upper, descriptor_slots, FramePart, bounds, place_of_part, Nodes, FrameNode}
use Rattle.hep_proc.specs.FrameTable.{FramesOf, Keeps}
use Rattle.hep_binding.specs.AdjustableBounds.{IsBoundPut, IsShaping, cells_to_bounds_of, AreShaping, IsFramedBy, cells_of_shape, cells_of_shapes}
use Rattle.hep_binding.specs.FrameWriting.{IsSet, unit_framed, written_up_to}
use Rattle.hep_binding.proofs.Cells.{keeps-skipped, keeps-written, one-cell, place-bounds, to-next, to-end, to-first}
use Rattle.hep_binding.proofs.Names.{index-found}
use Rattle.hep_arena.specs.Gaps.{frame_among}
use Rattle.hep_arena.specs.Holes.{IsOut}
use Rattle.hep_layout.proofs.Frames.{among}
use Rattle.hep_layout.proofs.Memory.{frame-is-out}
use Rattle.hep_step.specs.Shapes.{AreShapesOf, IsShapeOf}

-- ---- the two cells of a dimension

lower-slot : (bs : Bounds) (j i : ℕ) (b : Bound) → slice_get bs j ≡ Some b → i ≡ 2 * j → slot_of_bounds bs i ≡ Some (number b.lower)
lower-slot [] j i b e same = absurd (none-some b e)
lower-slot (c ∷ cs) zero i b e same = ap (slot_of_bounds (c ∷ cs)) same ∙ ap (λ (z : Bound). Some (number z.lower)) (same_Some c b e)
lower-slot (c ∷ cs) (suc j) i b e same = ap (slot_of_bounds (c ∷ cs)) (let next : i ≡ suc (suc (2 * j)) = omega (arith, same) in next) ∙ lower-slot cs j (2 * j) b e refl

upper-slot : (bs : Bounds) (j i : ℕ) (b : Bound) → slice_get bs j ≡ Some b → i ≡ 2 * j + 1 → slot_of_bounds bs i ≡ Some (slot_of_upper b.upper)
upper-slot [] j i b e same = absurd (none-some b e)
upper-slot (c ∷ cs) zero i b e same = ap (slot_of_bounds (c ∷ cs)) same ∙ ap (λ (z : Bound). Some (slot_of_upper z.upper)) (same_Some c b e)
upper-slot (c ∷ cs) (suc j) i b e same = ap (slot_of_bounds (c ∷ cs)) (let next : i ≡ suc (suc (2 * j + 1)) = omega (arith, same) in next) ∙ upper-slot cs j (2 * j + 1) b e refl

module _ (f : FramesOf) (a k at : ℕ) (shape : Bounds) (nodes : Nodes) (h : IsShaping f.program f.state f.layout a k at shape) where
  abbrev first : ℕ
  first = cells_to_bounds_of (unit_framed f a) k

  index : index_among h.name (dummies_of (unit_framed f a)) ≡ Some k
  index = index-found h.name (dummies_of (unit_framed f a)) k h.distinct h.named

  wants : (i : ℕ) → descriptor_slots f.program f.state f.layout a (bounds h.name, i) ≡ slot_of_bounds shape i
  wants i = ap (slot_by_dummy (λ d. slot_of_bounds d.shape i) (activation_of f.state a).dummies) index ∙ ap (λ bs. slot_of_bounds bs i) h.shape_is

  place : (i m : ℕ) → i < 2 * length shape → m ≡ first + i → place_of_part (unit_framed f a) (bounds h.name) i ≡ Some m
  place i m less same = place-bounds (unit_framed f a) h.name k index i (omega (arith, less, h.dimensions)) ∙ ap (λ n. Some n) (sym same)

  module _ (j m : ℕ) (b : Bound) (there : slice_get shape j ≡ Some b) (m_is : m ≡ first + 2 * j) where
    inside : j < length shape
    inside = slice_get_within shape j b there

    keeps-lower : (before after : Space) (p : ℕ) → p ≡ at + 2 * j → IsSet p (number b.lower) before after → Keeps (written_up_to f a m) before nodes → Keeps (written_up_to f a (suc m)) after nodes
    keeps-lower before after p p_is put kept =
        keeps-written f a nodes f.state.store before after m h.frame (bounds h.name, 2 * j) (number b.lower) h.framed (place (2 * j) m (omega (arith, inside)) m_is) refl (wants (2 * j) ∙ lower-slot shape j (2 * j) b there refl)
        (subst (λ q. IsSet q (number b.lower) before after) (let same : p ≡ h.frame.first + m = omega (arith, p_is, m_is, h.begins) in same) put) kept

    keeps-upper : (before after : Space) (p : ℕ) (u : ℤ) → b.upper ≡ Some u → p ≡ at + 2 * j + 1 → IsSet p (number u) before after → Keeps (written_up_to f a (suc m)) before nodes → Keeps (written_up_to f a (suc (suc m))) after nodes
    keeps-upper before after p u upper p_is put kept =
        keeps-written f a nodes f.state.store before after (suc m) h.frame (bounds h.name, 2 * j + 1) (number u) h.framed (place (2 * j + 1) (suc m) (omega (arith, inside)) (omega (arith, m_is))) refl
        (wants (2 * j + 1) ∙ (upper-slot shape j (2 * j + 1) b there refl ∙ ap (λ o. Some (slot_of_upper o)) upper))
        (subst (λ q. IsSet q (number u) before after) (let same : p ≡ h.frame.first + suc m = omega (arith, p_is, m_is, h.begins) in same) put) kept

    keeps-open : (after : Space) → b.upper ≡ None → Keeps (written_up_to f a (suc m)) after nodes → Keeps (written_up_to f a (suc (suc m))) after nodes
    keeps-open after upper kept = keeps-skipped f a nodes f.state.store after (suc m) (suc (suc m)) (omega arith) unset kept where
      unset : (d : FramePart × ℕ) (n : ℕ) (v : Slot) → place_of_part (unit_framed f a) d.0 d.1 ≡ Some n → suc m ≤ n → n < suc (suc m) → descriptor_slots f.program f.state f.layout a d ≡ Some v → v ≡ unset_cell
      unset d n v here low high w =
          let same : n ≡ first + (2 * j + 1) = omega (arith, low, high, m_is) in
          let cell = one-cell (unit_framed f a) (bounds h.name, 2 * j + 1) d n (place (2 * j + 1) n (omega (arith, inside)) same) here in
          let none : descriptor_slots f.program f.state f.layout a (bounds h.name, 2 * j + 1) ≡ Some unset_cell = wants (2 * j + 1) ∙ (upper-slot shape j (2 * j + 1) b there refl ∙ ap (λ o. Some (slot_of_upper o)) upper) in
          sym (same_Some unset_cell v (sym none ∙ (ap (descriptor_slots f.program f.state f.layout a) cell ∙ w)))

    pub keeps-bound : (before after : Space) (p : ℕ) (o : Option ℤ) → b.upper ≡ o → p ≡ at + 2 * j → IsBoundPut p b.lower o before after → Keeps (written_up_to f a m) before nodes → Keeps (written_up_to f a (suc (suc m))) after nodes
    keeps-bound before after p None upper p_is put kept = keeps-open after upper (keeps-lower before after p p_is put kept)
    keeps-bound before after p (Some u) upper p_is put kept = keeps-upper put.0 after (p + 1) u upper (omega (arith, p_is)) put.2 (keeps-lower before put.0 p p_is put.1 kept)

-- ---- the first j dimensions

-- what is kept once they are written
abbrev pub AreShaped : ℕ → Bounds → Space → Nodes → ℕ → Space → Nodes → Type 0
AreShaped at shape before old j after new =
    (f : FramesOf) (a k : ℕ)
    → Keeps (written_up_to f a (cells_to_bounds_of (unit_framed f a) k)) before old → IsShaping f.program f.state f.layout a k at shape
    → Keeps (written_up_to f a (cells_to_bounds_of (unit_framed f a) k + 2 * j)) after new

pub shaped-begins : (at : ℕ) (shape : Bounds) (before : Space) (old : Nodes) → AreShaped at shape before old 0 before old
shaped-begins at shape before old f a k kept h =
    subst (λ m. Keeps (written_up_to f a m) before old) (let same : cells_to_bounds_of (unit_framed f a) k ≡ cells_to_bounds_of (unit_framed f a) k + 2 * 0 = omega arith in same) kept

pub shaped-next : (at : ℕ) (shape : Bounds) (before : Space) (old : Nodes) (j p : ℕ) (default : Bound) (mid after : Space) (nodes new : Nodes)
    → j < length shape → p ≡ at + 2 * j → IsBoundPut p (get_or shape j default).lower (get_or shape j default).upper mid after → new ≡ nodes → AreShaped at shape before old j mid nodes → AreShaped at shape before old (j + 1) after new
shaped-next at shape before old j p default mid after nodes new less p_is put same_nodes so_far f a k kept h =
    let b = get_or shape j default in
    let first = cells_to_bounds_of (unit_framed f a) k in
    let written = keeps-bound f a k at shape nodes h j (first + 2 * j) b (slice_get-get_or shape j default less) refl mid after p b.upper refl p_is put (so_far f a k kept h) in
    let cells : suc (suc (first + 2 * j)) ≡ first + 2 * (j + 1) = omega arith in
    subst (λ m. Keeps (written_up_to f a m) after new) cells (subst (Keeps (written_up_to f a (suc (suc (first + 2 * j)))) after) (sym same_nodes) written)

pub shaped-ends : (at : ℕ) (shape : Bounds) (before : Space) (old : Nodes) (j : ℕ) (after : Space) (new : Nodes) → j ≡ length shape → AreShaped at shape before old j after new
    → (f : FramesOf) (a k : ℕ) → Keeps (written_up_to f a (cells_to_bounds_of (unit_framed f a) k)) before old → IsShaping f.program f.state f.layout a k at shape
    → Keeps (written_up_to f a (cells_to_bounds_of (unit_framed f a) (k + 1))) after new
shaped-ends at shape before old j after new all so_far f a k kept h =
    let unit = unit_framed f a in
    let next = to-next unit k h.name h.named in
    let more : cells_to_bounds_of unit (suc k) ≡ cells_to_bounds_of unit (k + 1) = ap (cells_to_bounds_of unit) (let one : suc k ≡ k + 1 = omega arith in one) in
    let cells : cells_to_bounds_of unit k + 2 * j ≡ cells_to_bounds_of unit (k + 1) = omega (arith, next, more, all, h.dimensions) in
    subst (λ m. Keeps (written_up_to f a m) after new) cells (so_far f a k kept h)

-- ---- those of one dummy argument after the other

pub cells-left : (xs : List (Option Bounds)) (j : ℕ) (o : Option Bounds) → slice_get xs j ≡ Some o → cells_of_shapes (drop j xs) ≡ cells_of_shape o + cells_of_shapes (drop (suc j) xs)
cells-left [] j o e0 = absurd (none-some o e0)
cells-left (x ∷ xs) zero o e0 = ap (λ z. cells_of_shape z + cells_of_shapes xs) (same_Some x o e0)
cells-left (x ∷ xs) (suc j) o e0 = cells-left xs j o e0

pub cells-within : (xs : List (Option Bounds)) (j n e m : ℕ) (o : Option Bounds) → slice_get xs j ≡ Some o → n + cells_of_shapes (drop j xs) ≡ e → e ≤ m → n + cells_of_shape o ≤ m
cells-within xs j n e m o e0 same most = omega (arith, same, most, cells-left xs j o e0)

pub cells-below : (xs : List (Option Bounds)) (j n e p : ℕ) (o : Option Bounds) → slice_get xs j ≡ Some o → n + cells_of_shapes (drop j xs) ≡ e → p < n + cells_of_shape o → p < e
cells-below xs j n e p o e0 same low = omega (arith, same, low, cells-left xs j o e0)

pub cells-next : (xs : List (Option Bounds)) (j n e q : ℕ) (o : Option Bounds) → slice_get xs j ≡ Some o → n + cells_of_shapes (drop j xs) ≡ e → q ≡ n + cells_of_shape o → q + cells_of_shapes (drop (j + 1) xs) ≡ e
cells-next xs j n e q o e0 same next =
    omega (arith, same, next, cells-left xs j o e0, ap (λ i. cells_of_shapes (drop i xs)) (let one : suc j ≡ j + 1 = omega arith in one))

there-is : (xs : List Name) (j : ℕ) → j < length xs → (x : Name) × (slice_get xs j ≡ Some x)
there-is [] j less = absurd (omega (arith, less))
there-is (x ∷ xs) zero less = (x, refl)
there-is (x ∷ xs) (suc j) less = there-is xs j (omega (arith, less))

-- what is kept once those of the first j are written, and where the next ones begin
abbrev pub AreAllShaped : ℕ → List (Option Bounds) → Space → Nodes → ℕ → ℕ → Space → Nodes → Type 0
AreAllShaped at shapes before old j next after new =
    (f : FramesOf) (a : ℕ) (frame : Frame)
    → Keeps (written_up_to f a (cells_to_bounds_of (unit_framed f a) 0)) before old
    → frame_among a f.layout ≡ Some frame → at ≡ frame.first + cells_to_bounds_of (unit_framed f a) 0 → AreShaping f.program f.state a shapes
    → (next ≡ frame.first + cells_to_bounds_of (unit_framed f a) j)
    × Keeps (written_up_to f a (cells_to_bounds_of (unit_framed f a) j)) after new

-- what the writing of one of them keeps
abbrev pub IsOneShaped : ℕ → Option Bounds → Space → Nodes → Space → Nodes → Type 0
IsOneShaped at shape before old after new =
    (bounds : Bounds) → shape ≡ Some bounds → (f : FramesOf) (a k : ℕ)
    → Keeps (written_up_to f a (cells_to_bounds_of (unit_framed f a) k)) before old → IsShaping f.program f.state f.layout a k at bounds
    → Keeps (written_up_to f a (cells_to_bounds_of (unit_framed f a) (k + 1))) after new

pub all-shaped-next : (at : ℕ) (shapes : List (Option Bounds)) (before : Space) (old : Nodes) (j p q : ℕ) (o : Option Bounds) (mid after : Space) (nodes new : Nodes)
    → slice_get shapes j ≡ Some o → q ≡ p + cells_of_shape o → (o ≡ None → after ≡ mid) → IsOneShaped p o mid nodes after new → new ≡ nodes
    → AreAllShaped at shapes before old j p mid nodes → AreAllShaped at shapes before old (j + 1) q after new
all-shaped-next at shapes before old j p q o mid after nodes new e0 q_is none some same_nodes so_far f a frame kept framed begins h =
    by_shape o q_is none some e0 where
      name : (x : Name) × (slice_get (dummies_of (unit_framed f a)) j ≡ Some x)
      name = there-is (dummies_of (unit_framed f a)) j (omega (arith, slice_get_within shapes j o e0, h.shapes_are.as_many))

      now : (p ≡ frame.first + cells_to_bounds_of (unit_framed f a) j) × Keeps (written_up_to f a (cells_to_bounds_of (unit_framed f a) j)) mid nodes
      now = so_far f a frame kept framed begins h

      more : cells_to_bounds_of (unit_framed f a) (j + 1) ≡ cells_to_bounds_of (unit_framed f a) j + 2 * adjustable_dimensions (unit_framed f a) name.0
      more = ap (cells_to_bounds_of (unit_framed f a)) (let one : j + 1 ≡ suc j = omega arith in one) ∙ to-next (unit_framed f a) j name.0 name.1

      by_shape : (o : Option Bounds) → q ≡ p + cells_of_shape o → (o ≡ None → after ≡ mid) → IsOneShaped p o mid nodes after new → slice_get shapes j ≡ Some o
          → (q ≡ frame.first + cells_to_bounds_of (unit_framed f a) (j + 1)) × Keeps (written_up_to f a (cells_to_bounds_of (unit_framed f a) (j + 1))) after new
      by_shape None q_is none some e =
          let zero_more = h.shapes_are.each j name.0 None name.1 e in
          let same : cells_to_bounds_of (unit_framed f a) j ≡ cells_to_bounds_of (unit_framed f a) (j + 1) = omega (arith, more, zero_more) in (
            omega (arith, q_is, now.0, same),
            subst (λ m. Keeps (written_up_to f a m) after new) same
                (subst (λ ns. Keeps (written_up_to f a (cells_to_bounds_of (unit_framed f a) j)) after ns) (sym same_nodes)
                (subst (λ sp. Keeps (written_up_to f a (cells_to_bounds_of (unit_framed f a) j)) sp nodes) (sym (none refl)) now.1)),
          )
      by_shape (Some bs) q_is none some e =
          let is = h.shapes_are.each j name.0 (Some bs) name.1 e in (
            omega (arith, q_is, now.0, more, is.0),
            some bs refl f a j now.1 (record { frame = frame; framed = framed; begins = now.0; distinct = h.distinct; name = name.0; named = name.1; dimensions = is.0; shape_is = is.1 }),
          )

pub all-shaped-ends : (at : ℕ) (shapes : List (Option Bounds)) (before : Space) (old : Nodes) (j p : ℕ) (after : Space) (new : Nodes) → j ≡ length shapes → AreAllShaped at shapes before old j p after new
    → (f : FramesOf) (a : ℕ) (frame : Frame) → Keeps (written_up_to f a (cells_to_bounds_of (unit_framed f a) 0)) before old
    → frame_among a f.layout ≡ Some frame → at ≡ frame.first + cells_to_bounds_of (unit_framed f a) 0 → AreShaping f.program f.state a shapes
    → Keeps (written_up_to f a (frame_cells (unit_framed f a))) after new
all-shaped-ends at shapes before old j p after new all so_far f a frame kept framed begins h =
    subst (λ m. Keeps (written_up_to f a m) after new)
    (ap (cells_to_bounds_of (unit_framed f a)) (all ∙ h.shapes_are.as_many) ∙ to-end (unit_framed f a))
    (so_far f a frame kept framed begins h).1

-- ---- the cells that they take

shape-cells : (unit : List Statement) (x : Name) (d : Dummy) (o : Option Bounds) → IsShapeOf unit x d o → cells_of_shape o ≡ 2 * adjustable_dimensions unit x
shape-cells unit x d None h = omega (arith, h)
shape-cells unit x d (Some bs) h = omega (arith, h.0)

all-cells : (unit : List Statement) (xs : List Name) (shapes : List (Option Bounds)) → length shapes ≡ length xs
    → ((k : ℕ) (x : Name) (o : Option Bounds) → slice_get xs k ≡ Some x → slice_get shapes k ≡ Some o → cells_of_shape o ≡ 2 * adjustable_dimensions unit x)
    → cells_of_shapes shapes ≡ 2 * adjustable_dimensions_of_all unit xs
all-cells unit [] [] same each = refl
all-cells unit (x ∷ xs) (o ∷ os) same each = omega (arith, each 0 x o refl refl, all-cells unit xs os (omega (arith, same)) (λ k. each (suc k)))
all-cells unit _ _ same each = absurd (omega (arith, same))

-- they are the last ones of a frame
pub shapes-last : (unit : List Statement) (ds : List Dummy) (shapes : List (Option Bounds)) → AreShapesOf unit ds shapes → cells_to_bounds_of unit 0 + cells_of_shapes shapes ≡ frame_cells unit
shapes-last unit ds shapes h =
    let cells = all-cells unit (dummies_of unit) shapes h.as_many (λ k x o e f. shape-cells unit x (dummy_at ds k) o (h.each k x o e f)) in
    omega (arith, cells, to-first unit)

pub begins-behind : (f : FramesOf) (a : ℕ) (n : FrameNode) (shapes : List (Option Bounds)) (at : ℕ) → (h : IsFramedBy f.program f.state f.layout a n) → AreShaping f.program f.state a shapes → at + cells_of_shapes shapes ≡ n.first + n.cells
    → at ≡ h.frame.first + cells_to_bounds_of (unit_framed f a) 0
begins-behind f a n shapes at h shaping is =
    omega (arith, is, h.begins, h.sized, shapes-last (unit_framed f a) (activation_of f.state a).dummies shapes shaping.shapes_are)

-- ---- the cells of a frame that is kept

module _ (f : FramesOf) (arena : Space) (nodes : Nodes) (key : ℕ) (n : FrameNode) (kept : Keeps f arena nodes) (there : nodes key ≡ Some n) where
  abbrev frame-here : Frame
  frame-here = record { activation = n.activation; first = n.first; cells = n.cells }

  pub frame-inside : n.first + n.cells ≤ length arena.contents
  frame-inside = (among (length arena.contents) (common_cells f.program) n.activation f.layout frame-here kept.memory.laid.apart (kept.framed key n there)).inside

  pub frame-out : (p : ℕ) → n.first ≤ p → p < n.first + n.cells → IsOut p arena.holes
  frame-out p low high = frame-is-out f.program f.state f.layout arena.contents arena.holes n.activation p frame-here kept.memory (kept.framed key n there) low high
