-- What is found in the cells of dummy arguments, DOs and adjustable bounds.
use Rattle.std.proofs.Common.{◌≡◌, ℕ, ◌+◌, ◌*◌, ◌<◌, true, false, List, Some, refl, sym, ap, ◌∙◌, subst, arith, pos, slice_get}
use Rattle.hep_machine.specs.Words.{Name, Statement, index_among, Units, dummies_of, unit_at, unset_cell, adjustable_dimensions, Frame, Layout, dummy_at, activation_of, unit_of, Level, State, is_do, is_owned}
use Rattle.hep_machine.specs.declared.slot.Slot.{Slot}
use Rattle.hep_arena.specs.Gaps.{frame_among}
use Rattle.hep_layout.specs.Words.{address, cell_in, frame_address, Describes, is_descriptor, level_of, loop_among, number, slot_of_bounds, slot_of_loop, descriptor_slots, FramePart, argument, bounds, iteration, first_of_part, frame_row, place_of_part, same_part, size_in}
use Rattle.hep_layout.proofs.FrameRows.{argument-first, bounds-first, iteration-first}
use Rattle.hep_layout.proofs.Rows.{place-at}

-- a cell of a part is so many cells behind the frame's first one
pub part-address : (program : Units) (s : State) (layout : Layout) (a : ℕ) (f : Frame) (part : FramePart) (i cells : ℕ) → frame_among a layout ≡ Some f → size_in (same_part part) (frame_row (unit_at program (unit_of s a))) ≡ cells → i < cells
    → frame_address program s layout a (part, i) ≡ Some (f.first + first_of_part (unit_at program (unit_of s a)) part + i)
part-address program s layout a f part i cells framed sized less =
    (λ k. cell_in (framed k) (there k)) ∙ ap (λ n. Some n) (omega arith) where
      there : place_of_part (unit_at program (unit_of s a)) part i ≡ Some (first_of_part (unit_at program (unit_of s a)) part + i)
      there = place-at (same_part part) i (frame_row (unit_at program (unit_of s a))) (subst (λ n. i < n) (sym sized) less)

module _ (program : Units) (s : State) (layout : Layout) (contents : List Slot) (a : ℕ) (f : Frame) (describes : Describes program s layout (descriptor_slots program s layout) contents) (framed : frame_among a layout ≡ Some f) where
  abbrev unit : List Statement
  unit = unit_at program (unit_of s a)

  -- the cell of a part has what is wanted of it
  tells : (part : FramePart) (i cells : ℕ) (slot : Slot) → is_descriptor program s a (part, i) ≡ true → size_in (same_part part) (frame_row unit) ≡ cells → i < cells → descriptor_slots program s layout a (part, i) ≡ Some slot
      → slice_get contents (f.first + first_of_part unit part + i) ≡ Some slot
  tells part i cells slot is sized less wanted = describes a (part, i) (f.first + first_of_part unit part + i) slot is (part-address program s layout a f part i cells framed sized less) wanted

  -- a dummy argument stands for storage units: the first one's address, and how many there are
  pub tells-first : (x : Name) (k base : ℕ) → index_among x (dummies_of unit) ≡ Some k → is_owned a (dummy_at (activation_of s a).dummies k).start ≡ false → address program s layout (dummy_at (activation_of s a).dummies k).start ≡ Some base
      → slice_get contents (f.first + first_of_part unit (argument x) + 0) ≡ Some (number (pos base))
  tells-first x k base e other at = tells (argument x) 0 2 (number (pos base)) (rw (e, other) refl) (argument-first unit x k e).sized (omega arith) (rw (e, other, at) refl)

  pub tells-rest : (x : Name) (k : ℕ) → index_among x (dummies_of unit) ≡ Some k → is_owned a (dummy_at (activation_of s a).dummies k).start ≡ false
      → slice_get contents (f.first + first_of_part unit (argument x) + 1) ≡ Some (number (pos (dummy_at (activation_of s a).dummies k).rest))
  tells-rest x k e other = tells (argument x) 1 2 (number (pos (dummy_at (activation_of s a).dummies k).rest)) refl (argument-first unit x k e).sized (omega arith) (rw (e, other) refl)

  -- or for an expression: there is no value in the second cell
  pub tells-value : (x : Name) (k : ℕ) → index_among x (dummies_of unit) ≡ Some k → is_owned a (dummy_at (activation_of s a).dummies k).start ≡ true → slice_get contents (f.first + first_of_part unit (argument x) + 1) ≡ Some unset_cell
  tells-value x k e own = tells (argument x) 1 2 unset_cell refl (argument-first unit x k e).sized (omega arith) (rw (e, own) refl)

  -- the bounds of an adjustable array
  pub tells-bounds : (x : Name) (k i : ℕ) (slot : Slot) → index_among x (dummies_of unit) ≡ Some k → i < 2 * adjustable_dimensions unit x → slot_of_bounds (dummy_at (activation_of s a).dummies k).shape i ≡ Some slot
      → slice_get contents (f.first + first_of_part unit (bounds x) + i) ≡ Some slot
  tells-bounds x k i slot e less shaped = tells (bounds x) i (2 * adjustable_dimensions unit x) slot refl (bounds-first unit x k e).sized less (rw e shaped)

  -- a DO
  pub tells-loop : (d i : ℕ) (statement : Statement) (level : Level) (slot : Slot) → slice_get unit d ≡ Some statement → is_do statement.form ≡ true → level_of s a ≡ Some level → i < 2 → slot_of_loop (loop_among d level.loops) i ≡ Some slot
      → slice_get contents (f.first + first_of_part unit (iteration d) + i) ≡ Some slot
  tells-loop d i statement level slot e is found less wants = tells (iteration d) i 2 slot refl (iteration-first unit d statement e is).sized less (rw found wants)
