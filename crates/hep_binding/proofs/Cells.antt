-- Which cells of a frame those are of which values are wanted, and that they are written one after the other.
use Rattle.std.proofs.Common.{◌≡◌, ℕ, zero, suc, ◌+◌, ◌*◌, ◌<◌, ◌≤◌, List, [], ◌∷◌, length, take, Some, sym, ap, ◌∙◌, subst, arith, Bool, true, false, Option, None, refl, slice_get, if◌then◌else◌, nat_eq, nat_lt, take_all, eqb-true, eq-eqb, ltb-true, lt-ltb, ltb-false}
use Rattle.std.proofs.lemmas.Option.{none-some, same_Some}
use Rattle.hep_machine.specs.Words.{Name, Statement, index_among, dummies_of, adjustable_dimensions, adjustable_dimensions_of_all, frame_cells, unset_cell, Frame, Location, Store, with_cell, same_name}
use Rattle.hep_layout.specs.Words.{argument, bounds, frame_row, place_of_part, same_part, FramePart, address, cell_in, frame_address, DescriptorSlots, is_descriptor, descriptor_slots, Nodes}
use Rattle.hep_layout.proofs.FrameRows.{argument-first, bounds-first, equal_parts}
use Rattle.hep_layout.proofs.Rows.{place-at, placed, owned-by}
use Rattle.hep_binding.specs.AdjustableBounds.{cells_to_bounds, cells_to_bounds_of, cells_to_locals}
use Rattle.hep_machine.specs.declared.slot.Slot.{Slot}
use Rattle.hep_arena.specs.Gaps.{frame_among}
use Rattle.hep_arena.specs.Space.{Space}
use Rattle.hep_proc.specs.FrameTable.{FramesOf, Keeps}
use Rattle.hep_proc.proofs.UnchangedFrames.{keeps-described, keeps-same, keeps-stored}
use Rattle.hep_binding.specs.FrameWriting.{IsSet, is_before, stored_in, unit_framed, wanted_up_to, written_up_to}
use Rattle.hep_source.proofs.Tests.{index-below}

-- ---- places

module _ (unit : List Statement) (x : Name) (k : ℕ) (index : index_among x (dummies_of unit) ≡ Some k) where
  -- a dummy argument's cells are in front of local variables
  pub argument-place : (i n : ℕ) → place_of_part unit (argument x) i ≡ Some n → n < cells_to_locals unit
  argument-place i n e =
      let there = placed (same_part (argument x)) i (frame_row unit) n e in
      let entry = argument-first unit x k index in
      omega (arith, there.below, there.at, entry.begins, entry.sized, index-below (same_name x) (dummies_of unit) k index)

  -- bounds stand behind
  pub bounds-place : (i n : ℕ) → place_of_part unit (bounds x) i ≡ Some n → cells_to_bounds unit ≤ n
  bounds-place i n e =
      let there = placed (same_part (bounds x)) i (frame_row unit) n e in
      let entry = bounds-first unit x k index in
      omega (arith, there.at, entry.begins)

  pub place-bounds : (i : ℕ) → i < 2 * adjustable_dimensions unit x → place_of_part unit (bounds x) i ≡ Some (cells_to_bounds_of unit k + i)
  place-bounds i less =
      let entry = bounds-first unit x k index in
      place-at (same_part (bounds x)) i (frame_row unit) (subst (λ n. i < n) (sym entry.sized) less) ∙ ap (λ n. Some n) (omega (arith, entry.begins))

pub cells-ordered : (unit : List Statement) → cells_to_locals unit ≤ cells_to_bounds unit
cells-ordered unit = omega arith

-- up to the first bounds, from those of one dummy argument to those of the next, and to the end
pub to-first : (unit : List Statement) → cells_to_bounds_of unit 0 ≡ cells_to_bounds unit
to-first unit = none (dummies_of unit) where
  none : (xs : List Name) → cells_to_bounds unit + 2 * adjustable_dimensions_of_all unit (take 0 xs) ≡ cells_to_bounds unit
  none [] = omega arith
  none (x ∷ xs) = omega arith

dimensions-next : (unit : List Statement) (xs : List Name) (k : ℕ) (x : Name) → slice_get xs k ≡ Some x → adjustable_dimensions_of_all unit (take (suc k) xs) ≡ adjustable_dimensions_of_all unit (take k xs) + adjustable_dimensions unit x
dimensions-next unit [] k x e = absurd (none-some x e)
dimensions-next unit (y ∷ ys) zero x e = first ys (ap (λ z. adjustable_dimensions unit z) (same_Some y x e)) where
  first : (zs : List Name) → adjustable_dimensions unit y ≡ adjustable_dimensions unit x → adjustable_dimensions unit y + adjustable_dimensions_of_all unit (take 0 zs) ≡ 0 + adjustable_dimensions unit x
  first [] same = omega (arith, same)
  first (z ∷ zs) same = omega (arith, same)
dimensions-next unit (y ∷ ys) (suc k) x e = omega (arith, dimensions-next unit ys k x e)

pub to-next : (unit : List Statement) (k : ℕ) (x : Name) → slice_get (dummies_of unit) k ≡ Some x → cells_to_bounds_of unit (suc k) ≡ cells_to_bounds_of unit k + 2 * adjustable_dimensions unit x
to-next unit k x e = omega (arith, dimensions-next unit (dummies_of unit) k x e)

pub to-end : (unit : List Statement) → cells_to_bounds_of unit (length (dummies_of unit)) ≡ frame_cells unit
to-end unit =
    let all : adjustable_dimensions_of_all unit (take (length (dummies_of unit)) (dummies_of unit)) ≡ adjustable_dimensions_of_all unit (dummies_of unit) = ap (adjustable_dimensions_of_all unit) (take_all (length (dummies_of unit)) (dummies_of unit) (omega arith)) in
    omega (arith, all)

-- where no dummy argument is an adjustable array
pub to-plain : (unit : List Statement) → adjustable_dimensions_of_all unit (dummies_of unit) ≡ 0 → cells_to_bounds_of unit 0 ≡ frame_cells unit
to-plain unit none = omega (arith, to-first unit, none)

-- ---- the cells are written

-- two cells at one place of a frame are one
pub one-cell : (unit : List Statement) (c d : FramePart × ℕ) (n : ℕ) → place_of_part unit c.0 c.1 ≡ Some n → place_of_part unit d.0 d.1 ≡ Some n → c ≡ d
one-cell unit c d n e f =
    same_Some c d (sym (owned-by (same_part c.0) c.0 c.1 (frame_row unit) n (equal_parts c.0) e).0 ∙ (owned-by (same_part d.0) d.0 d.1 (frame_row unit) n (equal_parts d.0) f).0)

module _ (f : FramesOf) (a : ℕ) (nodes : Nodes) where
  abbrev unit : List Statement
  unit = unit_framed f a

  -- what is wanted of a cell of the frame
  abbrev of_frame : Bool → FramePart × ℕ → Option Slot
  of_frame b c = if b then descriptor_slots f.program f.state f.layout a c else Some unset_cell

  abbrev up_to : ℕ → DescriptorSlots
  up_to m = wanted_up_to f.program f.state f.layout a m f.wanted

  -- more cells, of which no value is wanted of those of the frame
  fewer : (m more : ℕ) → m ≤ more → (b : ℕ) (d : FramePart × ℕ) (v : Slot)
      → (b ≡ a → (n : ℕ) → place_of_part unit d.0 d.1 ≡ Some n → m ≤ n → n < more → descriptor_slots f.program f.state f.layout a d ≡ Some v → v ≡ unset_cell)
      → up_to more b d ≡ Some v → up_to m b d ≡ Some v
  fewer m more le b d v unset = by_number (nat_eq b a) refl where
    by_test : b ≡ a → (n : ℕ) → place_of_part unit d.0 d.1 ≡ Some n → (p q : Bool) → nat_lt n m ≡ p → nat_lt n more ≡ q → of_frame q d ≡ Some v → of_frame p d ≡ Some v
    by_test own n there true true x y w = w
    by_test own n there false false x y w = w
    by_test own n there true false x y w = absurd (omega (arith, ltb-true n m x, ltb-false n more y, le))
    by_test own n there false true x y w = ap (λ z. Some z) (sym (unset own n there (ltb-false n m x) (ltb-true n more y) w))

    by_place : b ≡ a → (o : Option ℕ) → place_of_part unit d.0 d.1 ≡ o → of_frame (is_before more o) d ≡ Some v → of_frame (is_before m o) d ≡ Some v
    by_place own None there w = w
    by_place own (Some n) there w = by_test own n there (nat_lt n m) (nat_lt n more) refl refl w

    by_number : (x : Bool) → nat_eq b a ≡ x → (if x then of_frame (is_before more (place_of_part unit d.0 d.1)) d else f.wanted b d) ≡ Some v → (if x then of_frame (is_before m (place_of_part unit d.0 d.1)) d else f.wanted b d) ≡ Some v
    by_number false e w = w
    by_number true e w = by_place (eqb-true b a e) (place_of_part unit d.0 d.1) refl w

  pub keeps-skipped : (store : Store) (arena : Space) (m more : ℕ) → m ≤ more → ((d : FramePart × ℕ) (n : ℕ) (v : Slot) → place_of_part unit d.0 d.1 ≡ Some n → m ≤ n → n < more → descriptor_slots f.program f.state f.layout a d ≡ Some v → v ≡ unset_cell)
      → Keeps (stored_in (written_up_to f a m) store) arena nodes → Keeps (stored_in (written_up_to f a more) store) arena nodes
  keeps-skipped store arena m more le unset h =
      keeps-same (stored_in (written_up_to f a m) store) (record f.state { store = store }) f.on (up_to more) arena nodes h refl refl (λ b. refl) (λ b d v. fewer m more le b d v (λ own n. unset d n v))

  -- the next cell, which keeps no storage unit
  pub keeps-written : (store : Store) (before after : Space) (m : ℕ) (frame : Frame) (c : FramePart × ℕ) (slot : Slot)
      → frame_among a f.layout ≡ Some frame → place_of_part unit c.0 c.1 ≡ Some m → is_descriptor f.program f.state a c ≡ true → descriptor_slots f.program f.state f.layout a c ≡ Some slot → IsSet (frame.first + m) slot before after
      → Keeps (stored_in (written_up_to f a m) store) before nodes → Keeps (stored_in (written_up_to f a (suc m)) store) after nodes
  keeps-written store before after m frame c slot framed there is wants set h =
      keeps-described (stored_in (written_up_to f a m) store) before after nodes (frame.first + m) slot h set.contents_are set.holes_are (up_to (suc m)) a c is here now others where
        here : frame_address f.program (record f.state { store = store }) f.layout a c ≡ Some (frame.first + m)
        here = λ k. cell_in (framed k) (there k)

        now : up_to (suc m) a c ≡ Some slot
        now =
            ap (λ b. if b then of_frame (is_before (suc m) (place_of_part unit c.0 c.1)) c else f.wanted a c) (eq-eqb a a refl)
            ∙ (ap (λ o. of_frame (is_before (suc m) o) c) there ∙ (ap (λ b. of_frame b c) (lt-ltb m (suc m) (omega arith)) ∙ wants))

        others : (b : ℕ) (d : FramePart × ℕ) (v : Slot) → ((a ≡ b) × (c ≡ d) → ⊥) → up_to (suc m) b d ≡ Some v → up_to m b d ≡ Some v
        others b d v apart =
            fewer m (suc m) (omega arith) b d v (λ own n at low high w.
            let same : n ≡ m = omega (arith, low, high) in
            absurd (apart (sym own, one-cell unit c d m there (at ∙ ap (λ z. Some z) same))))

  -- a cell that keeps a storage unit
  pub keeps-given : (store : Store) (before after : Space) (m p : ℕ) (at : Location) (slot : Slot)
      → address f.program f.state f.layout at ≡ Some p → IsSet p slot before after
      → Keeps (stored_in (written_up_to f a m) store) before nodes → Keeps (stored_in (written_up_to f a m) (with_cell store at slot)) after nodes
  keeps-given store before after m p at slot here set h =
      keeps-stored (stored_in (written_up_to f a m) store) before after nodes p slot h set.contents_are set.holes_are (record f.state { store = with_cell store at slot }) at here refl refl
