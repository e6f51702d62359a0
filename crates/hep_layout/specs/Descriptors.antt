-- Descriptors, the contents of the cells of a frame that hold no storage unit: docs/MACHINE.md, "Variables and frames".
use Rattle.std.specs.Prelude.{◌≡◌, ℕ, zero, suc, ℤ, pos, Bool, true, false, not, nat_eq, if◌then◌else◌, List, [], ◌∷◌, Option, Some, None, slice_get}
use Rattle.std.specs.List.{find, flat_map}
use Rattle.std.specs.Option.{option_map}
use Rattle.hep_machine.specs.Words.{Name, Int, index_among, Units, unit_at, dummies_of, unset_cell, Layout, dummy_at, activation_of, unit_of, Bounds, natural, Dummy, Level, Loop, Process, State, is_owned}
use Rattle.hep_machine.specs.declared.slot.Slot.{Slot}
use Rattle.hep_layout.specs.Addresses.{address, frame_address}
use Rattle.hep_layout.specs.Rows.{FramePart, header, argument, variable, iteration, bounds}

-- ---- the cells that hold storage units

-- whether a dummy argument, by its index, is associated with an expression, whose value is in the frame
abbrev pub is_value : ℕ → List Dummy → Option ℕ → Bool
is_value a dummies None = false
is_value a dummies (Some k) = is_owned a (dummy_at dummies k).start

abbrev pub keeps_unit : ℕ → List Dummy → List Name → FramePart × ℕ → Bool
keeps_unit a dummies names (variable x, i) = true
keeps_unit a dummies names (argument x, zero) = is_value a dummies (index_among x names)
keeps_unit a dummies names _ = false

abbrev pub is_descriptor : Units → State → ℕ → FramePart × ℕ → Bool
is_descriptor program s a c = not (keeps_unit a (activation_of s a).dummies (dummies_of (unit_at program (unit_of s a))) c)

-- ---- the contents of the other cells

-- the required contents of cells of frames, by activation and cell; none where any content will do
abbrev pub DescriptorSlots : Type 0
DescriptorSlots = ℕ → FramePart × ℕ → Option Slot

-- The descriptor cells of the arena have the required contents.
abbrev pub Describes : Units → State → Layout → DescriptorSlots → List Slot → Type 0
Describes program s layout wanted contents =
    (a : ℕ) (c : FramePart × ℕ) (p : ℕ) (slot : Slot) → is_descriptor program s a c ≡ true → frame_address program s layout a c ≡ Some p → wanted a c ≡ Some slot → slice_get contents p ≡ Some slot

abbrev pub number : ℤ → Slot
number z = record { value = Some (Int z); full = false }

-- the two cells of a dummy argument that is associated with storage units: the address of the first one, and how many there are (15.9.3);
-- for an expression the second cell has no value
abbrev pub slot_of_reference : Option ℕ → ℕ → ℕ → Option Slot
slot_of_reference base rest zero = option_map (λ n. number (pos n)) base
slot_of_reference base rest (suc zero) = Some (number (pos rest))
slot_of_reference base rest (suc (suc i)) = None

abbrev pub slot_of_value : ℕ → Option Slot
slot_of_value zero = None
slot_of_value (suc i) = Some unset_cell

abbrev pub slot_of_dummy : Units → State → Layout → ℕ → Dummy → ℕ → Option Slot
slot_of_dummy program s layout a d i = if is_owned a d.start then slot_of_value i else slot_of_reference (address program s layout d.start) d.rest i

-- the cell of an upper bound; it has no value where the bound is open (5.1.1)
abbrev pub slot_of_upper : Option ℤ → Slot
slot_of_upper None = unset_cell
slot_of_upper (Some u) = number u

abbrev pub slot_of_bounds : Bounds → ℕ → Option Slot
slot_of_bounds [] i = None
slot_of_bounds (b ∷ bs) zero = Some (number b.lower)
slot_of_bounds (b ∷ bs) (suc zero) = Some (slot_of_upper b.upper)
slot_of_bounds (b ∷ bs) (suc (suc i)) = slot_of_bounds bs i

-- the two cells of a DO: the number of iterations left, and the increment (11.10.3); they have no values where the DO isn't active
abbrev pub slot_of_loop : Option Loop → ℕ → Option Slot
slot_of_loop None i = Some unset_cell
slot_of_loop (Some l) zero = Some (number (pos (natural l.count)))
slot_of_loop (Some l) (suc zero) = Some (number l.increment)
slot_of_loop (Some l) (suc (suc i)) = None

abbrev pub loop_among : ℕ → List Loop → Option Loop
loop_among d loops = find (λ (l : Loop). nat_eq l.statement d) loops

-- the required cells of a DO; none are required of an activation that is on no stack
abbrev pub slot_on_level : Option Level → ℕ → ℕ → Option Slot
slot_on_level None d i = None
slot_on_level (Some level) d i = slot_of_loop (loop_among d level.loops) i

-- ---- the required contents by the state

abbrev pub level_of : State → ℕ → Option Level
level_of s a = find (λ (level : Level). nat_eq level.activation a) (flat_map (λ (q : Process). q) s.processes)

abbrev pub slot_by_dummy : (Dummy → Option Slot) → List Dummy → Option ℕ → Option Slot
slot_by_dummy f dummies None = None
slot_by_dummy f dummies (Some k) = f (dummy_at dummies k)

abbrev pub descriptor_slots : Units → State → Layout → DescriptorSlots
descriptor_slots program s layout a (header, i) = None
descriptor_slots program s layout a (variable x, i) = None
descriptor_slots program s layout a (argument x, i) =
    slot_by_dummy (λ d. slot_of_dummy program s layout a d i) (activation_of s a).dummies (index_among x (dummies_of (unit_at program (unit_of s a))))
descriptor_slots program s layout a (bounds x, i) = slot_by_dummy (λ d. slot_of_bounds d.shape i) (activation_of s a).dummies (index_among x (dummies_of (unit_at program (unit_of s a))))
descriptor_slots program s layout a (iteration d, i) = slot_on_level (level_of s a) d i
