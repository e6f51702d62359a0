-- Descriptors: writes to their cells and to storage units, and frames that enter and leave.
use Rattle.hep_layout.proofs.FrameRows.{equal_parts}
use Rattle.std.proofs.lemmas.Bool.Decides.{nat_tests}
use Rattle.std.proofs.Common.{◌≡◌, ◌⊎◌, inl, inr, ℕ, zero, suc, ◌+◌, ◌<◌, ◌≤◌, Bool, true, false, List, [], ◌∷◌, ◌++◌, length, Option, Some, None, refl, sym, ap, ◌∙◌, subst, arith, if◌then◌else◌, not, ◌&&◌, nat_eq, pos, slice_get, slice_set, length-set}
use Rattle.std.proofs.lemmas.Bool.{and_parts, eqb-true, eqb-false, eq-eqb, cases_Bool, false_from_ne_true, both_ways}
use Rattle.std.proofs.lemmas.Option.{same_Some, none-some, cond_some}
use Rattle.hep_machine.specs.Words.{Name, index_among, Units, unit_at, dummies_of, unset_cell, Frame, Layout, lowest_gap, with_frame, frame_of, common_cells, dummy_at, activation_of, unit_of, with_loop, natural, Activation, Dummy, Level, Location, Loop, State, is_owned}
use Rattle.hep_machine.specs.declared.slot.Slot.{Slot}
use Rattle.hep_arena.specs.Gaps.{frame_among, gaps, without}
use Rattle.hep_arena.specs.Holes.{Hole, IsOut}
use Rattle.hep_arena.proofs.Lists.{get-set_same, get-set_other}
use Rattle.hep_layout.specs.Words.{address, frame_address, frame_from, kept_in, IsLaid, IsMemory, Describes, DescriptorSlots, is_descriptor, keeps_unit, level_of, loop_among, number, slot_by_dummy, slot_of_bounds, slot_of_dummy, slot_of_loop, slot_on_level, descriptor_slots, FramePart, header, argument, variable, iteration, bounds, same_part}
use Rattle.hep_layout.proofs.Addresses.{IsLocal, IsCommon, IsFramed, frame_address-alike, framed, in-common, located, one-frame_cell}
use Rattle.hep_layout.proofs.Frames.{among-out}
use Rattle.hep_layout.proofs.Memory.{activation-kept, address-same, laid-entered, laid-left, one-of, others, same-activation, stays}

-- ---- no descriptor is kept where a storage unit is

-- a storage unit of an activation is kept in a cell for storage units
unit-kept : (a : ℕ) (dummies : List Dummy) (names : List Name) (x : Name) (i : ℕ) (c : FramePart × ℕ) → kept_in a dummies x i (index_among x names) ≡ Some c → keeps_unit a dummies names c ≡ true
unit-kept a dummies names x i c e = by_index (index_among x names) refl i e where
  by_index : (o : Option ℕ) → index_among x names ≡ o → (i : ℕ) → kept_in a dummies x i o ≡ Some c → keeps_unit a dummies names c ≡ true
  by_index None k i e = rw (sym (same_Some (variable x, i) c e)) refl
  by_index (Some k) at (suc i) e = absurd (none-some c e)
  by_index (Some k) at zero e = let kept = cond_some (is_owned a (dummy_at dummies k).start) (argument x, 0) c e in rw (sym kept.1, at) kept.0

pub descriptor-apart : (program : Units) (s : State) (cells : ℕ) (layout : Layout) (at : Location) (b p : ℕ) (d : FramePart × ℕ)
    → IsLaid program s cells layout → address program s layout at ≡ Some p → frame_address program s layout b d ≡ Some p → is_descriptor program s b d ≡ true → ⊥
descriptor-apart program s cells layout at b p d laid e k is = by_kind (located program s layout at p e) where
  by_kind : IsLocal program s layout at p ⊎ IsCommon program at p → ⊥
  by_kind (inl f) =
      let same = one-frame_cell program s cells layout f.activation b p f.cell d laid f.cell_at k in
      let keeps = unit-kept f.activation (activation_of s f.activation).dummies (dummies_of (unit_at program (unit_of s f.activation))) f.name f.index f.cell f.kept in
      let plain : is_descriptor program s f.activation f.cell ≡ false = ap not keeps in
      let here : is_descriptor program s f.activation f.cell ≡ true = (λ i. is_descriptor program s (same.0 i) (same.1 i)) ∙ is in
      both_ways (is_descriptor program s f.activation f.cell) plain here
  by_kind (inr f) =
      let frame = framed program s cells layout b d p laid k in
      omega (arith, frame.low, frame.behind, (in-common program at p f).1)

-- ---- writes

-- of a storage unit
pub described-written : (program : Units) (s : State) (layout : Layout) (wanted : DescriptorSlots) (contents : List Slot) (at : Location) (p : ℕ) (slot : Slot)
    → IsLaid program s (length contents) layout → Describes program s layout wanted contents → address program s layout at ≡ Some p → Describes program s layout wanted (slice_set contents p slot)
described-written program s layout wanted contents at p slot laid h e b d q v is k w =
    get-set_other contents p q slot (λ same. descriptor-apart program s (length contents) layout at b q d laid (e ∙ ap (λ n. Some n) (sym same)) k is) ∙ h b d q v is k w

-- of a descriptor's cell: storage units stay
pub memory-described : (program : Units) (s : State) (layout : Layout) (contents : List Slot) (holes : List Hole) (b p : ℕ) (d : FramePart × ℕ) (slot : Slot)
    → IsMemory program s layout contents holes → is_descriptor program s b d ≡ true → frame_address program s layout b d ≡ Some p → IsMemory program s layout (slice_set contents p slot) holes
memory-described program s layout contents holes b p d slot h is k =
    let long : length (slice_set contents p slot) ≡ length contents = length-set contents p slot in
    record {
      laid = subst (λ n. IsLaid program s n layout) (sym long) h.laid;
      holds = λ at q e.
          get-set_other contents p q slot (λ same. descriptor-apart program s (length contents) layout at b p d h.laid (e ∙ ap (λ n. Some n) same) k is) ∙ h.holds at q e;
      holes_are = h.holes_are ∙ ap (λ n. gaps n (common_cells program) layout) (sym long);
    }

-- and so do the other descriptors
pub described-set : (program : Units) (s : State) (layout : Layout) (old new : DescriptorSlots) (contents : List Slot) (a p : ℕ) (c : FramePart × ℕ) (slot : Slot)
    → IsLaid program s (length contents) layout → Describes program s layout old contents → frame_address program s layout a c ≡ Some p → new a c ≡ Some slot
    → ((b : ℕ) (d : FramePart × ℕ) (v : Slot) → ((a ≡ b) × (c ≡ d) → ⊥) → new b d ≡ Some v → old b d ≡ Some v) → Describes program s layout new (slice_set contents p slot)
described-set program s layout old new contents a p c slot laid h at here others b d q v is k w = by_place (nat_eq q p) refl where
  by_place : (t : Bool) → nat_eq q p ≡ t → slice_get (slice_set contents p slot) q ≡ Some v
  by_place true n =
      let place : q ≡ p = eqb-true q p n in
      let same = one-frame_cell program s (length contents) layout a b p c d laid at (k ∙ ap (λ m. Some m) place) in
      let frame = framed program s (length contents) layout a c p laid at in
      let wanted : new a c ≡ new b d = λ i. new (same.0 i) (same.1 i) in
      ap (slice_get (slice_set contents p slot)) place ∙ (get-set_same contents p slot (omega (arith, frame.high, frame.inside)) ∙ (sym here ∙ (wanted ∙ w)))
  by_place false n =
      let other : (a ≡ b) × (c ≡ d) → ⊥ = λ same. eqb-false q p n (same_Some q p (sym k ∙ ((λ i. frame_address program s layout (sym same.0 i) (sym same.1 i)) ∙ at))) in
      get-set_other contents p q slot (eqb-false q p n) ∙ h b d q v is k (others b d v other w)

-- ---- other states

-- the same activations, and no more is wanted
pub described-same : (program : Units) (s t : State) (layout : Layout) (old new : DescriptorSlots) (contents : List Slot)
    → Describes program s layout old contents → t.activations ≡ s.activations → ((a : ℕ) (c : FramePart × ℕ) (v : Slot) → new a c ≡ Some v → old a c ≡ Some v) → Describes program t layout new contents
described-same program s t layout old new contents h e fewer a c p v is k w =
    let same : activation_of t a ≡ activation_of s a = ap (λ (xs : List Activation). activation_of (record s { activations = xs }) a) e in
    h a c p v (sym (descriptor-alike same) ∙ is) (sym (frame_address-alike program s t layout layout a c same refl) ∙ k) (fewer a c v w)
  where
    descriptor-alike : activation_of t a ≡ activation_of s a → is_descriptor program t a c ≡ is_descriptor program s a c
    descriptor-alike same = ap (λ (z : Activation). not (keeps_unit a z.dummies (dummies_of (unit_at program z.unit)) c)) same

-- ---- other layouts

-- a new frame, whose cells are cleared
pub described-entered : (program : Units) (s t : State) (x : Activation) (layout : Layout) (first : ℕ) (wanted : DescriptorSlots) (old new : List Slot)
    → IsLaid program s (length old) layout → Describes program s layout wanted old → t.activations ≡ s.activations ++ x ∷ []
    → lowest_gap (length old) (frame_of program t (length t.activations)) (common_cells program) layout ≡ Some first
    → ((c : FramePart × ℕ) (v : Slot) → wanted (length t.activations) c ≡ Some v → v ≡ unset_cell)
    → ((p : ℕ) → IsOut p (gaps (length old) (common_cells program) layout) → slice_get new p ≡ slice_get old p)
    → ((p : ℕ) → first ≤ p → p < first + frame_of program t (length t.activations) → slice_get new p ≡ Some unset_cell)
    → Describes program t (with_frame layout (frame_from program t (length t.activations) first)) wanted new
described-entered program s t x layout first wanted old new laid h more gap unset kept cleared a c p v is k w = by_frame (one-of program s t x layout first more a frame.frame laid frame.framed) where
  now : IsLaid program t (length old) (with_frame layout (frame_from program t (length t.activations) first))
  now = laid-entered program s t x layout first more (length old) laid gap

  frame : IsFramed program t (length old) (with_frame layout (frame_from program t (length t.activations) first)) a c p
  frame = framed program t (length old) (with_frame layout (frame_from program t (length t.activations) first)) a c p now k

  by_frame : ((length t.activations ≡ a) × (frame_from program t (length t.activations) first ≡ frame.frame)) ⊎ (frame_among a layout ≡ Some frame.frame) → slice_get new p ≡ Some v
  by_frame (inl c') =
      let firsts : first ≡ frame.frame.first = ap (λ (z : Frame). z.first) c'.1 in
      let sizes : frame_of program t (length t.activations) ≡ frame.frame.cells = ap (λ (z : Frame). z.cells) c'.1 in
      let cleared_here = cleared p (omega (arith, firsts, frame.low)) (omega (arith, firsts, sizes, frame.high)) in
      cleared_here ∙ ap (λ z. Some z) (sym (unset c v (ap (λ b. wanted b c) c'.0 ∙ w)))
  by_frame (inr there) =
      let same : activation_of t a ≡ activation_of s a = activation-kept s t x a more (laid.made a frame.frame there).1 in
      let frames = (others program s t x layout first more a frame.frame laid there).1 ∙ sym there in
      let before = sym (frame_address-alike program s t layout (with_frame layout (frame_from program t (length t.activations) first)) a c same frames) ∙ k in
      let is_before : is_descriptor program s a c ≡ true = ap (λ (z : Activation). not (keeps_unit a z.dummies (dummies_of (unit_at program z.unit)) c)) (sym same) ∙ is in
      let was = framed program s (length old) layout a c p laid before in
      kept p (among-out (length old) (common_cells program) a p layout was.frame laid.apart was.framed was.low was.high) ∙ h a c p v is_before before w

-- a frame that leaves
pub described-left : (program : Units) (s : State) (a : ℕ) (layout : Layout) (wanted : DescriptorSlots) (old new : List Slot)
    → IsLaid program s (length old) layout → Describes program s layout wanted old
    → ((p : ℕ) → IsOut p (gaps (length old) (common_cells program) (without a layout)) → slice_get new p ≡ slice_get old p) → Describes program s (without a layout) wanted new
described-left program s a layout wanted old new laid h kept b d p v is k w =
    let frame = framed program s (length old) (without a layout) b d p (laid-left program s a layout (length old) laid) k in
    let there = stays program s a layout b frame.frame laid frame.framed in
    let before = sym (frame_address-alike program s s layout (without a layout) b d refl (frame.framed ∙ sym there)) ∙ k in
    kept p (among-out (length old) (common_cells program) b p (without a layout) frame.frame (laid-left program s a layout (length old) laid).apart frame.framed frame.low frame.high) ∙ h b d p v is before w

-- ---- the two cells of a DO

with_loop-among : (loops : List Loop) (l : Loop) (e : ℕ) → loop_among e (with_loop loops l) ≡ (if nat_eq l.statement e then Some l else loop_among e loops)
with_loop-among [] l e = refl
with_loop-among (k ∷ ks) l e = grind (arith, nat_tests, with_loop-among ks l e)

-- what is wanted of DOs, where one of them is set on an activation's level
pub wanted-loop : (levels new : ℕ → Option Level) (a : ℕ) (level after : Level) (l : Loop)
    → levels a ≡ Some level → new a ≡ Some after → after.loops ≡ with_loop level.loops l → ((b : ℕ) → nat_eq a b ≡ false → new b ≡ levels b)
    → (b e i : ℕ) → slot_on_level (new b) e i ≡ (if nat_eq a b && nat_eq l.statement e then slot_of_loop (Some l) i else slot_on_level (levels b) e i)
wanted-loop levels new a level after l was now loops others b e i = elim (cases_Bool (nat_eq a b)) [
  | inr apart ↦ rw (others b apart, apart) refl
  | inl same ↦ rw (sym (eqb-true a b same), now, was, loops, with_loop-among level.loops l e, eq-eqb a a refl) (grind (arith, nat_tests))
]

-- ---- what a state wants

-- by an activation, where its dummy arguments stand for something, and what is wanted of this cell if it is a DO's
pub wanted-alike : (program : Units) (s t : State) (layout another : Layout) (a : ℕ) (c : FramePart × ℕ) → activation_of t a ≡ activation_of s a
    → ((d i : ℕ) → c ≡ (iteration d, i) → slot_on_level (level_of t a) d i ≡ slot_on_level (level_of s a) d i)
    → ((k : ℕ) → address program t another (dummy_at (activation_of s a).dummies k).start ≡ address program s layout (dummy_at (activation_of s a).dummies k).start) → descriptor_slots program t another a c ≡ descriptor_slots program s layout a c
wanted-alike program s t layout another a (header, i) e loops starts = refl
wanted-alike program s t layout another a (variable x, i) e loops starts = refl
wanted-alike program s t layout another a (iteration d, i) e loops starts = loops d i refl
wanted-alike program s t layout another a (bounds x, i) e loops starts =
    ap (λ (z : Activation). slot_by_dummy (λ d. slot_of_bounds d.shape i) z.dummies (index_among x (dummies_of (unit_at program z.unit)))) e
wanted-alike program s t layout another a (argument x, i) e loops starts =
    ap (λ (z : Activation). slot_by_dummy (λ d. slot_of_dummy program t another a d i) z.dummies (index_among x (dummies_of (unit_at program z.unit)))) e ∙ by_index (index_among x (dummies_of (unit_at program (unit_of s a)))) where
      by_index : (o : Option ℕ) → slot_by_dummy (λ d. slot_of_dummy program t another a d i) (activation_of s a).dummies o ≡ slot_by_dummy (λ d. slot_of_dummy program s layout a d i) (activation_of s a).dummies o
      by_index None = refl
      by_index (Some k) = rw (starts k) refl

pub wanted-same : (program : Units) (s t : State) (layout : Layout) (a : ℕ) (c : FramePart × ℕ) → t.activations ≡ s.activations
    → ((d i : ℕ) → c ≡ (iteration d, i) → slot_on_level (level_of t a) d i ≡ slot_on_level (level_of s a) d i) → descriptor_slots program t layout a c ≡ descriptor_slots program s layout a c
wanted-same program s t layout a c e loops = wanted-alike program s t layout layout a c (same-activation s t a e) loops (λ k. address-same program s t layout (dummy_at (activation_of s a).dummies k).start e)

-- a DO of an activation is set: its count and its increment are written
pub described-loop : (program : Units) (s t : State) (layout : Layout) (contents : List Slot) (a : ℕ) (level after : Level) (l : Loop) (p q : ℕ)
    → IsLaid program s (length contents) layout → Describes program s layout (descriptor_slots program s layout) contents → t.activations ≡ s.activations
    → level_of s a ≡ Some level → level_of t a ≡ Some after → after.loops ≡ with_loop level.loops l → ((b : ℕ) → nat_eq a b ≡ false → level_of t b ≡ level_of s b)
    → frame_address program s layout a (iteration l.statement, 0) ≡ Some p → frame_address program s layout a (iteration l.statement, 1) ≡ Some q
    → Describes program t layout (descriptor_slots program t layout) (slice_set (slice_set contents p (number (pos (natural l.count)))) q (number l.increment))
described-loop program s t layout contents a level after l p q laid h e was now loops others at_p at_q =
    described-same program s t layout new new (slice_set (slice_set contents p (number (pos (natural l.count)))) q (number l.increment)) (
    described-set program s layout first new (slice_set contents p (number (pos (natural l.count)))) a q (iteration l.statement, 1) (number l.increment) (rw length-set laid) (
    described-set program s layout (descriptor_slots program s layout) first contents a p (iteration l.statement, 0) (number (pos (natural l.count))) laid h at_p (rw (eq-eqb a a refl, eq-eqb l.statement l.statement refl) (here 0)) counted) at_q (here 1) increased) e (λ b d v w. w)
  where
    new : DescriptorSlots
    new = descriptor_slots program t layout

    -- what is wanted of the two cells
    here : (i : ℕ) → new a (iteration l.statement, i) ≡ slot_of_loop (Some l) i
    here i = wanted-loop (level_of s) (level_of t) a level after l was now loops others a l.statement i ∙ rw (eq-eqb a a refl, eq-eqb l.statement l.statement refl) refl

    is_second : ℕ → FramePart × ℕ → Bool
    is_second b d = nat_eq a b && (same_part (iteration l.statement) d.0 && nat_eq 1 d.1)

    -- between the two writes nothing is wanted of the second cell
    first : DescriptorSlots
    first b d = if is_second b d then None else new b d

    increased : (b : ℕ) (d : FramePart × ℕ) (v : Slot) → ((a ≡ b) × ((iteration l.statement, 1) ≡ d) → ⊥) → new b d ≡ Some v → first b d ≡ Some v
    increased b d v other w = rw (false_from_ne_true (is_second b d) (λ k.
        let parts = and_parts (nat_eq a b) (same_part (iteration l.statement) d.0 && nat_eq 1 d.1) k in
        let rest = and_parts (same_part (iteration l.statement) d.0) (nat_eq 1 d.1) parts.1 in
        let part = equal_parts (iteration l.statement) d.0 rest.0 in
        let index = eqb-true 1 d.1 rest.1 in
        other (eqb-true a b parts.0, λ j. (part j, index j)))) w

    -- of the cells of other DOs no more is wanted than before
    not_its : (b : ℕ) (d : FramePart × ℕ) (v : Slot) (i : ℕ) → ((a ≡ b) × ((iteration l.statement, 0) ≡ d) → ⊥) → is_second b d ≡ false → new b d ≡ Some v → a ≡ b → (iteration l.statement, i) ≡ d → ⊥
    not_its b d v zero other second wants owner same = other (owner, same)
    not_its b d v (suc zero) other second wants owner same =
        both_ways (is_second b d) second (sym (λ j. is_second (owner j) (same j)) ∙ rw (eq-eqb a a refl, eq-eqb l.statement l.statement refl) refl)
    not_its b d v (suc (suc i)) other second wants owner same = none-some v (sym (here (suc (suc i))) ∙ ((λ j. new (owner j) (same j)) ∙ wants))

    counted : (b : ℕ) (d : FramePart × ℕ) (v : Slot) → ((a ≡ b) × ((iteration l.statement, 0) ≡ d) → ⊥) → first b d ≡ Some v → descriptor_slots program s layout b d ≡ Some v
    counted b d v other w = elim (cases_Bool (is_second b d)) [
      | inl second ↦ absurd (none-some v (rw second at w))
      | inr second ↦
          let wants : new b d ≡ Some v = rw second at w in
          sym (wanted-same program s t layout b d e (λ f i is.
          let other_loop = false_from_ne_true (nat_eq a b && nat_eq l.statement f) (λ k.
          let parts = and_parts (nat_eq a b) (nat_eq l.statement f) k in
          not_its b d v i other second wants (eqb-true a b parts.0) ((λ j. (iteration (eqb-true l.statement f parts.1 j), i)) ∙ sym is)) in
          wanted-loop (level_of s) (level_of t) a level after l was now loops others b f i ∙ rw other_loop refl)) ∙ wants
    ]
