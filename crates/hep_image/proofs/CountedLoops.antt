-- The cells of DOs have their counts and increments.
use Rattle.std.proofs.Common.{◌≡◌, ◌<◌, ℕ, zero, suc, ◌+◌, Bool, true, false, List, [], ◌∷◌, Option, Some, None, refl, ap, ◌∙◌, arith, ℤ, pos, if◌then◌else◌, nat_eq, slice_get}
use Rattle.std.specs.Option.{unwrap_or}
use Rattle.hep_machine.specs.Words.{Statement, no_statement, Units, statement_at, unit_at, unset_cell, Frame, Layout, loop_at, unit_of, Level, Loop, State, is_do}
use Rattle.hep_machine.specs.declared.slot.Slot.{Slot}
use Rattle.hep_layout.specs.ArenaGaps.{frame_among}
use Rattle.hep_code.specs.Words.{counts_of}
use Rattle.hep_layout.specs.Words.{frame_address, Describes, level_of, loop_among, slot_of_loop, descriptor_slots, first_of_part, iteration}
use Rattle.hep_layout.proofs.FrameRows.{iteration-first}
use Rattle.hep_layout.proofs.Telling.{part-address, tells-loop}
use Rattle.hep_image.specs.Addressing.{cells_in, counts_at, integer_by, natural_in}
use Rattle.hep_image.specs.Places.{loop_cells}

-- what a loop's cells have, where it was begun or not
abbrev slot_at : Option Loop → ℕ → Slot
slot_at o i = unwrap_or (slot_of_loop o i) unset_cell

wants : (o : Option Loop) (i : ℕ) → i < 2 → slot_of_loop o i ≡ Some (slot_at o i)
wants None i less = refl
wants (Some l) zero less = refl
wants (Some l) (suc zero) less = refl
wants (Some l) (suc (suc i)) less = absurd (omega (arith, less))

read : (d : ℕ) (loops : List Loop) → ◌≡◌ {A = ℕ × ℤ} (natural_in (slot_at (loop_among d loops) 0), integer_by (pos 1) (slot_at (loop_among d loops) 1).value) (counts_of (loop_at loops d))
read d [] = refl
read d (l ∷ ls) = by_test (read d ls) (nat_eq l.statement d) where
  by_test : ◌≡◌ {A = ℕ × ℤ} (natural_in (slot_at (loop_among d ls) 0), integer_by (pos 1) (slot_at (loop_among d ls) 1).value) (counts_of (loop_at ls d))
      → (b : Bool) → ◌≡◌ {A = ℕ × ℤ} (natural_in (slot_at (if b then Some l else loop_among d ls) 0), integer_by (pos 1) (slot_at (if b then Some l else loop_among d ls) 1).value) (counts_of (if b then l else loop_at ls d))
  by_test rest true = refl
  by_test rest false = rest

-- a statement that is a DO is there
pub do-there : (unit : List Statement) (d : ℕ) → is_do (statement_at unit d).form ≡ true → slice_get unit d ≡ Some (statement_at unit d)
do-there unit d h = by_statement (slice_get unit d) h where
  by_statement : (o : Option Statement) → is_do (unwrap_or o no_statement).form ≡ true → o ≡ Some (unwrap_or o no_statement)
  by_statement None h = absurd cc
  by_statement (Some s) h = refl

module _ (program : Units) (s : State) (layout : Layout) (contents : List Slot) (a : ℕ) (f : Frame) (level : Level) (describes : Describes program s layout (descriptor_slots program s layout) contents) (framed : frame_among a layout ≡ Some f) (there : level_of s a ≡ Some level) where
  abbrev unit : List Statement
  unit = unit_at program (unit_of s a)

  has : (d i : ℕ) → is_do (statement_at unit d).form ≡ true → i < 2 → cells_in contents (f.first + first_of_part unit (iteration d) + i) ≡ slot_at (loop_among d level.loops) i
  has d i is less =
      ap (λ o. unwrap_or o unset_cell) (tells-loop program s layout contents a f describes framed d i (statement_at unit d) level (slot_at (loop_among d level.loops) i) (do-there unit d is) is there less (wants (loop_among d level.loops) i less))

  pub counted : (d : ℕ) → is_do (statement_at unit d).form ≡ true → counts_at (cells_in contents) f.first (loop_cells unit d) ≡ counts_of (loop_at level.loops d)
  counted d is = ap (counts_at (cells_in contents) f.first) cells ∙ ((λ k. (natural_in (first k), integer_by (pos 1) (second k).value)) ∙ read d level.loops) where
    cells : loop_cells unit d ≡ first_of_part unit (iteration d)
    cells = ap (λ b. if b then first_of_part unit (iteration d) else 0) is

    first : cells_in contents (f.first + first_of_part unit (iteration d)) ≡ slot_at (loop_among d level.loops) 0
    first = ap (cells_in contents) (omega arith) ∙ has d 0 is (omega arith)

    second : cells_in contents (f.first + suc (first_of_part unit (iteration d))) ≡ slot_at (loop_among d level.loops) 1
    second = ap (cells_in contents) (omega arith) ∙ has d 1 is (omega arith)

-- where they are in the frame
pub loop-at : (program : Units) (s : State) (layout : Layout) (a d i : ℕ) (f : Frame) → frame_among a layout ≡ Some f → is_do (statement_at (unit_at program (unit_of s a)) d).form ≡ true → i < 2
    → frame_address program s layout a (iteration d, i) ≡ Some (f.first + (loop_cells (unit_at program (unit_of s a)) d + i))
loop-at program s layout a d i f framed is less =
    part-address program s layout a f (iteration d) i 2 framed (iteration-first (unit_at program (unit_of s a)) d (statement_at (unit_at program (unit_of s a)) d) (do-there (unit_at program (unit_of s a)) d is) is).sized less ∙ ap (λ n. Some n) (omega (arith, cells)) where
      cells : loop_cells (unit_at program (unit_of s a)) d ≡ first_of_part (unit_at program (unit_of s a)) (iteration d)
      cells = ap (λ b. if b then first_of_part (unit_at program (unit_of s a)) (iteration d) else 0) is
