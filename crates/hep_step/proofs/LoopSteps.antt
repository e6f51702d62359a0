-- DO: its count is set, or one iteration is over, and its variable is set. X3.9-1978, 11.10.3 to 11.10.7.
use Rattle.std.proofs.Common.{◌≡◌, ◌≢◌, ℕ, suc, ◌+◌, ◌-◌, ℤ, Bool, true, false, List, [], ◌∷◌, length, Option, Some, None, Result, Ok, Err, refl, ap, sym, ◌∙◌, subst, arith, pos, ◌+ℤ◌, ◌-ℤ◌, int_lt, nat_eq, if◌then◌else◌, slice_set, eq-eqb, ne_eqb, length-set}
use Rattle.hep_machine.specs.Words.{Name, Value, Int, statement_at, integer_of, integer_or_overflow, level_after_loop, level_in_range, entering_loop, ending_loop, Next, does, evaluating, leaving, wants, location_of_name, loop_at, with_loop, natural, Level, Location, Loop, State, iterations}
use Rattle.hep_machine.specs.Words.{level_after_count, result_after_do, result_after_fault, result_after_increment, result_after_loop_end, result_after_loop_variable, state_after_count, state_with_store, stepped, with_cell, with_value, is_do}
use Rattle.hep_machine.specs.declared.event.Kind.{Kind}
use Rattle.hep_machine.specs.declared.event.Kind.TheVariants.{Undefined}
use Rattle.hep_machine.specs.declared.slot.Slot.{Slot}
use Rattle.hep_machine.specs.Control.{variable_of as loop_variable}
use Rattle.hep_code.specs.declared.instruction.Instruction.{Instruction}
use Rattle.hep_code.specs.declared.instruction.Instruction.TheVariants.{Step}
use Rattle.hep_code.specs.declared.instruction.Operation.TheVariants.{EndLoop, EnterLoop}
use Rattle.hep_code.specs.declared.variable.Variable.{Variable}
use Rattle.hep_code.specs.declared.variable.Variable.TheVariants.{Absent}
use Rattle.hep_code.specs.Words.{IsCounted, table_of, first_operand, led_by_count, IsSame, second_operand, Counts, counts_of, AddressedUnit}
use Rattle.hep_code.proofs.ControlFlow.{ended_is_do, entered_is_do, ended_leads, entered_leads, loop_index, one_less}
use Rattle.hep_code.proofs.CodePositions.{Keeps, StandsAt, after_loop_keeps}
use Rattle.hep_layout.specs.Words.{IsLaid, IsMemory, address, frame_address, Describes, number, descriptor_slots, iteration}
use Rattle.hep_layout.proofs.Descriptors.{described-loop, described-written, memory-described}
use Rattle.hep_layout.proofs.Memory.{memory-written}
use Rattle.hep_image.specs.Addressing.{cells_in, counts_at}
use Rattle.hep_image.specs.Places.{loop_cells, variable_of}
use Rattle.hep_step.specs.Effects.{moves, effect_of_end, effect_of_enter, effect_of_raised, effect_of_variable, third_operand, with_counts, with_value_at}
use Rattle.hep_step.specs.Simulation.{IsRunning, RunningTop, Simulates, addressed_on_top, arrays_running, code_ahead, code_running, counts_in, effect_running, step_result_running, unit_running}
use Rattle.hep_step.proofs.RunningActivations.{Comes, action_made, cells_found, coming, fault_is, found_running, is_at, next_is, no_end, scope_running}

-- ---- counts, one of them another one

abbrev pub counts_with : Counts → ℕ → ℕ × ℤ → Counts
counts_with old d pair e = if nat_eq e d then pair else old e

counted_so : (addressed : AddressedUnit) (d : ℕ) (pair : ℕ × ℤ) (old : Counts) → IsCounted addressed d pair old (counts_with old d pair)
counted_so addressed d pair old =
    record {
      written = ap (λ b. if b then pair else old d) (eq-eqb d d refl);
      others = λ e is_loop ne. ap (λ b. if b then pair else old e) (ne_eqb e d ne);
    }

-- ---- the level in the range or after the DO has the DOs of the one before

count_keeps : (addressed : AddressedUnit) (level : Level) (d : ℕ) (count : ℤ) → Keeps addressed level (level_after_count addressed.unit level d count)
count_keeps addressed level d count = by (int_lt (pos 0) count) where
  by : (b : Bool) → Keeps addressed level (if b then level_in_range addressed.unit level d else level_after_loop addressed.unit level d)
  by true = (refl, refl)
  by false = after_loop_keeps addressed level d

module _ (r : RunningTop) (running : IsRunning r) where
  abbrev addressed : AddressedUnit
  addressed = addressed_on_top r.program r.top

  -- ---- the variable is written, and then the two cells

  module _ (l : Loop) (is_loop : is_do (statement_at (unit_running r) l.statement).form ≡ true) (at : Location) (p : ℕ) (z : ℤ) (here : address r.program r.top.state r.layout at ≡ Some p) where
    abbrev after : Level
    after = level_after_count (unit_running r) (record r.top.level { loops = with_loop r.top.level.loops l }) l.statement l.count

    abbrev new : State
    new = state_with_store r.top (with_value r.top.state.store at (Some (Int z))) after

    abbrev cell : Slot
    cell = record { value = Some (Int z); full = (cells_in r.arena.contents p).full }

    abbrev first_cell : ℕ
    first_cell = r.frame.first + loop_cells (unit_running r) l.statement

    keeps : Keeps addressed (record r.top.level { loops = with_loop r.top.level.loops l }) after
    keeps = count_keeps addressed (record r.top.level { loops = with_loop r.top.level.loops l }) l.statement l.count

    at_count : frame_address r.program r.top.state r.layout r.top.level.activation (iteration l.statement, 0) ≡ Some first_cell
    at_count =
        let e : r.frame.first + (loop_cells (unit_running r) l.statement + 0) ≡ first_cell = omega arith in
        running.looped l.statement 0 is_loop (omega arith) ∙ ap (λ n. Some n) e

    at_increment : frame_address r.program r.top.state r.layout r.top.level.activation (iteration l.statement, 1) ≡ Some (suc first_cell)
    at_increment =
        let e : r.frame.first + (loop_cells (unit_running r) l.statement + 1) ≡ suc first_cell = omega arith in
        running.looped l.statement 1 is_loop (omega arith) ∙ ap (λ n. Some n) e

    variable_written : IsMemory r.program new r.layout (with_value_at r.arena.contents p (Int z)) r.arena.holes
    variable_written =
        memory-written r.program r.top.state new r.layout r.arena.contents r.arena.holes at p cell running.memory here refl (
        ap (λ (c : Slot). with_cell r.top.state.store at (record { value = Some (Int z); full = c.full })) (sym (cells_found r running p at here)))

    count_written : IsMemory r.program new r.layout (slice_set (with_value_at r.arena.contents p (Int z)) first_cell (number (pos (natural l.count)))) r.arena.holes
    count_written =
        memory-described r.program new r.layout (with_value_at r.arena.contents p (Int z)) r.arena.holes r.top.level.activation first_cell (iteration l.statement, 0) (number (pos (natural l.count))) variable_written refl at_count

    memory_after : IsMemory r.program new r.layout (with_counts (with_value_at r.arena.contents p (Int z)) first_cell (natural l.count) l.increment) r.arena.holes
    memory_after =
        memory-described r.program new r.layout (slice_set (with_value_at r.arena.contents p (Int z)) first_cell (number (pos (natural l.count)))) r.arena.holes r.top.level.activation (suc first_cell) (iteration l.statement, 1) (number l.increment) count_written refl at_increment

    laid : IsLaid r.program r.top.state (length (with_value_at r.arena.contents p (Int z))) r.layout
    laid = subst (λ n. IsLaid r.program r.top.state n r.layout) (sym (length-set r.arena.contents p cell)) running.memory.laid

    described_after : Describes r.program new r.layout (descriptor_slots r.program new r.layout) (with_counts (with_value_at r.arena.contents p (Int z)) first_cell (natural l.count) l.increment)
    described_after =
        described-loop r.program r.top.state new r.layout (with_value_at r.arena.contents p (Int z)) r.top.level.activation r.top.level after l first_cell (suc first_cell) laid (
        described-written r.program r.top.state r.layout (descriptor_slots r.program r.top.state r.layout) r.arena.contents at p cell running.memory.laid running.described here) refl running.level (running.itself after keeps.1) keeps.0 (λ b e.
        running.others after b keeps.1 e) at_count at_increment

    pub loop_is_set : (n : ℕ) → step_result_running r ≡ stepped (state_after_count r.program r.top l.statement at z l.count l.increment) → StandsAt addressed after n
        → Simulates r (moves (with_counts (with_value_at r.arena.contents p (Int z)) first_cell (natural l.count) l.increment) [] n)
    loop_is_set n is stands =
        (with_value r.top.state.store at (Some (Int z)), after, is, record { activation = keeps.1; memory = memory_after; described = described_after; stands = stands })

  -- ---- a DO is entered

  module _ (line : ℕ) (behind : List Instruction) (x : Variable) (cells inside outside : ℕ) where
    module _ (ahead : code_ahead r ≡ Step line (EnterLoop x cells inside outside) ∷ behind) where
      module _ (y : Name) (m n i : Value) (is : coming r ≡ does (entering_loop y m n i)) where
        enter_by : (a : Result ℕ Kind) (q : Result Location Kind) (c : Result ℤ Kind) → IsSame (address r.program r.top.state r.layout) a q → step_result_running r ≡ result_after_do r.program r.top q (integer_of m) (integer_of i) c
            → Simulates r (effect_of_enter (code_running r) (arrays_running r) r.frame.first (EnterLoop x cells inside outside) line r.arena.contents r.index (loop_cells (unit_running r) r.top.level.statement) (integer_of m) (integer_of i) a c)
        enter_by a q (Err e) same made = fault_is r running line (EnterLoop x cells inside outside) behind ahead e made
        enter_by (Err j) (Err k) (Ok count) same made =
            fault_is r running line (EnterLoop x cells inside outside) behind ahead j (made ∙ ap (result_after_fault r.program r.top) (sym same))
        enter_by (Ok p) (Ok at) (Ok count) same made =
            let l : Loop = record { statement = r.top.level.statement; count = count; increment = integer_of i } in
            let old = counts_in (unit_running r) r.arena.contents r.frame.first in
            let is_loop = entered_is_do (unit_running r) r.top.level.statement r.top.level.work y m n i running.stands.fits is in
            let leads = entered_leads addressed r.top.level r.operands old (counts_with old l.statement (counts_of l)) r.index (is_at r running) line (EnterLoop x cells inside outside) behind ahead y m n i count (integer_of i) is (counted_so addressed l.statement (counts_of l) old) in
            loop_is_set l is_loop at p (integer_of m) same (led_by_count (EnterLoop x cells inside outside) (natural count) r.index) made leads.at.stands
        enter_by _ _ c same made = absurd same

      enter_next : (n : Next) → coming r ≡ n → Comes r n (EnterLoop x cells inside outside) behind → Simulates r (effect_running r line (EnterLoop x cells inside outside) behind)
      enter_next (does (entering_loop y m n i)) is h =
          let x_is : x ≡ variable_of r.program (unit_running r) y = cc h.operation in
          let cells_are : cells ≡ loop_cells (unit_running r) r.top.level.statement = cc h.operation in
          let values : r.operands ≡ m ∷ n ∷ i ∷ [] = h.operands_are in
          let placed : variable_of r.program (unit_running r) y ≢ Absent = λ e. running.placed r.index line (EnterLoop x cells inside outside) behind ahead (ap (λ v. Some v) (x_is ∙ e)) in
          let same = (running.addressed y [] placed).1 in
          let e : effect_running r line (EnterLoop x cells inside outside) behind ≡ effect_of_enter (code_running r) (arrays_running r) r.frame.first (EnterLoop x cells inside outside) line r.arena.contents r.index (loop_cells (unit_running r) r.top.level.statement) (integer_of m) (integer_of i) (found_running r (variable_of r.program (unit_running r) y) []) (iterations (integer_of m) (integer_of n) (integer_of i)) =
          λ j. effect_of_enter (code_running r) (arrays_running r) r.frame.first (EnterLoop x cells inside outside) line r.arena.contents r.index (cells_are j) (integer_of (first_operand (values j))) (integer_of (third_operand (values j))) (found_running r (x_is j) []) (iterations (integer_of (first_operand (values j))) (integer_of (second_operand (values j))) (integer_of (third_operand (values j)))) in
          subst (Simulates r) (sym e) (enter_by y m n i is (found_running r (variable_of r.program (unit_running r) y) []) (location_of_name (scope_running r) y []) (iterations (integer_of m) (integer_of n) (integer_of i)) same (action_made r running (entering_loop y m n i) is))
      enter_next (wants (evaluating q)) is h = absurd (cc h.operation)
      enter_next (does leaving) is h = no_end (EnterLoop x cells inside outside) (table_of addressed).result h.operation refl
      enter_next _ is h = absurd (cc h.operation)

      pub loop_is_entered : Simulates r (effect_running r line (EnterLoop x cells inside outside) behind)
      loop_is_entered = enter_next (coming r) refl (next_is r running line (EnterLoop x cells inside outside) behind ahead)

    -- ---- an iteration is over

    module _ (ahead : code_ahead r ≡ Step line (EndLoop x cells inside outside) ∷ behind) where
      module _ (d : ℕ) (is : coming r ≡ does (ending_loop d)) where
        abbrev before : Loop
        before = loop_at r.top.level.loops d

        is_loop_at : is_do (statement_at (unit_running r) d).form ≡ true
        is_loop_at = ended_is_do (unit_running r) r.top.level.statement r.top.level.work d running.stands.fits is

        raised_by : (at : Location) (p : ℕ) → address r.program r.top.state r.layout at ≡ Some p → (w : Result ℤ Kind) → step_result_running r ≡ result_after_increment r.program r.top before at w
            → Simulates r (effect_of_raised (code_running r) (arrays_running r) r.frame.first (EndLoop x cells inside outside) line r.arena.contents r.index (loop_cells (unit_running r) d) p (counts_of before) w)
        raised_by at p here (Err k) made = fault_is r running line (EndLoop x cells inside outside) behind ahead k made
        raised_by at p here (Ok z) made =
            let l : Loop = record { statement = before.statement; count = before.count -ℤ pos 1; increment = before.increment } in
            let old = counts_in (unit_running r) r.arena.contents r.frame.first in
            let place : before.statement ≡ d = loop_index r.top.level.loops d in
            let is_loop : is_do (statement_at (unit_running r) before.statement).form ≡ true = subst (λ e. is_do (statement_at (unit_running r) e).form ≡ true) (sym place) is_loop_at in
            let n = led_by_count (EndLoop x cells inside outside) (natural before.count - 1) r.index in
            let leads = ended_leads addressed r.top.level r.operands old (counts_with old l.statement (counts_of l)) r.index (is_at r running) line (EndLoop x cells inside outside) behind ahead d (natural before.count - 1) is refl (counted_so addressed l.statement (counts_of l) old) in
            let less : natural (before.count -ℤ pos 1) ≡ natural before.count - 1 = one_less before.count in
            let e : moves (with_counts (with_value_at r.arena.contents p (Int z)) (r.frame.first + loop_cells (unit_running r) before.statement) (natural (before.count -ℤ pos 1)) before.increment) [] n ≡ moves (with_counts (with_value_at r.arena.contents p (Int z)) (r.frame.first + loop_cells (unit_running r) d) (natural before.count - 1) before.increment) [] n =
            λ j. moves (with_counts (with_value_at r.arena.contents p (Int z)) (r.frame.first + loop_cells (unit_running r) (place j)) (less j) before.increment) [] n in
            subst (Simulates r) e (loop_is_set l is_loop at p z here n made leads.at.stands)

        variable_by : (at : Location) (p : ℕ) → address r.program r.top.state r.layout at ≡ Some p → (v : Option Value) → step_result_running r ≡ result_after_loop_variable r.program r.top before at v
            → Simulates r (effect_of_variable (code_running r) (arrays_running r) r.frame.first (EndLoop x cells inside outside) line r.arena.contents r.index (loop_cells (unit_running r) d) p (counts_of before) v)
        variable_by at p here None made = fault_is r running line (EndLoop x cells inside outside) behind ahead Undefined made
        variable_by at p here (Some v) made = raised_by at p here (integer_or_overflow (integer_of v +ℤ before.increment)) made

        end_by : (a : Result ℕ Kind) (q : Result Location Kind) → IsSame (address r.program r.top.state r.layout) a q → step_result_running r ≡ result_after_loop_end r.program r.top before q
            → Simulates r (effect_of_end (code_running r) (arrays_running r) r.frame.first (EndLoop x cells inside outside) line r.arena.contents r.index (loop_cells (unit_running r) d) a)
        end_by (Err j) (Err k) same made =
            fault_is r running line (EndLoop x cells inside outside) behind ahead j (made ∙ ap (result_after_fault r.program r.top) (sym same))
        end_by (Ok p) (Ok at) same made =
            let counts_are : counts_at (cells_in r.arena.contents) r.frame.first (loop_cells (unit_running r) d) ≡ counts_of before = (is_at r running).loops d is_loop_at in
            let cell_is : cells_in r.arena.contents p ≡ r.top.state.store at = cells_found r running p at same in
            let e : effect_of_end (code_running r) (arrays_running r) r.frame.first (EndLoop x cells inside outside) line r.arena.contents r.index (loop_cells (unit_running r) d) (Ok p) ≡ effect_of_variable (code_running r) (arrays_running r) r.frame.first (EndLoop x cells inside outside) line r.arena.contents r.index (loop_cells (unit_running r) d) p (counts_of before) (r.top.state.store at).value =
            λ j. effect_of_variable (code_running r) (arrays_running r) r.frame.first (EndLoop x cells inside outside) line r.arena.contents r.index (loop_cells (unit_running r) d) p (counts_are j) (cell_is j).value in
            subst (Simulates r) (sym e) (variable_by at p same (r.top.state.store at).value made)
        end_by _ _ same made = absurd same

      end_next : (n : Next) → coming r ≡ n → Comes r n (EndLoop x cells inside outside) behind → Simulates r (effect_running r line (EndLoop x cells inside outside) behind)
      end_next (does (ending_loop d)) is h =
          let y = loop_variable (unit_running r) d in
          let x_is : x ≡ variable_of r.program (unit_running r) y = cc h.operation in
          let cells_are : cells ≡ loop_cells (unit_running r) d = cc h.operation in
          let placed : variable_of r.program (unit_running r) y ≢ Absent = λ e. running.placed r.index line (EndLoop x cells inside outside) behind ahead (ap (λ v. Some v) (x_is ∙ e)) in
          let same = (running.addressed y [] placed).1 in
          let e : effect_running r line (EndLoop x cells inside outside) behind ≡ effect_of_end (code_running r) (arrays_running r) r.frame.first (EndLoop x cells inside outside) line r.arena.contents r.index (loop_cells (unit_running r) d) (found_running r (variable_of r.program (unit_running r) y) []) =
          λ j. effect_of_end (code_running r) (arrays_running r) r.frame.first (EndLoop x cells inside outside) line r.arena.contents r.index (cells_are j) (found_running r (x_is j) []) in
          subst (Simulates r) (sym e) (end_by d is (found_running r (variable_of r.program (unit_running r) y) []) (location_of_name (scope_running r) y []) same (action_made r running (ending_loop d) is))
      end_next (wants (evaluating q)) is h = absurd (cc h.operation)
      end_next (does leaving) is h = no_end (EndLoop x cells inside outside) (table_of addressed).result h.operation refl
      end_next _ is h = absurd (cc h.operation)

      pub loop_is_ended : Simulates r (effect_running r line (EndLoop x cells inside outside) behind)
      loop_is_ended = end_next (coming r) refl (next_is r running line (EndLoop x cells inside outside) behind ahead)
