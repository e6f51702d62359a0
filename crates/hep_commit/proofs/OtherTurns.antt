-- What turns of other processes leave of a process that stands where it stood: what its private steps read.
use Rattle.std.proofs.Common.{◌≡◌, ◌≢◌, inl, inr, ℕ, zero, suc, ◌+◌, ◌<◌, ◌≤◌, Bool, true, false, not, ◌||◌, ◌&&◌, nat_eq, ℤ, List, [], ◌∷◌, ◌++◌, map, length, Some, refl, sym, ap, ◌∙◌, subst, arith, append_assoc, append-nil, if◌then◌else◌}
use Rattle.std.specs.List.{filter}
use Rattle.std.specs.Option.{unwrap_or}
use Rattle.std.proofs.lemmas.Bool.{and_parts, eqb-true, not-true}
use Rattle.hep_source.proofs.NameTests.{same_name-self}
use Rattle.std.proofs.lemmas.Bool.Decides.{nat_tests}
use Rattle.std.proofs.lemmas.Option.{none-some, slice_get_within}
use Rattle.hep_machine.specs.Words.{IsSameOrOneMore, Level, Name, Process, State, Statement, Units, is_array, is_among, is_do, is_local, is_number_among, living, local, locals_of, loop_at, names_of, numbered, run, statement_at, step, top_of, unit_at, unit_of, unset_cell, Activation, cells_of, constant_value}
use Rattle.hep_machine.proofs.Ages.{aged, on_stack_made}
use Rattle.hep_machine.proofs.Others.{activations_after, each_turn, others_stay}
use Rattle.hep_machine.specs.Constants.{cells_of_shape, shape_by}
use Rattle.hep_machine.specs.declared.slot.Slot.{Slot}
use Rattle.hep_arena.specs.Gaps.{frame_among}
use Rattle.hep_code.specs.Words.{counts_of}
use Rattle.hep_layout.specs.Words.{first_of_part, variable}
use Rattle.hep_layout.proofs.FrameTree.{stacked-top}
use Rattle.hep_layout.proofs.HeldFrames.{run-last}
use Rattle.hep_layout.proofs.Memory.{activation-kept, same-activation}
use Rattle.hep_layout.proofs.Runs.{among-filter, runs-local}
use Rattle.hep_layout.proofs.Stacks.{top-numbered}
use Rattle.hep_image.specs.Addressing.{cells_in}
use Rattle.hep_image.specs.Private.{bare_actuals, is_private, private_cells}
use Rattle.hep_step.specs.Simulation.{counts_in, unit_addressed, unit_code}
use Rattle.hep_private.specs.declared.record.Record.{Record}
use Rattle.hep_private.specs.OwnState.{OwnState, count_in, increment_in, values_at}
use Rattle.hep_private.specs.FirstReads.{HaveRead}
use Rattle.hep_private.specs.StepRecords.{recorded}
use Rattle.hep_proc.specs.Stacks.{stack_with}
use Rattle.hep_state.specs.Words.{IsTurning, Snapshot, TurnOf, state_before, top_frame}
use Rattle.hep_state.proofs.SilentTurns.{top-activation, top-node, unit-is}
use Rattle.hep_state.proofs.Runs.{there}
use Rattle.hep_commit.specs.OtherTurns.{IsBeside, values_beside}
use Rattle.hep_commit.specs.PrivateTurns.{own_of}
use Rattle.hep_commit.specs.PrivateScalars.{is_private_scalar}
use Rattle.hep_commit.proofs.OwnLoops.{IsLoop, code-ends, end-ahead}
use Rattle.hep_commit.proofs.OwnedCells.{HaveSources, others-keep}
use Rattle.hep_commit.proofs.WhatIsRead.{AreAlike, still-read}

-- ---- turns of others

-- after turns of others a process has its top still, of the same unit, with the same private scalars
pub record LeavesTop (program : Units) (s t : State) (q : ℕ) (top : Level × Process) : Type 0 where
  pub lives : living t q ≡ Some top
  pub unit : unit_of t top.0.activation ≡ unit_of s top.0.activation
  pub scalars : (x : Name) → is_private_scalar (unit_at program (unit_of s top.0.activation)) x ≡ true → t.store (local top.0.activation x 1) ≡ s.store (local top.0.activation x 1)

within : (xs : List Process) (q : ℕ) (x : Process) → numbered xs q ≡ Some x → q ≤ length xs
within xs zero x e = absurd (none-some x e)
within xs (suc i) x e = slice_get_within xs i x e

module _ (laws : HaveSources) (program : Units) (q : ℕ) (top : Level × Process) where
  abbrev a : ℕ
  a = top.0.activation

  -- of one turn
  module _ (choices : List ℕ) (p : ℕ) (other : p ≢ q) (lives : living (run program choices) q ≡ Some top) where
    abbrev s : State
    s = run program choices

    on-stack : a ≤ length s.activations
    on-stack = (on_stack_made s a (aged program choices) (stacked-top s q top (top-numbered s q top lives))).1

    unit-kept : (t : State) → IsSameOrOneMore s.activations t.activations → unit_of t a ≡ unit_of s a
    unit-kept t (inl same) = ap (λ (z : Activation). z.unit) (same-activation s t a same)
    unit-kept t (inr more) = ap (λ (z : Activation). z.unit) (activation-kept s t more.0 a more.1 on-stack)

    stepped : (t : State) → step program p s ≡ Some t → IsSameOrOneMore s.activations t.activations → LeavesTop program s t q top
    stepped t made risen =
        record {
          lives = ap top_of (others_stay program p q s t made other (within s.processes q (top.0 ∷ top.1) (top-numbered s q top lives))) ∙ lives;
          unit = unit-kept t risen;
          scalars = λ x private. (others-keep laws program choices p q top t x 1 made other lives private).0;
        }

    turned : LeavesTop program s (run program (choices ++ p ∷ [])) q top
    turned =
        subst (λ t. LeavesTop program s t q top) (sym (run-last program choices p)) (
        each_turn (λ t. IsSameOrOneMore s.activations t.activations → LeavesTop program s t q top) program p s (λ risen. record { lives = lives; unit = refl; scalars = λ x private. refl }) stepped (activations_after program p s))

  -- of all
  pub left-by : (ps choices : List ℕ) → is_number_among q ps ≡ false → living (run program choices) q ≡ Some top → LeavesTop program (run program choices) (run program (choices ++ ps)) q top
  left-by [] choices none lives = subst (λ qs. LeavesTop program (run program choices) (run program qs) q top) (sym (append-nil choices)) (record { lives = lives; unit = refl; scalars = λ x private. refl })
  left-by (p ∷ ps) choices none lives =
      let apart : p ≢ q = grind (arith, nat_tests, none) in
      let first = turned choices p apart lives in
      let rest = left-by ps (choices ++ p ∷ []) (others-of p ps none) first.lives in
      let s = run program choices in
      let t = run program (choices ++ p ∷ []) in
      subst (λ qs. LeavesTop program s (run program qs) q top) (append_assoc choices (p ∷ []) ps) (
      record {
        lives = rest.lives;
        unit = rest.unit ∙ first.unit;
        scalars = λ x private. rest.scalars x (ap (λ u. is_private_scalar (unit_at program u) x) first.unit ∙ private) ∙ first.scalars x private;
      })
    where
      others-of : (p : ℕ) (ps : List ℕ) → is_number_among q (p ∷ ps) ≡ false → is_number_among q ps ≡ false
      others-of p ps e = by_test (nat_eq q p) e where
        by_test : (b : Bool) → (b || is_number_among q ps) ≡ false → is_number_among q ps ≡ false
        by_test true f = absurd cc
        by_test false f = f

-- ---- the values in its frame

module _ (unit : List Statement) where
  abbrev first-cell : Name → ℕ
  first-cell x = first_of_part unit (variable x)

  -- it is the first cell of a private name among these
  record IsAmong (xs : List Name) (c : ℕ) : Type 0 where
    name : Name
    among : is_among name xs ≡ true
    private : is_private unit name ≡ true
    cell : c ≡ first-cell name

  among-first : (y : Name) (ys : List Name) → is_among y (y ∷ ys) ≡ true
  among-first y ys = grind (arith, same_name-self y)

  among-behind : (x y : Name) (ys : List Name) → is_among x ys ≡ true → is_among x (y ∷ ys) ≡ true
  among-behind x y ys h = grind (arith, h)

  among-more : (y : Name) (ys : List Name) (c : ℕ) → IsAmong ys c → IsAmong (y ∷ ys) c
  among-more y ys c h = record { name = h.name; among = among-behind h.name y ys h.among; private = h.private; cell = h.cell }

  among-cells : (xs : List Name) (c : ℕ) → is_number_among c (map first-cell (filter (is_private unit) xs)) ≡ true → IsAmong xs c
  among-cells [] c e = absurd cc
  among-cells (y ∷ ys) c e = by_private (is_private unit y) refl (λ f. among-more y ys c (among-cells ys c f)) e where
    by_cell : (b : Bool) → is_private unit y ≡ true → nat_eq c (first-cell y) ≡ b → (is_number_among c (map first-cell (filter (is_private unit) ys)) ≡ true → IsAmong (y ∷ ys) c) → (b || is_number_among c (map first-cell (filter (is_private unit) ys))) ≡ true → IsAmong (y ∷ ys) c
    by_cell true private same behind f = record { name = y; among = among-first y ys; private = private; cell = eqb-true c (first-cell y) same }
    by_cell false private same behind f = behind f

    by_private : (b : Bool) → is_private unit y ≡ b → (is_number_among c (map first-cell (filter (is_private unit) ys)) ≡ true → IsAmong (y ∷ ys) c) → is_number_among c (map first-cell (if b then y ∷ filter (is_private unit) ys else filter (is_private unit) ys)) ≡ true → IsAmong (y ∷ ys) c
    by_private true private behind f = by_cell (nat_eq c (first-cell y)) private refl behind f
    by_private false private behind f = behind f

  one-cell : (x : Name) → is_private unit x ≡ true → cells_of unit x ≡ 1
  one-cell x private =
      let plain = (and_parts (not x.asynchronous) (not (is_array unit x) && not (is_among x (bare_actuals unit))) private).1 in
      let scalar = not-true (is_array unit x) (and_parts (not (is_array unit x)) (not (is_among x (bare_actuals unit))) plain).0 in
      ap cells_of_shape (ap (λ b. if b then shape_by unit (constant_value unit) x else Some []) scalar)

  is-scalar : (x : Name) → is_among x (locals_of unit) ≡ true → is_private unit x ≡ true → is_private_scalar unit x ≡ true
  is-scalar x among private = ap (λ b. b && is_local unit x) private ∙ among-filter x (is_local unit) (names_of unit) among

module _ (t : TurnOf) (turns : IsTurning t) where
  abbrev unit_there : List Statement
  unit_there = unit_at t.program t.level.unit

  -- a private scalar's is what is stored
  value-stored : (x : Name) → is_among x (locals_of unit_there) ≡ true → is_private unit_there x ≡ true
      → values_at t.machine.arena.contents (top_frame t).first (first_of_part unit_there (variable x)) ≡ ((state_before t).store (local t.top.0.activation x 1)).value
  value-stored x among private =
      let s = state_before t in
      let a = t.top.0.activation in
      let layout = turns.after.layout in
      let keeps = turns.after.shows.keeps in
      let framed : frame_among a layout ≡ Some (top_frame t) = ap (λ b. frame_among b layout) (sym (top-activation turns)) ∙ keeps.framed t.level.key _ (top-node turns) in
      let here = ap (λ u. unit_at t.program u) (unit-is turns) in
      let runs = runs-local t.program s layout a x (top_frame t) framed (ap (λ u. is_among x (locals_of u)) here ∙ among) in
      let some : 0 < cells_of (unit_at t.program (unit_of s a)) x = omega (arith, ap (λ u. cells_of u x) here, one-cell unit_there x private) in
      let place : (top_frame t).first + first_of_part (unit_at t.program (unit_of s a)) (variable x) + 0 ≡ (top_frame t).first + first_of_part unit_there (variable x) = omega (arith, ap (λ u. first_of_part u (variable x)) here) in
      let there = keeps.memory.holds (local a x 1) _ (runs 0 some) in
      ap (λ p. (cells_in t.machine.arena.contents p).value) (sym place) ∙ ap (λ o. (unwrap_or o unset_cell).value) there

  -- those of DOs are what the level says
  counts-told : (d : ℕ) → is_do (statement_at unit_there d).form ≡ true → counts_in unit_there t.machine.arena.contents (top_frame t).first d ≡ counts_of (loop_at t.top.0.loops d)
  counts-told d is = (turns.after.shows.stacks t.process (stack_with t.level t.below t.operands t.pending) (t.top.0 ∷ t.top.1) turns.kept (there turns)).levels.0.at.loops d is

-- ---- what its private steps read

module _ (laws : HaveSources) (t : TurnOf) (turns : IsTurning t) (others : List ℕ) (m : Snapshot) (beside : IsBeside t others m) where
  abbrev later : TurnOf
  later = record t { choices = t.choices ++ others; machine = m }

  left : LeavesTop t.program (state_before t) (state_before later) t.process t.top
  left = left-by laws t.program t.process t.top others t.choices beside.other turns.lives

  turns-later : IsTurning later
  turns-later = record { after = beside.after; running = sym beside.after.shows.halted ∙ beside.going; kept = beside.kept; lives = left.lives }

  alike : AreAlike (private_cells (unit_there t turns)) (IsLoop (unit_addressed t.program t.level.unit)) (own_of t).values (values_beside t m)
  alike =
      let unit = unit_there t turns in
      record {
        values = λ c among.
            let h = among-cells unit (locals_of unit) c among in
            let scalar = ap (λ u. is_private_scalar (unit_at t.program u) h.name) (unit-is turns) ∙ is-scalar unit h.name h.among h.private in
            ap (values_beside t m) h.cell
            ∙ (value-stored later turns-later h.name h.among h.private
            ∙ (ap (λ (c : Slot). c.value) (left.scalars h.name scalar)
            ∙ (sym (value-stored t turns h.name h.among h.private) ∙ ap (own_of t).values (sym h.cell))));
        counts = λ c loop. ap (λ d. count_in (values_beside t m) d) loop.2 ∙ (ap (λ (n : ℕ × ℤ). n.0) (counts-told later turns-later loop.0 loop.1 ∙ sym (counts-told t turns loop.0 loop.1)) ∙ ap (λ d. count_in (own_of t).values d) (sym loop.2));
        increments = λ c loop. ap (λ d. increment_in (values_beside t m) d) loop.2 ∙ (ap (λ (n : ℕ × ℤ). n.1) (counts-told later turns-later loop.0 loop.1 ∙ sym (counts-told t turns loop.0 loop.1)) ∙ ap (λ d. increment_in (own_of t).values d) (sym loop.2));
      }

  pub read-still : (n : ℕ) (records : List Record) (end : OwnState) → recorded (private_cells (unit_there t turns)) (unit_code t.program t.level.unit) n (own_of t) ≡ Some (records, end) → HaveRead (own_of t).values records → HaveRead (values_beside t m) records
  read-still n records end is read =
      let addressed = unit_addressed t.program t.level.unit in
      still-read (private_cells (unit_there t turns)) (IsLoop addressed) (own_of t).values (values_beside t m) alike (unit_code t.program t.level.unit) (end-ahead addressed (unit_code t.program t.level.unit) (code-ends addressed)) n (own_of t) records end is read
