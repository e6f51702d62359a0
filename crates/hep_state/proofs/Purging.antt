-- A PURGE ahead of a process: what it empties, and that its step was made.
use Rattle.std.proofs.Common.{◌≡◌, ℕ, suc, ◌+◌, ◌<◌, true, false, List, [], ◌∷◌, length, Option, Some, None, refl, sym, ap, ◌∙◌, subst, true≢false, arith, Result, Ok, Err, slice_get}
use Rattle.std.specs.Option.{unwrap_or}
use Rattle.std.proofs.lemmas.Option.{none-some, same_Some, slice_get-get_or, slice_get_within}
use Rattle.hep_machine.specs.Words.{purged_cell, unset_cell, Layout, is_held, layout_of, Location, State, state_with_store}
use Rattle.hep_machine.specs.declared.event.Kind.{Kind}
use Rattle.hep_machine.specs.declared.slot.Slot.{Slot}
use Rattle.hep_arena.specs.Holes.{IsOut}
use Rattle.hep_arena.specs.Space.{Space}
use Rattle.hep_code.specs.declared.instruction.Argument.TheVariants.{Referred}
use Rattle.hep_code.specs.declared.instruction.Instruction.{Instruction}
use Rattle.hep_code.specs.declared.instruction.Instruction.TheVariants.{Pass}
use Rattle.hep_code.specs.Words.{passed_from}
use Rattle.hep_layout.specs.Words.{address}
use Rattle.hep_layout.proofs.Memory.{address-same}
use Rattle.hep_image.specs.declared.array.Array.{Array}
use Rattle.hep_image.specs.Addressing.{cells_in}
use Rattle.hep_binding.specs.AcceptedLawsInstructions.{variables_in}
use Rattle.hep_binding.specs.AcceptedLawsPlacedCode.{ArePlaced, code_in}
use Rattle.hep_step.specs.declared.closed_range.ClosedRange.{ClosedRange}
use Rattle.hep_step.specs.PlacedTargets.{AreEntriesPlaced}
use Rattle.hep_step.specs.PurgeEffects.{effect_of_purge, effect_of_ranges, have_cell, purged}
use Rattle.hep_step.specs.PurgedRanges.{ranges_of}
use Rattle.hep_step.specs.PurgeReady.{AreReached}
use Rattle.hep_step.specs.Effects.{Effect, fails, moves}
use Rattle.hep_step.specs.Simulation.{arrays_on_top, unit_arrays}
use Rattle.hep_state.specs.declared.next_step.NextPurge.{NextPurge}
use Rattle.hep_state.specs.Words.{IsAtPurge, ranges_ahead, HasPurged, IsEffectOf, IsEnding, IsTurning, TurnOf, snapshot_moved, state_before, top_before, top_frame, HasGaps, HasMadeTurn}
use Rattle.hep_state.proofs.SilentTurns.{moved-shown, next-is, unit-is}
use Rattle.hep_state.proofs.TakenTurns.{inside}
use Rattle.hep_state.proofs.TopActivations.{dropped-behind}

-- ---- cells

-- what the laws of ranges say
abbrev pub Within : Type 0
Within = (ranges : List ClosedRange) (contents : List Slot) (c : ℕ) (slot : Slot) → have_cell ranges c ≡ true → slice_get contents c ≡ Some slot → slice_get (purged ranges contents) c ≡ Some (purged_cell slot)

abbrev pub Elsewhere : Type 0
Elsewhere = (ranges : List ClosedRange) (contents : List Slot) (c : ℕ) → have_cell ranges c ≡ false → slice_get (purged ranges contents) c ≡ slice_get contents c

abbrev pub SameLength : Type 0
SameLength = (ranges : List ClosedRange) (contents : List Slot) → length (purged ranges contents) ≡ length contents

cell-emptied : Within → SameLength → (ranges : List ClosedRange) (contents : List Slot) (c : ℕ) → have_cell ranges c ≡ true → (cells_in (purged ranges contents) c).full ≡ false
cell-emptied within same ranges contents c e = by_slots (slice_get contents c) refl (slice_get (purged ranges contents) c) refl where
  by_slots : (o : Option Slot) → slice_get contents c ≡ o → (q : Option Slot) → slice_get (purged ranges contents) c ≡ q → (cells_in (purged ranges contents) c).full ≡ false
  by_slots (Some slot) is q there = ap (λ (z : Option Slot). (unwrap_or z unset_cell).full) (within ranges contents c slot e is)
  by_slots None is None there = ap (λ (z : Option Slot). (unwrap_or z unset_cell).full) there
  by_slots None is (Some slot) there =
      let inside = slice_get_within (purged ranges contents) c slot there in
      let before : c < length contents = omega (arith, inside, same ranges contents) in
      absurd (none-some _ (sym is ∙ slice_get-get_or contents c unset_cell before))

-- ranges are reached in each arena with the same holes and as many cells
pub reached-alike : (a b : Space) (ranges : List ClosedRange) → length b.contents ≡ length a.contents → b.holes ≡ a.holes → AreReached a ranges → AreReached b ranges
reached-alike a b [] size holes h = tt
reached-alike a b (r ∷ rs) size holes h =
    (record { inside = omega (arith, h.0.inside, size); out = λ c from to. subst (IsOut c) (sym holes) (h.0.out c from to) }, reached-alike a b rs size holes h.1)

-- ---- its step

module _ {t : TurnOf} (turning : IsTurning t) where
  abbrev old : State
  old = state_before t

  abbrev Does : Effect → Type 0
  Does = IsEffectOf t turning

  same-layout : (layout : Layout) → layout_of t.program t.cells is_held t.choices ≡ Some layout → turning.after.layout ≡ layout
  same-layout layout laid = same_Some turning.after.layout layout (sym turning.after.laid ∙ laid)

  -- a fault empties nothing
  pub nothing-purged : (line : ℕ) (kind : Kind) → Does (fails line kind) → HasPurged t.program t.cells t.choices t.process []
  nothing-purged line kind sim =
      let next = next-is turning _ sim.0 in
      record { emptied = λ layout at c laid found e. absurd (true≢false (sym e)); others = λ layout at c laid found e. ap (λ (s : State). (s.store at).full) next }

  -- the cells of ranges are emptied
  module _ (within : Within) (elsewhere : Elsewhere) (same : SameLength) (ranges : List ClosedRange) (index : ℕ) (sim : Does (moves (purged ranges t.machine.arena.contents) [] index)) where
    abbrev after : State
    after = state_with_store (top_before t) sim.0 sim.1

    holds-after : (at : Location) (c : ℕ) → address t.program old turning.after.layout at ≡ Some c → cells_in (purged ranges t.machine.arena.contents) c ≡ after.store at
    holds-after at c found = ap (λ (z : Option Slot). unwrap_or z unset_cell) (sim.3.memory.holds at c (address-same t.program old after turning.after.layout at refl ∙ found))

    holds-before : (at : Location) (c : ℕ) → address t.program old turning.after.layout at ≡ Some c → cells_in t.machine.arena.contents c ≡ old.store at
    holds-before at c found = ap (λ (z : Option Slot). unwrap_or z unset_cell) (turning.after.shows.keeps.memory.holds at c found)

    pub ranges-purged : HasPurged t.program t.cells t.choices t.process ranges
    ranges-purged =
        record {
          emptied = λ layout at c laid found e.
              let here = subst (λ (fs : Layout). address t.program old fs at ≡ Some c) (sym (same-layout layout laid)) found in
              ap (λ (s : State). (s.store at).full) (next-is turning after sim.2) ∙ (ap (λ (slot : Slot). slot.full) (sym (holds-after at c here)) ∙ cell-emptied within same ranges t.machine.arena.contents c e);
          others = λ layout at c laid found e.
              let here = subst (λ (fs : Layout). address t.program old fs at ≡ Some c) (sym (same-layout layout laid)) found in
              ap (λ (s : State). (s.store at).full) (next-is turning after sim.2)
              ∙ (ap (λ (slot : Slot). slot.full) (sym (holds-after at c here))
              ∙ (ap (λ (z : Option Slot). (unwrap_or z unset_cell).full) (elsewhere ranges t.machine.arena.contents c e)
              ∙ ap (λ (slot : Slot). slot.full) (holds-before at c here)));
        }

    pub ranges-stepped : HasMadeTurn t (snapshot_moved t (purged ranges t.machine.arena.contents) [] index)
    ranges-stepped = moved-shown turning (purged ranges t.machine.arena.contents) [] index (same ranges t.machine.arena.contents) sim

-- ---- the PURGE that is ahead

module _ {t : TurnOf} (purge : NextPurge) (at : IsAtPurge t purge) where
  -- what is so of the arrays of its unit
  pub of-arrays : (P : List Array → Type 0) → P (arrays_on_top t.program (top_before t)) → P (unit_arrays t.program t.level.unit)
  of-arrays P = subst (λ u. P (unit_arrays t.program u)) (unit-is at.turning)

  -- the variables of its entries have storage units
  pub entries-placed : ((i : ℕ) (x : Instruction) → t.level.unit < length t.program → slice_get (code_in t.program t.level.unit) i ≡ Some x → ArePlaced (variables_in x)) → AreEntriesPlaced purge.count at.behind
  entries-placed placed i n x less is =
      let there = dropped-behind (code_in t.program t.level.unit) t.level.index i _ at.behind (Pass (Referred x n)) at.ahead is in
      placed (suc (t.level.index + i)) (Pass (Referred x n)) (inside at.turning) there 0 x refl

  abbrev Doing : Effect → Type 0
  Doing = IsEffectOf t at.turning

  -- what it does, by what its targets name
  pub does-so : Doing (effect_of_purge (arrays_on_top t.program (top_before t)) (top_frame t).first purge.line purge.next (passed_from purge.count at.behind t.operands) t.machine.arena.contents)
      → (r : Result (List ClosedRange) Kind) → ranges_ahead purge at ≡ r → Doing (effect_of_ranges purge.line purge.next t.machine.arena.contents r)
  does-so sim r e =
      subst (λ (q : Result (List ClosedRange) Kind). Doing (effect_of_ranges purge.line purge.next t.machine.arena.contents q))
      (ap (λ u. ranges_of (cells_in t.machine.arena.contents) (top_frame t).first (unit_arrays t.program u) (passed_from purge.count at.behind t.operands)) (unit-is at.turning) ∙ e) sim

  pub fault-ends : (kind : Kind) → Doing (fails purge.line kind) → IsEnding t (fails purge.line kind)
  fault-ends kind sim = record { turning = at.turning; simulated = sim }

  -- each frame has its gap then
  pub gaps-there : ((kind : Kind) → IsEnding t (fails purge.line kind) → HasGaps t.program t.cells t.choices t.process)
      → ((ranges : List ClosedRange) → ranges_ahead purge at ≡ Ok ranges → HasMadeTurn t (snapshot_moved t (purged ranges t.machine.arena.contents) [] purge.next))
      → ((kind : Kind) → ranges_ahead purge at ≡ Err kind → IsEnding t (fails purge.line kind)) → HasGaps t.program t.cells t.choices t.process
  gaps-there by_fault by_step ends = by_ranges (ranges_ahead purge at) refl where
    by_ranges : (r : Result (List ClosedRange) Kind) → ranges_ahead purge at ≡ r → HasGaps t.program t.cells t.choices t.process
    by_ranges (Ok ranges) e none = none-some _ (sym none ∙ (by_step ranges e).after.laid)
    by_ranges (Err kind) e none = by_fault kind (ends kind e) none
