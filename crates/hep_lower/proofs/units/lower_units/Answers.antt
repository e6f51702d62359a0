use Rattle.std.proofs.Common.{◌≡◌, ℕ, ◌+◌, ◌<◌, ◌≤◌, ◌∙◌, Vec, Global, ap, arith, length, refl, subst, sym}
use Rattle.hep_machine.specs.Words.{Units, main_unit, unit_at, frame_cells}
use Rattle.hep_image.specs.declared.data.DataRow.{DataRow}
use Rattle.hep_places.specs.UnitPlaces.{ArePlaces}
use Rattle.hep_lower.specs.Refusals.{RefusesCode}
use Rattle.hep_lower.proofs.Counts.{rising}
use Rattle.hep_lower.proofs.PlacedUnits.{unit-item}
use Rattle.hep_image.specs.Image.{most_cells}
use Rattle.hep_lower.specs.LoweredUnits.{AreRows}
use Rattle.hep_lower.proofs.units.lower_units.Goals as goal
use Rattle.hep_lower.proofs.units.lower_units.Goals.{In_ok-places, then-index-main+in_ok-rows, else-index-main}

here : (c : In_ok-places) → c.loop-index.index < length c.args.program.now
here c = subst (λ (us : Units). c.loop-index.index < length us) c.units-symbols-items.ensures c.loop-index-test.true

is-unit : (c : In_ok-places) → c.symbols-item.result ≡ unit_at c.args.program.now c.loop-index.index
is-unit c =
    unit-item c.args.program.now c.units-symbols-items.result.now c.loop-index.index c.symbols-item.result c.units-symbols-items.ensures c.loop-index-test.true c.symbols-item.is

are-places : (c : In_ok-places) → ArePlaces c.args.program.now (unit_at c.args.program.now c.loop-index.index) c.in_ok-places.places
are-places c =
    let index = c.loop-index.index in
    c.in_ok-places.ensures c.args.program.now index c.requires.accepted (here c) (is-unit c) c.requires.starts c.requires.small_common (c.requires.small_frames index (here c))

pub loop-index-init : goal.loop-index-init
loop-index-init c =
    let h = c.in_ok-units.ensures c.args.program.now in
    record { units = h; few = omega (arith, h.counted); rows = λ lt. absurd (omega (arith, lt)) }

pub lower_placed-requires-clause-unit : goal.lower_placed-requires-clause-unit
lower_placed-requires-clause-unit c = is-unit (goal.at.lower_placed-requires-clause-unit c).In_ok-places

pub lower_placed-requires-clause-places : goal.lower_placed-requires-clause-places
lower_placed-requires-clause-places c = are-places (goal.at.lower_placed-requires-clause-places c).In_ok-places

pub returns-then-units-gt-MOST_INSTRUCTIONS-clause-refused : goal.returns-then-units-gt-MOST_INSTRUCTIONS-clause-refused
returns-then-units-gt-MOST_INSTRUCTIONS-clause-refused c =
    let program = c.args.program.now in
    let index = c.loop-index.index in
    let there = here (goal.at.returns-then-units-gt-MOST_INSTRUCTIONS-clause-refused c).In_ok-places in
    let known = c.in_ok-add.ensures program index c.loop-index.invariant.units c.in_ok-lower_placed.ensures.lowered in
    let more = rising program (index + 1) (length program) (omega (arith, there)) in
    subst (RefusesCode program) (sym c.refused.ensures) (refl, refl, refl, omega (arith, c.if-units-gt-MOST_INSTRUCTIONS.true, known.counted, more))

pub main_rows-requires : goal.main_rows-requires
main_rows-requires c = subst (λ n. n ≤ most_cells) (sym c.requires.starts.cells_are) c.requires.small_common

before-this : (main index : ℕ) → main < index + 1 → (index ≡ main → ⊥) → main < index
before-this main index lt other = grind (arith, lt, other)

pub loop-index-preserved : goal.loop-index-preserved
loop-index-preserved c =
    let at = (goal.at.loop-index-preserved c).In_ok-places in
    let small = c.requires.small_frames c.loop-index.index (here at) in
    record {
      units = c.in_ok-add.ensures c.args.program.now c.loop-index.index c.loop-index.invariant.units c.in_ok-lower_placed.ensures.lowered;
      few = omega arith;
      rows = λ lt. elim c.if-index-main.branch [
        | then-index-main+in_ok-rows w ↦
            let main : c.loop-index.index ≡ main_unit c.args.program.now = w.if-index-main.true ∙ sym c.requires.main in
            subst (λ (rows : Vec DataRow Global). AreRows c.args.program.now rows.items) (sym w.rows-is) (w.in_ok-rows.ensures c.args.program.now c.requires.accepted
            (is-unit at ∙ ap (unit_at c.args.program.now) main) (subst (λ u. ArePlaces c.args.program.now (unit_at c.args.program.now u) c.in_ok-places.places) main (are-places at)) c.requires.starts c.requires.small_common
            (subst (λ u. frame_cells (unit_at c.args.program.now u) ≤ most_cells) main small))
        | else-index-main w ↦ subst (λ (rows : Vec DataRow Global). AreRows c.args.program.now rows.items) (sym w.rows-is) (c.loop-index.invariant.rows (before-this c.args.main c.loop-index.index lt w.if-index-main.false))
      ];
    }
