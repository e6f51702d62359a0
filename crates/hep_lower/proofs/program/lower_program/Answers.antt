use Rattle.std.proofs.Common.{◌≡◌, ◌∙◌, ◌<◌, inl, inr, ap, arith, length, subst, sym}
use Rattle.std.specs.Option.{unwrap_or}
use Rattle.hep_machine.specs.Words.{no_unit, Units, is_main, main_unit, procedure_name}
use Rattle.hep_storage.specs.Starts.{AreBlocks, AreStarts}
use Rattle.hep_code.specs.Words.{most_instructions}
use Rattle.hep_lower.specs.Refusals.{IsFirstDeep, RefusesCode}
use Rattle.hep_lower.specs.LoweredUnits.{AreUnits}
use Rattle.hep_lower.proofs.Counts.{one-each}
use Rattle.hep_lower.proofs.RefusalReasons.{blocks-are, lowered-is, some-main, told-beyond, told-code, told-deep, within-limits}
use Rattle.hep_lower.proofs.program.lower_program.Goals as goal
use Rattle.hep_lower.proofs.program.lower_program.Goals.{In_ok-program, In_ok-common, In_ok-lowered}
use Rattle.hep_source.proofs.Tests.{index-below, none-if_not}

same : (c : In_ok-program) → c.in_ok-program.program ≡ c.args.checked.now
same c = c.in_ok-program.ensures ∙ (c.as_slice-source.ensures ∙ c.program.ensures)

are-blocks : (c : In_ok-common) → AreBlocks c.args.checked.now c.in_ok-blocks.blocks
are-blocks c =
    let known = c.in_ok-blocks.ensures in
    blocks-are c.in_ok-program.program c.args.checked.now _ (c.in_ok-program.ensures ∙ (c.as_slice-source.ensures ∙ c.program.ensures)) known.blocks known.lengths known.bounded

are-starts : (c : In_ok-common) → AreStarts c.args.checked.now c.in_ok-common.common
are-starts c = c.in_ok-common.ensures c.args.checked.now (are-blocks c)

are-units : (c : In_ok-lowered) → AreUnits c.args.checked.now (length c.args.checked.now) c.in_ok-lowered.lowered.units
are-units c = subst (λ (p : Units). AreUnits p (length p) c.in_ok-lowered.lowered.units) (c.in_ok-program.ensures ∙ (c.as_slice-source.ensures ∙ c.program.ensures)) c.in_ok-lowered.ensures.units

pub of_blocks-requires : goal.of_blocks-requires
of_blocks-requires c =
    let known = c.in_ok-blocks.ensures in
    (c.in_ok-program.program, record { blocks_are = known.blocks; lengths_are = known.lengths; bounded = known.bounded })

pub exceeds_cells-requires : goal.exceeds_cells-requires
exceeds_cells-requires c = are-starts (goal.at.exceeds_cells-requires c).In_ok-common

pub lower_units-requires-clause-starts : goal.lower_units-requires-clause-starts
lower_units-requires-clause-starts c =
    let at = goal.at.lower_units-requires-clause-starts c in
    subst (λ (p : Units). AreStarts p c.in_ok-common.common) (sym (same at.In_ok-program)) (are-starts at.In_ok-common)

pub lower_units-requires-clause-main : goal.lower_units-requires-clause-main
lower_units-requires-clause-main c =
    subst (λ (p : Units). main_unit p ≡ c.args.main) (sym (same (goal.at.lower_units-requires-clause-main c).In_ok-program)) (ap (λ o. unwrap_or o no_unit) c.requires)

pub lower_units-requires-clause-inside : goal.lower_units-requires-clause-inside
lower_units-requires-clause-inside c =
    subst (λ (p : Units). c.args.main < length p) (sym (same (goal.at.lower_units-requires-clause-inside c).In_ok-program)) (index-below (λ unit. is_main (procedure_name unit)) c.args.checked.now c.args.main c.requires)

pub image_tables-requires-clause-blocks : goal.image_tables-requires-clause-blocks
image_tables-requires-clause-blocks c = are-blocks (goal.at.image_tables-requires-clause-blocks c).In_ok-common

pub image_tables-requires-clause-starts : goal.image_tables-requires-clause-starts
image_tables-requires-clause-starts c = are-starts (goal.at.image_tables-requires-clause-starts c).In_ok-common

pub image_tables-requires-clause-units : goal.image_tables-requires-clause-units
image_tables-requires-clause-units c = are-units (goal.at.image_tables-requires-clause-units c).In_ok-lowered

pub returns-then-source-gt-MOST_INSTRUCTIONS-clause-refused : goal.returns-then-source-gt-MOST_INSTRUCTIONS-clause-refused
returns-then-source-gt-MOST_INSTRUCTIONS-clause-refused c =
    let program = c.args.checked.now in
    let many = subst (λ (p : Units). most_instructions < length p) (c.as_slice-source.ensures ∙ c.program.ensures) c.if-source-gt-MOST_INSTRUCTIONS.true in
    told-beyond program (some-main program c.args.main c.requires) c.refused.result c.refused.ensures (inr (omega (arith, many, one-each program (length program))))

pub returns-then-exceeds_cells-clause-refused : goal.returns-then-exceeds_cells-clause-refused
returns-then-exceeds_cells-clause-refused c =
    told-beyond c.args.checked.now (some-main c.args.checked.now c.args.main c.requires) c.refused-then-exceeds_cells.result c.refused-then-exceeds_cells.ensures (inl (c.exceeds_cells.ensures.beyond c.if-exceeds_cells.true))

pub returns-in_err-lowered-clause-refused : goal.returns-in_err-lowered-clause-refused
returns-in_err-lowered-clause-refused c =
    told-code c.args.checked.now (some-main c.args.checked.now c.args.main c.requires) c.from_residual-in_err-lowered.result c.in_err-lowered.field-0.0 c.from_residual-in_err-lowered.ensures
    (subst (λ (p : Units). RefusesCode p c.in_err-lowered.field-0.0) (same (goal.at.returns-in_err-lowered-clause-refused c).In_ok-program) c.in_err-lowered.ensures.refused)

pub returns-in-Some-clause-refused : goal.returns-in-Some-clause-refused
returns-in-Some-clause-refused c =
    let program = c.args.checked.now in
    let known = are-units (goal.at.returns-in-Some-clause-refused c).In_ok-lowered in
    let within = within-limits program c.in_ok-lowered.lowered.units known (c.exceeds_cells.ensures.common c.if-exceeds_cells.false) (c.exceeds_cells.ensures.frames c.if-exceeds_cells.false) c.in_ok-lowered.ensures.few in
    told-deep program (some-main program c.args.main c.requires) c.refused-in-Some.result c.in-Some.line c.refused-in-Some.ensures within (subst (IsFirstDeep program (length program)) c.in-Some.is known.deep)

pub returns-clause-lowered : goal.returns-clause-lowered
returns-clause-lowered c =
    let program = c.args.checked.now in
    let lowered = c.in_ok-lowered.lowered.units in
    let known = are-units (goal.at.returns-clause-lowered c).In_ok-lowered in
    lowered-is program lowered known (c.exceeds_cells.ensures.common c.if-exceeds_cells.false) (c.exceeds_cells.ensures.frames c.if-exceeds_cells.false) c.in_ok-lowered.ensures.few (some-main program c.args.main c.requires) (none-if_not lowered.too_deep c.in_default.not-Some)
