use Rattle.std.proofs.Common.{◌∙◌, ◌≤◌, length, ap, subst, sym}
use Rattle.hep_code.specs.Words.{deepest, line_too_deep, most_instructions, entry_index}
use Rattle.hep_image.specs.Image.{most_cells}
use Rattle.hep_image.specs.Owners.{AreInOrder}
use Rattle.hep_lower.specs.Refusals.{RefusesCode}
use Rattle.hep_lower.proofs.PlacedUnits.{addressed-is, code-there, refused-code}
use Rattle.hep_lower.proofs.units.lower_placed.Goals as goal
use Rattle.hep_source.proofs.Tests.{none-if_not}

pub returns-in-Err-clause-refused : goal.returns-in-Err-clause-refused
returns-in-Err-clause-refused c =
    let program = c.args.program.now in
    let u = c.args.index in
    let places = c.requires.places in
    subst (RefusesCode program) (sym c.fault_of.ensures) (
    refused-code program u c.args.symbols.now c.args.places.places c.requires.unit places.variables places.loops c.in-Err.fault c.requires.there c.in-Err.ensures.refused)

pub returns-clause-lowered : goal.returns-clause-lowered
returns-clause-lowered c =
    let program = c.args.program.now in
    let u = c.args.index in
    let places = c.requires.places in
    let made = c.in-Ok.ensures.code ∙ code-there program u c.args.symbols.now c.args.places.places c.requires.unit places.variables places.loops in
    let shallow = none-if_not c.in-Ok.lowered.depth.too_deep c.in_default.not-Some in (
      record {
        code = c.from.ensures ∙ made;
        entry = c.in-Ok.ensures.entry ∙ ap entry_index (addressed-is program u c.args.symbols.now c.args.places.places c.requires.unit places.variables places.loops);
        arrays = c.from-2.ensures ∙ places.arrays;
        operands = c.in-Ok.ensures.operands ∙ ap deepest (sym c.from.ensures);
        few_operands = c.in-Ok.ensures.few shallow;
        cells = places.cells;
        few_cells = subst (λ n. n ≤ most_cells) (sym places.cells) c.requires.small_frame;
        dummies = c.from-3.ensures ∙ places.dummies;
        private_are = c.from-4.ensures ∙ places.private_are;
        variables_are = c.from-5.ensures ∙ places.variables_are;
        in_order = subst AreInOrder (sym c.from-5.ensures) places.in_order;
      },
      sym (c.in-Ok.ensures.too_deep ∙ ap line_too_deep made) ∙ shallow,
      subst (λ code. length code ≤ most_instructions) made c.in-Ok.ensures.short,
    )
