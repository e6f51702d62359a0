use Rattle.std.proofs.Common.{◌≡◌, ◌+◌, ◌-◌, Some, Ok, sym, ◌∙◌, subst, arith}
use Rattle.hep_machine.specs.Words.{integers_of, counted_element}
use Rattle.hep_image.specs.Addressing.{address_in_array, base_at, bounds_at, cells_in, rest_at}
use Rattle.hep_step.specs.Cells.{IsReached}
use Rattle.hep_step.proofs.Elements.{element_is_left, element_is_there}
use Rattle.hep_step.proofs.addresses.of_element.Goals as goal
use Rattle.hep_step.proofs.addresses.of_element.Goals.{After-base, else-numbered-via-then-numbered+else-rest-number, else-numbered-via-else-numbered}

-- the element is there, whether the last bound is open or not
there : (c : After-base) → address_in_array (cells_in c.args.arena.now.contents) c.args.frame.first (Some c.args.array.now) c.args.subscripts.now ≡ Ok (base_at (cells_in c.args.arena.now.contents) c.args.frame.first c.args.array.now.start + (c.in-Some.number - 1))
there c =
    let cells = cells_in c.args.arena.now.contents in
    let first = c.args.frame.first in
    let bs = bounds_at cells first c.args.array.now.extents in
    let ss = integers_of c.args.subscripts.now in
    let base = base_at cells first c.args.array.now.start in
    let rest = rest_at cells first c.args.array.now.start in
    let n = c.in-Some.number in
    let named : counted_element bs ss ≡ Some n = sym c.number_in-numbered.ensures.number ∙ c.in-Some.is in
    elim c.else-numbered.branch [
      | else-numbered-via-then-numbered+else-rest-number w ↦ element_is_left cells first base rest n bs ss named (sym c.number_in-numbered.ensures.is_open ∙ w.if-numbered.true) (omega arith)
      | else-numbered-via-else-numbered w ↦ element_is_there cells first base rest n bs ss named (sym c.number_in-numbered.ensures.is_open ∙ w.if-numbered.false)
    ]

pub returns : goal.returns
returns c = rw (c.base.ensures.value, c.from-number.ensures) (sym (there (goal.at.returns c).After-base))

-- the address is that of a cell of the arena, so that 32 bits have room for it
pub overflow_cast-result : goal.overflow_cast-result
overflow_cast-result c =
    let reached = subst (IsReached c.args.arena.now) (there (goal.at.overflow_cast-result c).After-base) c.requires.reached in
    omega (arith, reached.0, c.requires.frame.few, c.base.ensures.value, c.from-number.ensures)
