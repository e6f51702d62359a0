use Rattle.std.proofs.Common.{◌≡◌, ◌<◌, ◌+◌, ◌++◌, ◌∙◌, ap, sym, drop, length, get_or, arith}
use Rattle.hep_names.proofs.Firsts.{grow}
use Rattle.hep_machine.specs.Words.{unit_name, unit_at, frame_cells}
use Rattle.hep_check.specs.Listing.{unit_text, unit_line}
use Rattle.hep_check.proofs.Units.{unit-read}
use Rattle.hep_check.proofs.listing.append_units.Goals as goal
use Rattle.hep_source.proofs.Tests.{drop_at}

pub frame_cells-requires : goal.frame_cells-requires
frame_cells-requires c = omega (arith, c.loop-number-test.true, ap length (c.as_slice-unit-items.ensures ∙ c.program.ensures))

pub loop-number-preserved : goal.loop-number-preserved
loop-number-preserved c =
    let us = c.args.checked.now in
    let i = c.loop-number.number in
    let unit = c.unit-item.result in
    let found = c.loop-number.text.items in
    let items = c.as_slice-unit-items.ensures ∙ c.program.ensures in
    let within : i < length us = omega (arith, c.loop-number-test.true, ap length items) in
    let is : unit ≡ get_or us i unit = c.unit-item.is ∙ ap (λ vs. get_or vs i unit) items in
    let read : unit_at us i ≡ unit = sym (unit-read us i unit within) ∙ sym is in
    let name = c.as_slice.ensures ∙ c.in_ok-name.ensures in
    grow unit_line found c.append_unit.new.text.items _ unit (drop i us) (drop (i + 1) us) c.loop-number.invariant
    (c.in_ok-append_unit.ensures
    ∙ (ap (λ n. found ++ unit_text n c.frame_cells.result) name ∙ ap (λ n. found ++ unit_text (unit_name unit) n) (c.frame_cells.ensures ∙ ap frame_cells read)))
    (drop_at us i unit within is)
