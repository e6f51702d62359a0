use Rattle.std.proofs.Common.{◌≡◌, ◌||◌, ◌++◌, ◌∙◌, ap, map, option_to_list}
use Rattle.std.specs.List.{flat_map, list_any}
use Rattle.hep_control.specs.declared.region.Jump.{Jump}
use Rattle.hep_control.specs.Jumps.{line_to_division, value_by_start, question_by_start, value_by_end, question_by_end}
use Rattle.hep_control.specs.Sweep.{lines_asked}
use Rattle.hep_control.proofs.JumpSweeps.{jumps-told}
use Rattle.hep_control.proofs.labels.jump_lines.Goals as goal

pub returns : goal.returns
returns c = λ test.
    let unit = c.args.labels.now in
    let rs = c.in_ok-regions.regions.items in
    let js = c.in_ok-jumps.jumps.items in
    let late : c.in_ok-late.late.items ≡ map value_by_start rs ++ map question_by_start js = cc (c.in_ok-late.ensures, c.deref.ensures.value, c.deref-2.ensures.value) in
    let early : c.in_ok-early.early.items ≡ map value_by_end rs ++ map question_by_end js = cc (c.in_ok-early.ensures, c.deref-3.ensures.value, c.deref-4.ensures.value) in
    let old = c.new-lines.result.items in
    let one = c.add_met.new.lines.items in
    let two = c.add_met-2.new.lines.items in
    let divisions : c.add_to_division.new.lines.items ≡ two ++ flat_map (λ (j : Jump). option_to_list (line_to_division unit j)) js =
    c.in_ok-add_to_division.ensures ∙ (λ i. two ++ flat_map (λ (j : Jump). option_to_list (line_to_division (c.unit.ensures i) j)) (c.deref-5.ensures.value i)) in
    jumps-told unit rs js c.in_ok-regions.ensures c.in_ok-jumps.ensures test old one two c.add_to_division.new.lines.items c.new-lines.ensures.items
    (c.in_ok-add_met.ensures test ∙ ap (λ es. list_any test old || list_any test (lines_asked es)) late)
    (c.in_ok-add_met-2.ensures test ∙ ap (λ es. list_any test one || list_any test (lines_asked es)) early)
    divisions
