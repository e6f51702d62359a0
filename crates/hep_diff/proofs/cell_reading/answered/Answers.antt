use Rattle.std.proofs.Common.{◌∙◌, sym, ap}
use Rattle.hep_machine.specs.Words.{location_of_name, next_of, run, scope_of, unit_at, unit_of}
use Rattle.hep_event.proofs.TopPositions.{settled-there, settled-turn}
use Rattle.hep_event.specs.NamedVariables.{named_by}
use Rattle.hep_event.proofs.FoundVariables.{levels-of}
use Rattle.hep_diff.specs.ProcessSteps.{found_at, found_by}
use Rattle.hep_diff.proofs.CellReadings.{asked-here}
use Rattle.hep_diff.proofs.SiteValues.{asked-variable}
use Rattle.hep_diff.proofs.cell_reading.answered.Goals as goal

pub site_of-requires : goal.site_of-requires
site_of-requires c =
    let program = c.args.image.now in
    let m = c.args.machine.now in
    let coming = c.args.coming.now in
    let is = c.requires.coming in
    let cells = c.requires.lives.0 in
    let choices = c.requires.lives.1 in
    let top = c.requires.lives.2 in
    let lives = c.requires.lives.3 in
    let unit = unit_at program (unit_of (run program choices) top.0.activation) in
    let levels = levels-of lives in
    let accepted = c.is_runnable.ensures.accepted in
    let main = c.is_runnable.ensures.main in
    let runs =
    c.tops_are_running.ensures.running (settled-turn m lives.after lives.running levels coming (is levels)) accepted main (settled-there m lives.after lives.running levels coming (is levels)) in
    let q = asked-variable program unit (next_of unit top.0.work) coming.operation coming.operands.items c.args.function c.in-Some.variable c.in-Some.subscripts.now
    (asked-here m lives coming is runs) c.requires.asked
    (λ x named. c.operations_name_variables.ensures.variables program cells choices m c.args.p top coming x accepted main lives is named)
    (c.in-Some.ensures ∙ ap (named_by coming.operation) c.deref.ensures.value) in
    (cells, choices, top, lives, q.0.0.0, q.3)

pub found_at-requires : goal.found_at-requires
found_at-requires c =
    let program = c.args.image.now in
    let m = c.args.machine.now in
    let coming = c.args.coming.now in
    let is = c.requires.coming in
    let cells = c.requires.lives.0 in
    let choices = c.requires.lives.1 in
    let top = c.requires.lives.2 in
    let lives = c.requires.lives.3 in
    let unit = unit_at program (unit_of (run program choices) top.0.activation) in
    let levels = levels-of lives in
    let accepted = c.is_runnable.ensures.accepted in
    let main = c.is_runnable.ensures.main in
    let runs =
    c.tops_are_running.ensures.running (settled-turn m lives.after lives.running levels coming (is levels)) accepted main (settled-there m lives.after lives.running levels coming (is levels)) in
    let q = asked-variable program unit (next_of unit top.0.work) coming.operation coming.operands.items c.args.function c.in-Some.variable c.in-Some.subscripts.now
    (asked-here m lives coming is runs) c.requires.asked
    (λ x named. c.operations_name_variables.ensures.variables program cells choices m c.args.p top coming x accepted main lives is named)
    (c.in-Some.ensures ∙ ap (named_by coming.operation) c.deref.ensures.value) in
    let site = c.site_of.ensures cells choices top lives q.0.0.0 q.3 in
    (program, cells, choices, location_of_name (scope_of program (run program choices) top.0.activation) q.0.0.0 c.in-Some.subscripts.now, record { after = lives.after; site_is = site })

pub returns-in-Some : goal.returns-in-Some
returns-in-Some c cells choices top lives =
    let program = c.args.image.now in
    let m = c.args.machine.now in
    let coming = c.args.coming.now in
    let is = c.requires.coming in
    let unit = unit_at program (unit_of (run program choices) top.0.activation) in
    let levels = levels-of lives in
    let accepted = c.is_runnable.ensures.accepted in
    let main = c.is_runnable.ensures.main in
    let runs =
    c.tops_are_running.ensures.running (settled-turn m lives.after lives.running levels coming (is levels)) accepted main (settled-there m lives.after lives.running levels coming (is levels)) in
    let q = asked-variable program unit (next_of unit top.0.work) coming.operation coming.operands.items c.args.function c.in-Some.variable c.in-Some.subscripts.now
    (asked-here m lives coming is runs) c.requires.asked
    (λ x named. c.operations_name_variables.ensures.variables program cells choices m c.args.p top coming x accepted main lives is named)
    (c.in-Some.ensures ∙ ap (named_by coming.operation) c.deref.ensures.value) in
    let s = run program choices in
    let scope = scope_of program s top.0.activation in
    let site = c.site_of.ensures cells choices top lives q.0.0.0 q.3 in
    c.found_at.ensures program cells choices (location_of_name scope q.0.0.0 c.in-Some.subscripts.now) (record { after = lives.after; site_is = site })
    ∙ (λ i. found_at program s (sym q.2 i) (location_of_name scope q.0.0.0 (q.4 i)))
    ∙ sym (ap (found_by program s scope) q.1)
