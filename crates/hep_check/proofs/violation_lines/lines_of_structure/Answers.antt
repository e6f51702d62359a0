use Rattle.std.proofs.Common.{◌∙◌, ap, nat_eq, sym}
use Rattle.std.specs.List.{list_any}
use Rattle.hep_conditions.specs.Words.{function_types, structure_violations, loop_variables}
use Rattle.hep_check.specs.AllViolations.{has_line}
use Rattle.hep_check.proofs.violation_lines.lines_of_structure.Goals as goal

pub returns : goal.returns
returns c = λ line.
    let functions = function_types c.args.program.now in
    let variables = c.deref.ensures.value ∙ (c.in_ok-variables.ensures ∙ ap (loop_variables functions) (sym c.requires)) in
    c.in_ok-set.ensures line
    ∙ (ap (list_any (λ k. nat_eq k line)) c.deref-2.ensures.value
    ∙ (c.in_ok-found.ensures functions variables (λ k. nat_eq k line) ∙ ap (λ u. has_line (structure_violations functions u) line) c.requires))
