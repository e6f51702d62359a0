use Rattle.std.proofs.Common.{◌∙◌, ap, nat_eq}
use Rattle.std.specs.List.{list_any}
use Rattle.hep_types.specs.declared.all_ambiguities.Ambiguity.{Ambiguity}
use Rattle.hep_check.proofs.violation_lines.lines_of_names.Goals as goal

pub returns : goal.returns
returns c = λ line.
    c.in_ok-set.ensures line ∙ (ap (list_any (λ (a : Ambiguity). nat_eq a.line line)) c.deref.ensures.value ∙ c.in_ok-found.ensures.lines (λ k. nat_eq k line))
