use Rattle.std.proofs.Common.{◌∙◌, ap, nat_eq}
use Rattle.std.specs.List.{list_any}
use Rattle.hep_check.proofs.violation_lines.lines_of_jumps.Goals as goal

pub returns : goal.returns
returns c = λ line.
    c.in_ok-set.ensures line ∙ (ap (list_any (λ k. nat_eq k line)) c.deref.ensures.value ∙ c.in_ok-found.ensures (λ k. nat_eq k line))
