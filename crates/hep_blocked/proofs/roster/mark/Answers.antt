use Rattle.std.proofs.Common.{◌&&◌, ◌||◌, ◌∙◌, ap, nat_eq, sym}
use Rattle.hep_machine.specs.Words.{is_number_among}
use Rattle.hep_source.proofs.Tests.{and-true}
use Rattle.hep_blocked.proofs.QueueAdding.{among-one}
use Rattle.hep_blocked.proofs.roster.mark.Goals as goal

pub returns-then-is_ready-clause-ready : goal.returns-then-is_ready-clause-ready
returns-then-is_ready-clause-ready c k =
    let p = c.args.place in
    let xs = c.args.ready.now.ready in
    ap (is_number_among k) c.add.ensures.ready
    ∙ (among-one k p xs
    ∙ ap (λ b. b || is_number_among k xs) (sym (ap (λ b. nat_eq k p && b) c.if-is_ready.true ∙ and-true (nat_eq k p))))
