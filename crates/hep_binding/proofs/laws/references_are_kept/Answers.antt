use Rattle.std.proofs.Common.{sym, ◌∙◌}
use Rattle.hep_machine.specs.Words.{dummies_of, unit_at}
use Rattle.hep_binding.specs.Calling.{state_made_by}
use Rattle.hep_binding.proofs.BegunActivations.{activation-is, given-before, kept-entered}
use Rattle.hep_binding.proofs.Calls.{made-begun, made-stacks}
use Rattle.hep_binding.proofs.laws.references_are_kept.Goals as goal

pub returns : goal.returns
returns c creates call layout first cells given h passed laid before a on =
    let t = state_made_by creates call in
    let more = made-begun creates call in
    kept-entered call t layout first cells laid more (activation-is call t more) before (dummies_of (unit_at call.program call.unit)) given (given-before call t more h layout given passed) a (sym (made-stacks call h.lives creates a) ∙ on)
