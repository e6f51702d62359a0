use Rattle.std.proofs.Common.{rules}
use Rattle.std.proofs.lemmas.Fn.{filter_same}
use Rattle.hep_warnings.specs.CreatedWithLoopVariable.{goes_on}
use Rattle.hep_warnings.proofs.created_with_loop_variable.leave_at.Goals as goal

pub returns : goal.returns
returns c = filter_same _ (goes_on c.args.label) _ (λ d b g made. search rules) _ _ c.retain.ensures.filtered
