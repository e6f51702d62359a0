use Rattle.hep_explore.specs.Pure.{is_pure}
use Rattle.hep_explore.proofs.Closed.{ends_among_up_to}
use Rattle.hep_explore.proofs.Pure.{pure_are_independent}
use Rattle.hep_explore.proofs.laws.endings_are_those_up_to_pure_steps.Goals as goal

pub returns : goal.returns
returns c program states closed = ends_among_up_to program (is_pure program) states (pure_are_independent program) closed
