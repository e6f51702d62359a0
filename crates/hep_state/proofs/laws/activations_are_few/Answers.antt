use Rattle.std.proofs.Common.{◌≤◌, ◌+◌, length, sym, subst}
use Rattle.hep_state.proofs.Runs.{few, few-processes}
use Rattle.hep_state.proofs.laws.activations_are_few.Goals as goal

pub returns-clause-activations : goal.returns-clause-activations
returns-clause-activations c program cells choices m after = subst (λ n. n ≤ 1 + length choices) (sym after.shows.activations) (few program choices)

pub returns-clause-processes : goal.returns-clause-processes
returns-clause-processes c program cells choices m after = subst (λ n. n ≤ 1 + length choices) (sym after.shows.processes) (few-processes program choices)
