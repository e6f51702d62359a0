use Rattle.std.proofs.Common.{◌≡◌, length}
use Rattle.hep_conditions.specs.Words.{function_types}
use Rattle.hep_types.proofs.CallPasses.{fit_from}
use Rattle.hep_types.proofs.argument_association.fit_dummies.Given as goal

abbrev pub invariant-loop-dummy : goal.invariant-loop-dummy
invariant-loop-dummy l = fit_from (function_types l.program) l.called l.symbols l.dummies l.actuals (length l.yielded) ≡ fit_from (function_types l.program) l.called l.symbols l.dummies l.actuals 0
