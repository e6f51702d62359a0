use Rattle.std.proofs.Common.{◌≡◌, ◌++◌, drop}
use Rattle.std.specs.List.{flat_map}
use Rattle.hep_warnings.specs.CreatedWithLoopVariable.{actual_warnings}
use Rattle.hep_warnings.proofs.created_with_loop_variable.add_actuals.Given as goal

abbrev pub invariant-loop-actual : goal.invariant-loop-actual
invariant-loop-actual l =
    l.found.items ++ flat_map (actual_warnings l.around l.site.line l.site.subroutine) (drop l.actual-index l.actuals)
    ≡ l.initial.found.items ++ flat_map (actual_warnings l.around l.site.line l.site.subroutine) l.actuals
