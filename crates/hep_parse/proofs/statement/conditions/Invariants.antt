use Rattle.std.proofs.Common.{◌≡◌, length, ◌-◌}
use Rattle.hep_parse.specs.ReadingStatement.{conditions as conditions_of}
use Rattle.hep_parse.proofs.ConditionLoops.{rest_after}
use Rattle.hep_parse.proofs.statement.conditions.Given as goal

abbrev pub invariant-loop-turn : goal.invariant-loop-turn
invariant-loop-turn l = rest_after l.conditions.items (conditions_of l.fn.context (length l.fn.s - l._turn) l.rest) ≡ conditions_of l.fn.context (length l.fn.s) l.fn.s
