use Rattle.std.proofs.Common.{◌≡◌, ◌-◌, length}
use Rattle.hep_parse.specs.ReadingProgram.{left_out}
use Rattle.hep_parse.proofs.statement.left_out.Given as goal

abbrev pub invariant-loop-turn : goal.invariant-loop-turn
invariant-loop-turn l = left_out l.fn.context (length l.fn.s - l._turn) l.rest ≡ left_out l.fn.context (length l.fn.s) l.fn.s
