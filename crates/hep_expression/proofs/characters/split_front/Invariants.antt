use Rattle.std.proofs.Common.{◌≡◌, ◌++◌, take, drop}
use Rattle.hep_expression.specs.Reading.{front, rest_after, has}
use Rattle.hep_expression.proofs.characters.split_front.Given as goal

-- what is passed is in the row
abbrev pub invariant-loop-i : goal.invariant-loop-i
invariant-loop-i l = (front (has l.class) l.s ≡ take l.i l.s ++ front (has l.class) (drop l.i l.s)) × (rest_after (has l.class) l.s ≡ rest_after (has l.class) (drop l.i l.s))
