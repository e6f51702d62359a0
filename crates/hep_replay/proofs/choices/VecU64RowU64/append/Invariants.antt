use Rattle.std.proofs.Common.{◌≡◌, ◌++◌, replicate}
use Rattle.hep_replay.proofs.choices.VecU64RowU64.append.Given as goal

abbrev pub invariant-loop : goal.invariant-loop
invariant-loop l = l.self.items ≡ l.fn.self.items ++ replicate l.counter l.item
