use Rattle.std.proofs.Common.{◌≡◌, ◌++◌, drop, map}
use Rattle.std.specs.List.{flat_map}
use Rattle.hep_names.specs.Lists.{listed}
use Rattle.hep_dump.specs.PendingCalls as words
use Rattle.hep_dump.proofs.pending_calls.wants_of.Given as goal

abbrev pub invariant-loop-reference : goal.invariant-loop-reference
invariant-loop-reference l =
    l.wants.items ++ flat_map (words.wants_listed l.program l.symbols) (map listed (drop l.reference-index l.reference-items))
    ≡ words.wants_of l.program l.symbols l.statement
