use Rattle.std.proofs.Common.{◌≡◌, ◌++◌, drop}
use Rattle.std.specs.List.{flat_map}
use Rattle.hep_run.specs.Notes.{also_of}
use Rattle.hep_run.proofs.front_end.append_further.Given as goal

abbrev pub invariant-loop-violation : goal.invariant-loop-violation
invariant-loop-violation l =
    l.text.items ++ flat_map (also_of l.source l.statements) (drop l.violation-index l.further)
    ≡ l.initial.text.items ++ flat_map (also_of l.source l.statements) l.further
