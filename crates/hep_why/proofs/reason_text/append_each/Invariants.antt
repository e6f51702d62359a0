use Rattle.std.proofs.Common.{◌≡◌, ◌++◌, drop}
use Rattle.std.specs.List.{flat_map}
use Rattle.hep_why.specs.Lines.{reason_text}
use Rattle.hep_why.proofs.reason_text.append_each.Given as goal

abbrev pub invariant-loop-index : goal.invariant-loop-index
invariant-loop-index l =
    l.text.items ++ flat_map (reason_text l.image l.reasons) (drop l.index l.reasons)
    ≡ l.initial.text.items ++ flat_map (reason_text l.image l.reasons) l.reasons
