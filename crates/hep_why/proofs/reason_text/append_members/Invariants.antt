use Rattle.std.proofs.Common.{◌≡◌, ◌++◌, drop, map}
use Rattle.std.specs.List.{flat_map}
use Rattle.hep_why.specs.WaitCycles.{process_at}
use Rattle.hep_why.specs.Lines.{member_text}
use Rattle.hep_why.proofs.reason_text.append_members.Given as goal

abbrev pub invariant-loop-index : goal.invariant-loop-index
invariant-loop-index l =
    l.text.items ++ flat_map member_text (map (process_at l.reasons) (drop l.index-index l.indexes))
    ≡ l.initial.text.items ++ flat_map member_text (map (process_at l.reasons) l.indexes)
