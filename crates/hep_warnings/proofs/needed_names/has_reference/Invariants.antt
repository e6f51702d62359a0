use Rattle.std.proofs.Common.{◌≡◌, drop, map}
use Rattle.std.specs.List.{list_any}
use Rattle.hep_names.specs.Lists.{listed}
use Rattle.hep_warnings.specs.SingleOccurrences.{refers}
use Rattle.hep_warnings.proofs.needed_names.has_reference.Given as goal

abbrev pub invariant-loop-reference : goal.invariant-loop-reference
invariant-loop-reference l =
    list_any (refers l.symbols) (map listed (drop l.reference-index l.references)) ≡ list_any (refers l.symbols) (map listed l.references)
