use Rattle.std.proofs.Common.{◌≡◌, ◌++◌, drop}
use Rattle.std.specs.List.{flat_map}
use Rattle.hep_check.specs.Listing.{unit_line}
use Rattle.hep_check.proofs.listing.append_units.Given as goal

abbrev pub invariant-loop-number : goal.invariant-loop-number
invariant-loop-number l = l.text.items ++ flat_map unit_line (drop l.number l.checked) ≡ l.initial.text.items ++ flat_map unit_line l.checked
