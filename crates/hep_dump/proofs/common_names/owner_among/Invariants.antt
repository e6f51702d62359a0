use Rattle.std.proofs.Common.{◌≡◌, drop}
use Rattle.hep_dump.specs.CommonNames.{owner_among}
use Rattle.hep_dump.proofs.common_names.owner_among.Given as goal

abbrev pub invariant-loop-name : goal.invariant-loop-name
invariant-loop-name l = owner_among l.symbols (drop l.name-index l.names) l.left ≡ owner_among l.symbols l.names l.cell
