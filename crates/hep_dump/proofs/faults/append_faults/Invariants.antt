use Rattle.std.proofs.Common.{◌≡◌, ◌++◌, drop}
use Rattle.hep_image.specs.Names.{names_in_order}
use Rattle.hep_dump.specs.Faults.{faults_text}
use Rattle.hep_dump.proofs.faults.append_faults.Given as goal

abbrev pub invariant-loop-fault : goal.invariant-loop-fault
invariant-loop-fault l = l.text.items ++ faults_text (names_in_order l.image) (drop l.fault-index l.faults) ≡ l.initial.text.items ++ faults_text (names_in_order l.image) l.faults
