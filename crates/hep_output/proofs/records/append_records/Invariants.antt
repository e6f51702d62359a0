use Rattle.std.proofs.Common.{◌≡◌, ◌++◌, drop}
use Rattle.hep_output.specs.Records.{records_text}
use Rattle.hep_output.proofs.records.append_records.Given as goal

abbrev pub invariant-loop-record : goal.invariant-loop-record
invariant-loop-record l = l.text.items ++ records_text (drop l.record-index l.records) ≡ l.initial.text.items ++ records_text l.records
