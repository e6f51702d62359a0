use Rattle.hep_event.proofs.Printed.{record-printed}
use Rattle.hep_event.proofs.line_laws.prints_are_last_records.Goals as goal

pub returns : goal.returns
returns c program t after items lives made next = record-printed program t after items lives made next
