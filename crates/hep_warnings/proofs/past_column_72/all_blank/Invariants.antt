use Rattle.std.proofs.Common.{◌≡◌, drop}
use Rattle.std.specs.List.{list_all}
use Rattle.hep_text.specs.Line.{is_blank}
use Rattle.hep_warnings.proofs.past_column_72.all_blank.Given as goal

abbrev pub invariant-loop-byte : goal.invariant-loop-byte
invariant-loop-byte l = list_all is_blank (drop l.byte-index l.columns) ≡ list_all is_blank l.columns
