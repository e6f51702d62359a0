use Rattle.std.proofs.Common.{arith}
use Rattle.std.proofs.lemmas.Grind.{common_steps}
use Rattle.hep_lower.specs.Names.{names_in}
use Rattle.hep_code.proofs.ListLengths.{count_length}
use Rattle.hep_lower.proofs.CodeLengths.{passes_map}
use Rattle.hep_lower.proofs.expressions.emit_reference.Goals as goal

pub returns-clause-code : goal.returns-clause-code
returns-clause-code c = rw (passes_map (names_in c.args.names.now) c.args.list.now, count_length c.args.list.now) (grind (arith, common_steps))
