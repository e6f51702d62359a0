use Rattle.std.proofs.Common.{arith}
use Rattle.std.proofs.lemmas.Grind.{common_steps}
use Rattle.hep_control.proofs.Sets.{any-insert_key}
use Rattle.hep_control.proofs.sweep.line_met.Goals as goal

pub returns-in_ok-insert-in-Value-clause-values : goal.returns-in_ok-insert-in-Value-clause-values
returns-in_ok-insert-in-Value-clause-values c = λ test.
    let more = any-insert_key test c.args.values.now.keys c.in-Value.value in
    grind (arith, common_steps, more, c.in_ok-insert-in-Value.ensures.keys)
