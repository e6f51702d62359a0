use Rattle.std.proofs.Common.{arith}
use Rattle.std.proofs.lemmas.Grind.{common_steps}
use Rattle.hep_control.proofs.Sets.{any-range, any-empty}
use Rattle.hep_control.proofs.sweep.has_within.Goals as goal

pub returns-then-low-high : goal.returns-then-low-high
returns-then-low-high c =
    let shown = any-range c.args.low c.args.high c.args.values.now.keys c.range.result (c.range.ensures.between tt) in
    grind (arith, common_steps, shown)

pub returns-else-low-high : goal.returns-else-low-high
returns-else-low-high c =
    let empty = any-empty c.args.low c.args.high c.args.values.now.keys c.if-low-high.false in
    grind (arith, common_steps, empty)
