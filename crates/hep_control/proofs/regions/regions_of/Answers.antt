use Rattle.std.proofs.Common.{map, arith}
use Rattle.std.proofs.lemmas.Grind.{common_steps}
use Rattle.hep_control.specs.Ranges.{do_range}
use Rattle.hep_control.proofs.JumpSweeps.{regions-any}
use Rattle.hep_control.proofs.regions.regions_of.Goals as goal

pub returns : goal.returns
returns c = λ test.
    let any = regions-any test c.args.labels.now (map do_range c.in_ok-ranges.ranges.items) c.closed.result.now c.unclosed.result.now in
    grind (arith, common_steps, any)
