use Rattle.hep_trace.proofs.LoopVariables.{looked-for, some-site, value-after}
use Rattle.hep_trace.proofs.turn_line.value_after.Goals as goal

pub site_of-requires : goal.site_of-requires
site_of-requires c =
    let e = c.in-EndLoop in
    looked-for c.requires.0 c.requires.1 c.args.before.now c.args.core.now.core c.requires.3 e.variable e.cells e.inside e.behind e.is c.machine-machine.result.now c.machine-machine.ensures.after
    c.image.result.now c.args.p c.image.ensures c.requires.2

pub value_at-requires : goal.value_at-requires
value_at-requires c =
    let e = c.in-EndLoop in
    some-site c.requires.0 c.requires.1 c.args.before.now c.args.core.now.core c.requires.3 e.variable e.cells e.inside e.behind e.is c.machine-machine.result.now c.machine-machine.ensures.after
    c.site_of.result c.image.result.now c.args.p c.image.ensures c.requires.2 c.site_of.ensures

pub returns-in-EndLoop : goal.returns-in-EndLoop
returns-in-EndLoop c old t is h =
    let e = c.in-EndLoop in
    value-after old t c.args.before.now c.args.core.now.core h e.variable e.cells e.inside e.behind e.is c.machine-machine.result.now c.machine-machine.ensures.after
    c.site_of.result c.image.result.now c.args.p c.value_at.result c.image.ensures is c.site_of.ensures c.value_at.ensures
