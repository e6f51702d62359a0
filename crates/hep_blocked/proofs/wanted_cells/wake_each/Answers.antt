use Rattle.std.proofs.Common.{arith}
use Rattle.hep_blocked.proofs.QueueAdding.{among-at}
use Rattle.hep_blocked.proofs.wanted_cells.wake_each.Goals as goal

pub overflow_sub-p : goal.overflow_sub-p
overflow_sub-p c = (c.requires.known _ (among-at c.args.processes.now c.loop-p.p-index c.loop-p-test.true)).0

pub index_mut-requires : goal.index_mut-requires
index_mut-requires c = omega (arith, c.requires.known _ (among-at c.args.processes.now c.loop-p.p-index c.loop-p-test.true))

pub add-requires-clause-some : goal.add-requires-clause-some
add-requires-clause-some c = (c.requires.known _ (among-at c.args.processes.now c.loop-p.p-index c.loop-p-test.true)).0

pub add-requires-clause-room : goal.add-requires-clause-room
add-requires-clause-room c = omega (arith, c.requires.known _ (among-at c.args.processes.now c.loop-p.p-index c.loop-p-test.true))
