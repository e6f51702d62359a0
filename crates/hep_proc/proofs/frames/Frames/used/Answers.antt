use Rattle.std.proofs.Common.{arith}
use Rattle.hep_layout.proofs.Memory.{memory-cells}
use Rattle.hep_proc.proofs.frames.Frames.used.Goals as goal

pub returns-clause-used : goal.returns-clause-used
returns-clause-used c f h =
    let all = memory-cells f.program f.state f.layout c.args.self.now.arena.contents c.args.self.now.arena.holes h.memory in
    omega (arith, c.used.ensures.used, all)
