use Rattle.std.proofs.Common.{ap, ◌∙◌}
use Rattle.hep_blocked.specs.Numbers.{numbers_from}
use Rattle.hep_arena.specs.Trees.{leaves_of}
use Rattle.hep_blocked.proofs.Listed.{numbers-behind}
use Rattle.hep_blocked.proofs.ready_set.ReadySet.reserve.Goals as goal

pub returns-clause-ready : goal.returns-clause-ready
returns-clause-ready c =
    let e = c.reserve.ensures.leaves in
    rw (← c.self.view_is) (ap (numbers_from 1) e.1 ∙ numbers-behind 1 e.0 (leaves_of c.self.inside.tree))
