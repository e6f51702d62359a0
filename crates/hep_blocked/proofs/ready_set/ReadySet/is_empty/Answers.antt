use Rattle.hep_arena.specs.Trees.{leaves_of}
use Rattle.hep_blocked.proofs.Listed.{empty-told}
use Rattle.hep_blocked.proofs.ready_set.ReadySet.is_empty.Goals as goal

pub returns : goal.returns
returns c = rw (← c.self.view_is) (empty-told 1 (leaves_of c.self.inside.tree) c.has.result c.has.ensures.some c.has.ensures.none)
