use Rattle.std.proofs.Common.{length, subst}
use Rattle.hep_arena.specs.Holes.{AreHoles}
use Rattle.hep_arena.specs.Space.{Space}
use Rattle.hep_arena.proofs.Arenas.{arena-apart}
use Rattle.hep_arena.proofs.arena.Arena.used.Goals as goal

pub returns-clause-holes : goal.returns-clause-holes
returns-clause-holes c =
    let i = c.self.inside in
    subst (λ (a : Space). AreHoles 0 (length a.contents) a.holes) c.self.view_is (arena-apart i.region.slots i.holes i.used c.self.invariant.0)
