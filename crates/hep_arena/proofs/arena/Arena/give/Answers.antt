use Rattle.hep_arena.proofs.Arenas.{arena-given, block-reported, given-used}
use Rattle.hep_arena.proofs.arena.Arena.give.Goals as goal

pub give-requires-clause-out : goal.give-requires-clause-out
give-requires-clause-out c =
    let i = c.self.inside in let b = c.args.block in
    (block-reported i.region.slots i.holes b.at b.len c.at-at.result c.len-len.result c.args.self.now c.self.view_is c.at-at.ensures c.len-len.ensures.len c.requires.inside c.requires.out).1

pub overflow_sub-self : goal.overflow_sub-self
overflow_sub-self c =
    let i = c.self.inside in let b = c.args.block in
    let d = block-reported i.region.slots i.holes b.at b.len c.at-at.result c.len-len.result c.args.self.now c.self.view_is c.at-at.ensures c.len-len.ensures.len c.requires.inside c.requires.out in
    given-used i.region.slots i.holes i.used c.at-at.result c.len-len.result c.self.invariant.0 c.len-len.ensures.some d.0 d.1

pub invariant_of-self : goal.invariant_of-self
invariant_of-self c =
    let i = c.self.inside in let b = c.args.block in
    let d = block-reported i.region.slots i.holes b.at b.len c.at-at.result c.len-len.result c.args.self.now c.self.view_is c.at-at.ensures c.len-len.ensures.len c.requires.inside c.requires.out in (
      arena-given i.region.slots i.holes i.used c.at-at.result c.len-len.result c.self.invariant.0 c.len-len.ensures.some d.0 d.1 c.give.new.self c.give.ensures.holes c.give.ensures.limited c.give.ensures.cells,
      c.self.invariant.1,
      c.self.invariant.2,
      c.self.invariant.3,
    )
