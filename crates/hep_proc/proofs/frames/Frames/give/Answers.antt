use Rattle.hep_proc.specs.Nodes.{shown}
use Rattle.hep_proc.proofs.Slabs.{removed-counts, shown-at}
use Rattle.hep_proc.proofs.frames.Frames.give.Goals as goal

pub give-requires-clause-inside : goal.give-requires-clause-inside
give-requires-clause-inside c = c.requires.inside (shown c.remove-node.result) (shown-at c.args.self.now.nodes c.args.key c.remove-node.result c.remove-node.ensures.value)

pub give-requires-clause-out : goal.give-requires-clause-out
give-requires-clause-out c p = c.requires.out (shown c.remove-node.result) p (shown-at c.args.self.now.nodes c.args.key c.remove-node.result c.remove-node.ensures.value)

pub lose_child-requires : goal.lose_child-requires
lose_child-requires c =
    removed-counts c.args.self.now.nodes c.remove-node.new.self c.args.key c.in-Some.parent c.remove-node.result c.remove-node.ensures.value c.remove-node.ensures.updates c.in-Some.is c.requires.counted
