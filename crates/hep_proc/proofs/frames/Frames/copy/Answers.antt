use Rattle.hep_proc.proofs.Slabs.{nodes-cloned}
use Rattle.hep_proc.proofs.frames.Frames.copy.Goals as goal

pub returns-clause-nodes : goal.returns-clause-nodes
returns-clause-nodes c = nodes-cloned c.args.self.now.nodes c.in_ok-nodes.nodes c.in_ok-nodes.ensures.cases
