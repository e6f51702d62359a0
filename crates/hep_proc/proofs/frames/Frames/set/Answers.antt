use Rattle.hep_proc.specs.Nodes.{nodes_of}
use Rattle.hep_proc.proofs.UnchangedFrames.{keeps-described, keeps-stored}
use Rattle.hep_proc.proofs.frames.Frames.set.Goals as goal

pub returns-clause-unit : goal.returns-clause-unit
returns-clause-unit c f t place h =
    keeps-stored f c.args.self.now.arena c.set.new.self (nodes_of c.args.self.now.nodes) c.args.at c.args.slot h c.set.ensures.contents c.set.ensures.holes t place

pub returns-clause-descriptor : goal.returns-clause-descriptor
returns-clause-descriptor c f after a d h =
    keeps-described f c.args.self.now.arena c.set.new.self (nodes_of c.args.self.now.nodes) c.args.at c.args.slot h c.set.ensures.contents c.set.ensures.holes after a d
