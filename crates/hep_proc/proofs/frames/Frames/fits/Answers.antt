use Rattle.std.proofs.Common.{◌∙◌}
use Rattle.hep_proc.specs.Nodes.{nodes_of}
use Rattle.hep_proc.proofs.UnchangedFrames.{keeps-fits, unused-fits}
use Rattle.hep_proc.proofs.frames.Frames.fits.Goals as goal

pub returns-clause-opening : goal.returns-clause-opening
returns-clause-opening c program h size = c.fits.ensures ∙ unused-fits program c.args.self.now.arena (nodes_of c.args.self.now.nodes) c.args.cells h size

pub returns-clause-gap : goal.returns-clause-gap
returns-clause-gap c f h one = c.fits.ensures ∙ keeps-fits f c.args.self.now.arena (nodes_of c.args.self.now.nodes) c.args.cells h one
