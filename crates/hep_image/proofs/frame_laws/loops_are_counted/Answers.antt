use Rattle.hep_image.proofs.CountedLoops.{counted, loop-at}
use Rattle.hep_image.proofs.frame_laws.loops_are_counted.Goals as goal

pub returns : goal.returns
returns c = record {
  counts = λ program s layout contents a d f level h framed there. counted program s layout contents a f level h framed there d;
  loops = λ program s layout contents a f level h framed there. counted program s layout contents a f level h framed there;
  places = loop-at;
}
