use Rattle.hep_image.proofs.FrameBounds.{arrays-within, common-within, few-dimensions, local-within, loop-within, variable-within}
use Rattle.hep_image.proofs.frame_laws.variables_lie_in_frames.Goals as goal

pub returns : goal.returns
returns c = record {
  variable = λ program unit x placed. variable-within program unit placed x;
  array = λ program unit i placed. arrays-within program unit placed i;
  dimensions = few-dimensions;
  local = local-within;
  common = common-within;
  iteration = loop-within;
}
