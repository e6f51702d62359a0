use Rattle.hep_layout.proofs.Telling.{tells-bounds, tells-first, tells-loop, tells-rest, tells-value}
use Rattle.hep_layout.proofs.laws.descriptors_tell.Goals as goal

pub returns : goal.returns
returns c = record {
  start = λ program s layout contents a f x k base h framed. tells-first program s layout contents a f h framed x k base;
  rest = λ program s layout contents a f x k h framed. tells-rest program s layout contents a f h framed x k;
  value = λ program s layout contents a f x k h framed. tells-value program s layout contents a f h framed x k;
  bounds = λ program s layout contents a f x k i slot h framed. tells-bounds program s layout contents a f h framed x k i slot;
  iteration = λ program s layout contents a f d i statement level slot h framed. tells-loop program s layout contents a f h framed d i statement level slot;
}
