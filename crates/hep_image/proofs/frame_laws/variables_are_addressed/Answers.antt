use Rattle.hep_image.specs.Addressing.{cells_in}
use Rattle.hep_image.proofs.Variables.{dummy-addressed, own-addressed, any-addressed}
use Rattle.hep_image.proofs.frame_laws.variables_are_addressed.Goals as goal

pub returns : goal.returns
returns c = record {
  own = λ program s layout contents a f x subscripts framed. own-addressed program s layout (cells_in contents) a f framed x subscripts;
  dummy = λ program s layout contents a k base f x subscripts describes framed bound e. dummy-addressed program s layout contents a f describes framed x k e base subscripts bound;
  any = any-addressed;
}
