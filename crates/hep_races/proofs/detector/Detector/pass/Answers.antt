use Rattle.std.proofs.Common.{refl}
use Rattle.hep_races.proofs.ObservedMore.{observed-passed}
use Rattle.hep_races.proofs.detector.Detector.pass.Goals as goal

pub returns : goal.returns
returns c = λ n es h. observed-passed n c.args.count es c.args.self.now _ h refl refl refl
