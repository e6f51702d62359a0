use Rattle.std.proofs.Common.{◌≡◌, ◌<◌, ℕ, false, IfOk, Result, Ok, Err, refl}
use Rattle.hep_core.specs.SilentChoices.{IsAtRest}
use Rattle.hep_core.specs.CoreValues.{CoreValue}
use Rattle.hep_core.proofs.run_core.Core.move_alone.Goals as goal

-- where it isn't in rounds
alone : {E : Type 0} (most p : ℕ) (core : CoreValue) (r : Result ℕ E) → IfOk r (λ n. false ≡ false → n < most → IsAtRest core p) → IfOk r (λ n. n < most → IsAtRest core p)
alone most p core (Ok n) rests = rests refl
alone most p core (Err e) rests = tt

pub returns-clause-all : goal.returns-clause-all
returns-clause-all c = alone c.args.most c.args.p c.move_on.new.self.core c.move_on.result c.move_on.ensures.all

pub returns-clause-others : goal.returns-clause-others
returns-clause-others c = c.move_on.ensures.others refl
