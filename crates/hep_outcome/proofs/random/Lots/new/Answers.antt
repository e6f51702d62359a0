use Rattle.rand_pcg.specs.Lcg.{state_after}
use Rattle.hep_outcome.proofs.random.Lots.new.Goals as goal

pub returns : goal.returns
unfolding state_after
returns c = λ i. record { stay = c.stay_of.ensures.stay i; generator = c.new.ensures i }
