use Rattle.hep_accesses.proofs.Orders.{before-earlier, before-transitive}
use Rattle.hep_accesses.proofs.laws.happens_before_is_an_order.Goals as goal

pub returns : goal.returns
returns c = record { earlier = λ es i k b. before-earlier b; transitive = λ es i j k a b. before-transitive a b }
