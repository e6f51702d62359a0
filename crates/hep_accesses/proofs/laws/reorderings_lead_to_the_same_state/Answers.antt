use Rattle.std.proofs.Common.{◌≡◌, true}
use Rattle.hep_accesses.proofs.Reordered.{reordered}
use Rattle.hep_accesses.proofs.laws.reorderings_lead_to_the_same_state.Goals as goal

pub returns : goal.returns
returns c step keeps xs ys s t commute r h = reordered step (λ x y. keeps x y ≡ true) commute s r h
