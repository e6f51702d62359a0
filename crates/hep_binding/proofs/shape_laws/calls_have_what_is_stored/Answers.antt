use Rattle.hep_binding.proofs.StoredDummies.{are_stored, call_readable}
use Rattle.hep_binding.proofs.shape_laws.calls_have_what_is_stored.Goals as goal

pub returns : goal.returns
returns c = record {
  stored = λ program s layout contents b scope actuals given cell frameless holds once given_so addressed. are_stored program s layout contents b frameless scope actuals given cell holds once given_so addressed;
  readable = λ program s layout contents holes b scope actuals given cell memory given_so addressed x. call_readable program s layout contents holes memory b scope actuals given cell given_so addressed x;
}
