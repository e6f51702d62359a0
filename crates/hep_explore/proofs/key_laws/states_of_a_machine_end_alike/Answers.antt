use Rattle.hep_explore.proofs.AlikeEndings.{ends-alike}
use Rattle.hep_explore.proofs.key_laws.states_of_a_machine_end_alike.Goals as goal

pub returns : goal.returns
returns c program cells before turns m accepted main h k =
    ends-alike program m cells before turns h k (c.views_are_of_states.ensures program cells before m accepted main h) (
    c.views_are_of_states.ensures program cells turns m accepted main k)
