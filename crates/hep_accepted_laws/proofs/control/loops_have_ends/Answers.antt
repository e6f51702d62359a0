use Rattle.hep_accepted_laws.proofs.Nested.{loop_terminal, loop_variable}
use Rattle.hep_accepted_laws.proofs.control.loops_have_ends.Goals as goal

pub returns : goal.returns
returns c = record { terminal = loop_terminal; variable = loop_variable }
