use Rattle.hep_accepted_laws.proofs.NameMeanings.{units_apart, units_and_blocks_apart, called_by_name, referred_by_name}
use Rattle.hep_accepted_laws.proofs.names.units_have_names_of_their_own.Goals as goal

pub returns : goal.returns
returns c = record { apart = units_apart; blocks = units_and_blocks_apart; called = called_by_name; referred = referred_by_name }
