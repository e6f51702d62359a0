use Rattle.hep_state.proofs.OpenedStates.{is-entered, opened-shown, unset-opens}
use Rattle.hep_state.proofs.laws.openings_are_shown.Goals as goal

pub returns-clause-opening : goal.returns-clause-opening
returns-clause-opening c = unset-opens

pub returns-clause-entered : goal.returns-clause-entered
returns-clause-entered c program cells key layout arena nodes node laid size keeps there first = is-entered program cells key layout arena nodes node laid size keeps there first

pub returns-clause-shown : goal.returns-clause-shown
returns-clause-shown c program cells key entry rows before after nodes entered given initial units inside entry_is = opened-shown program cells key entry rows before after nodes entered given initial units inside entry_is
