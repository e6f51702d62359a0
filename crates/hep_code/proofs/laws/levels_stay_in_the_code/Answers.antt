use Rattle.hep_code.proofs.ProcessesInCode.{moved_levels, filled_levels, still_levels, returned, answered, called, created, resumed}
use Rattle.hep_code.proofs.laws.levels_stay_in_the_code.Goals as goal

pub returns : goal.returns
returns c = record {
  moved = λ program addresses s f fs level after levels counts index h moves. moved_levels program addresses s f fs level after levels counts index h moves;
  filled = λ program addresses s f fs level levels o r v h is. filled_levels program addresses s f fs level levels o r v h is;
  added = λ program addresses s t added fs levels more h. still_levels program addresses s t added more fs levels h;
  returned = λ program addresses s u fs levels none h. returned program addresses s u fs levels none h;
  answered = λ program addresses s u x v f fs level levels some h. answered program addresses s u x v f fs level levels some h;
  called = λ program addresses top u b counts f fs operands index none awaits h. called program addresses top u b counts f fs operands index none awaits h;
  resumed = λ program addresses s f fs level after levels counts index none h moves. resumed program addresses s f fs level after levels counts index none h moves;
  created = λ program addresses top u b counts none. created program addresses top u b counts none;
}
