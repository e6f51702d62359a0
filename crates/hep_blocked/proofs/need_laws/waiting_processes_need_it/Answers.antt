use Rattle.std.proofs.Common.{sym, ◌∙◌}
use Rattle.hep_blocked.specs.Needs.{need_of}
use Rattle.hep_blocked.proofs.NeededCells.{unmet-needed}
use Rattle.hep_blocked.proofs.Waiting.{waits-unmet}
use Rattle.hep_blocked.proofs.need_laws.waiting_processes_need_it.Goals as goal

pub returns : goal.returns
returns c program p s w waits = unmet-needed (need_of program p s) s.store w (sym (waits-unmet program p s) ∙ waits)
