use Rattle.std.proofs.Common.{◌++◌, ap, ◌∙◌}
use Rattle.std.proofs.lemmas.Result.{on_ok_weaker}
use Rattle.hep_event.specs.LineTexts as lines
use Rattle.hep_trace.proofs.Numbers.{woken-are}
use Rattle.hep_trace.proofs.woken_processes.append_woken_of.Goals as goal

pub returns : goal.returns
returns c =
    on_ok_weaker c.append_woken.result (λ told old is.
    told ∙ ap (λ ns. c.args.text.now.items ++ lines.woken_text ns) (c.deref.ensures.value ∙ c.in_ok-awake.ensures ∙ woken-are c.args.p old c.args.core.now.core c.args.waiting.now is)) c.append_woken.ensures
