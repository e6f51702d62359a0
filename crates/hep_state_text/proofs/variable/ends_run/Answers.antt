use Rattle.std.proofs.Common.{◌+◌, length, is_some, ap, sym, ◌∙◌}
use Rattle.hep_state_text.proofs.Turns.{ends-last, past}
use Rattle.hep_state_text.proofs.variable.ends_run.Goals as goal

pub returns-in-None : goal.returns-in-None
returns-in-None c =
    sym (ends-last c.args.slots.now c.args.index c.requires (past (c.args.index + 1) (length c.args.slots.now) (sym c.get.ensures.lookup.0 ∙ ap is_some c.in-None.is)))
