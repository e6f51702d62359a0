use Rattle.hep_machine.specs.Words.{run}
use Rattle.hep_blocked.proofs.HeldUnits.{need-held}
use Rattle.hep_blocked.proofs.need_laws.needed_units_are_held.Goals as goal

pub returns : goal.returns
returns c program choices p b w =
    need-held program (run program choices) p b w (c.held_by_stacks_and_children.ensures program choices) (λ a held k above x i.
    c.references_lead_upwards.ensures.held program choices a k above x i held)
