use Rattle.std.proofs.Common.{inr, ◌∙◌, rules}
use Rattle.std.proofs.lemmas.Fn.{filter_same}
use Rattle.hep_proc.specs.Stacks.{is_left}
use Rattle.hep_state.proofs.process_places.make_room.Goals as goal

pub returns-then-left-all-clause-left : goal.returns-then-left-all-clause-left
returns-then-left-all-clause-left c = inr (filter_same _ is_left _ (λ x b f' called. search rules) _ _ c.retain.ensures.filtered)

pub returns-clause-left : goal.returns-clause-left
returns-clause-left c = inr (c.reserve.ensures.items ∙ filter_same _ is_left _ (λ x b f' called. search rules) _ _ c.retain.ensures.filtered)
