use Rattle.std.proofs.Common.{◌∙◌, ap}
use Rattle.hep_formats.specs.StateObjects.{state_objects}
use Rattle.hep_inspection.proofs.inspection.state_objects_told.Goals as goal

pub returns-in-Ok-clause-told : goal.returns-in-Ok-clause-told
returns-in-Ok-clause-told c = c.in-Ok.ensures ∙ ap state_objects (c.deref.ensures.value ∙ c.in_ok-state.ensures.told)
