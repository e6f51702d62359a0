use Rattle.std.proofs.Common.{◌∙◌, ap}
use Rattle.hep_formats.specs.WhyObjects.{why_objects}
use Rattle.hep_inspection.proofs.inspection.why_objects_told.Goals as goal

pub returns-in-Ok-clause-told : goal.returns-in-Ok-clause-told
returns-in-Ok-clause-told c = c.in-Ok.ensures ∙ ap why_objects (c.deref.ensures.value ∙ c.in_ok-why.ensures.told)
