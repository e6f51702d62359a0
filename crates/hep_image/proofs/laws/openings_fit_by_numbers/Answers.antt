use Rattle.hep_image.proofs.Openings.{frame-of-main, layout-by-numbers}
use Rattle.hep_image.proofs.laws.openings_fit_by_numbers.Goals as goal

pub returns : goal.returns
returns c = record { layout = layout-by-numbers; frame = frame-of-main }
