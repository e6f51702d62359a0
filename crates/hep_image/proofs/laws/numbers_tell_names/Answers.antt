use Rattle.hep_image.proofs.Numbers.{number-of-block, number-of-variable}
use Rattle.hep_image.proofs.laws.numbers_tell_names.Goals as goal

pub returns : goal.returns
returns c = record { variable = number-of-variable; block = number-of-block }
