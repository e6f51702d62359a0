use Rattle.hep_lower.proofs.FewOperands.{two_for_each, many_parts, deep_is_long}
use Rattle.hep_lower.proofs.laws.limits_are_wide.Goals as goal

pub returns : goal.returns
returns c = record { instructions = two_for_each; code = many_parts; depth = deep_is_long }
