use Rattle.std.proofs.Common.{◌∙◌, rules, tests}
use Rattle.std.specs.Option.{is_none}
use Rattle.std.proofs.lemmas.Iterator.{YieldsList-from_slice}
use Rattle.std.proofs.lemmas.Iterator.Search.{any_from_yields_List}
use Rattle.hep_shape.proofs.Counts.{some_open}
use Rattle.hep_shape.proofs.shape.is_open.Goals as goal

pub returns : goal.returns
returns c = any_from_yields_List (λ b. is_none b.upper) _ _ _ c.any.ensures.ran (YieldsList-from_slice c.args.bounds.now cc) (λ x b q k. search (rules, tests)) ∙ some_open c.args.bounds.now
