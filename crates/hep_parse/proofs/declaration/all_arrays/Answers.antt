use Rattle.std.proofs.Common.{rules, tests}
use Rattle.std.proofs.lemmas.Iterator.{YieldsList-from_slice}
use Rattle.std.proofs.lemmas.Iterator.Search.{all_from_yields_List}
use Rattle.hep_parse.specs.Declaration.{is_array}
use Rattle.hep_parse.proofs.declaration.all_arrays.Goals as goal

pub returns : goal.returns
returns c =
    all_from_yields_List is_array _ _ _ c.all.ensures.ran (YieldsList-from_slice c.args.declarators.now cc) (λ x b q k. search (rules, tests))
