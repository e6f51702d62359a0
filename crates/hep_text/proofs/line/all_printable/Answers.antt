use Rattle.std.proofs.Common.{rules, tests}
use Rattle.std.proofs.lemmas.Iterator.{YieldsList-from_slice}
use Rattle.std.proofs.lemmas.Iterator.Search.{all_from_yields_List}
use Rattle.hep_text.specs.Line.{is_printable}
use Rattle.hep_text.proofs.line.all_printable.Goals as goal

pub returns : goal.returns
returns c =
    all_from_yields_List is_printable _ _ _ c.all.ensures.ran (YieldsList-from_slice c.args.columns.now cc) (λ x b q k. search (rules, tests))
