use Rattle.std.proofs.Common.{◌∙◌}
use Rattle.hep_names.proofs.Passes.{empty-letters}
use Rattle.hep_names.proofs.functions.+are_letters.Goals as goal

pub returns-in-empty : goal.returns-in-empty
returns-in-empty t c = c.is_empty.ensures ∙ empty-letters c.args.letters.now c.args.word.now c.in-empty.len_below
