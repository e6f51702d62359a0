use Rattle.std.proofs.Common.{◌∙◌, ap, get_or, None, arith}
use Rattle.std.specs.Option.{option_or}
use Rattle.hep_names.specs.Tables.{given}
use Rattle.hep_names.proofs.Statements.{letters-over}
use Rattle.hep_names.proofs.specification.note_range.Goals as goal

pub returns : goal.returns
returns c = λ k h.
    let i = c.loop-letter.invariant in
    i.types k h ∙ ap (λ b. option_or (get_or c.args.types.now k None) (given b c.args.value_type))
    (letters-over k c.args.range.now.first c.args.range.now.last c.loop-letter.letter (let e = c.from-letter-end.ensures in let f = c.loop-letter-test.false in omega arith) i.until)
