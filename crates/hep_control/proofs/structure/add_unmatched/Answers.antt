use Rattle.std.proofs.Common.{◌∙◌, ap}
use Rattle.hep_control.proofs.SingleLines.{unmatched-told}
use Rattle.hep_control.proofs.structure.add_unmatched.Goals as goal

pub returns : goal.returns
returns c = λ test.
    unmatched-told c.args.unit.now test c.stray.result.now c.unclosed.result.now c.args.lines.now.items c.add_stray.new.lines.items c.add_unclosed.new.lines.items
    (c.stray.ensures ∙ ap (λ b. b.stray) c.requires) (c.unclosed.ensures ∙ ap (λ b. b.unclosed) c.requires) c.in_ok-add_stray.ensures c.in_ok-add_unclosed.ensures
