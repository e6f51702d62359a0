use Rattle.std.proofs.Common.{◌≡◌, ◌&&◌, ap, sym, ◌∙◌}
use Rattle.hep_machine.specs.Words.{with_list, trees_of, is_array}
use Rattle.hep_conditions.specs.Words.{function_types, actual_class, is_asynchronous_scalar}
use Rattle.hep_types.proofs.CallPasses.{element_given}
use Rattle.hep_types.proofs.forms.is_asynchronous_scalar.Goals as goal

pub returns-else-occurrence : goal.returns-else-occurrence
returns-else-occurrence c =
    let unit = c.args.symbols.now in
    let p = c.in-WithList.occurrence in
    let ts = trees_of c.in-WithList.field-1.items in
    let tree : c.args.actual.now ≡ with_list p ts = cc in
    let plain = c.if-occurrence.false in
    plain ∙ (sym (ap (λ b. b && is_array unit p.name) plain) ∙ (sym (element_given (function_types c.args.program.now) unit p ts) ∙ sym (ap (λ t. is_asynchronous_scalar (function_types c.args.program.now) (actual_class (function_types c.args.program.now) unit t)) tree)))
