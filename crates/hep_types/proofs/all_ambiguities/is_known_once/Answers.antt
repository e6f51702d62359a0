use Rattle.std.proofs.Common.{◌∙◌, ap, sym}
use Rattle.hep_types.specs.Ambiguities.{twice_in}
use Rattle.hep_types.proofs.Ways.{common-once}
use Rattle.hep_types.proofs.all_ambiguities.is_known_once.Goals as goal

pub returns-in-Common : goal.returns-in-Common
returns-in-Common c = λ h functions.
    let unit = c.args.symbols.now in
    ap (twice_in functions unit) c.in-Common.is ∙ common-once functions unit (sym c.are_common_once.ensures ∙ h)
