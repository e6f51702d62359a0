-- One more statement of a walk.
use Rattle.std.proofs.Common.{◌≡◌, List, ◌∷◌, ◌++◌, append_assoc, ap, sym, ◌∙◌}
use Rattle.hep_machine.specs.Words.{Name, Statement, Units}
use Rattle.hep_conditions.specs.Words.{Parameters, Violations}
use Rattle.hep_check.specs.AllViolations.{ViolatedLines, names_after, statement_told, told_from}
use Rattle.hep_types.specs.Passes.{parameters_after}

pub walked : (program : Units) (lines there : ViolatedLines) (unit : List Statement) (ps later : Parameters) (told after : List Name) (s : Statement) (ss xs : List Statement) (found next whole : Violations)
    → there ≡ lines → xs ≡ s ∷ ss → found ++ told_from program lines unit ps told xs ≡ whole → next ≡ found ++ statement_told program there unit ps told s
    → later ≡ parameters_after unit ps s → after ≡ names_after program unit told s
    → next ++ told_from program lines unit later after ss ≡ whole
walked program lines there unit ps later told after s ss xs found next whole same d h n p t =
    (λ j. n j ++ told_from program lines unit (p j) (t j) ss)
    ∙ ((λ j. (found ++ statement_told program (same j) unit ps told s) ++ told_from program lines unit (parameters_after unit ps s) (names_after program unit told s) ss)
    ∙ (append_assoc found (statement_told program lines unit ps told s) (told_from program lines unit (parameters_after unit ps s) (names_after program unit told s) ss)
    ∙ (ap (λ ys. found ++ told_from program lines unit ps told ys) (sym d) ∙ h)))
