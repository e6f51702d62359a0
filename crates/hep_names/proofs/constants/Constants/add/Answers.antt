use Rattle.std.proofs.Common.{◌∙◌, ◌∷◌, [], ◌++◌, ap, sym, is_some, if◌then◌else◌}
use Rattle.hep_machine.specs.Words.{value_among}
use Rattle.hep_names.proofs.Tables.{given-last, given-before}
use Rattle.hep_names.proofs.constants.Constants.add.Goals as goal
use Rattle.hep_source.proofs.Tests.{none-from-not}

pub returns-in_ok-insert : goal.returns-in_ok-insert
returns-in_ok-insert c =
    c.in_ok-insert.ensures.entries
    ∙ (given-last c.args.name c.args.value c.self.inside.values.entries (none-from-not _ (sym c.contains_key.ensures ∙ c.if-not-contains_key.true))
    ∙ ap (λ es. if is_some (value_among es c.args.name) then es else es ++ (c.args.name, c.args.value) ∷ []) c.self.view_is)

pub returns-else-not-contains_key : goal.returns-else-not-contains_key
returns-else-not-contains_key c =
    sym c.self.view_is
    ∙ (given-before c.args.name c.args.value c.self.inside.values.entries (sym c.contains_key.ensures ∙ c.if-not-contains_key.false)
    ∙ ap (λ es. if is_some (value_among es c.args.name) then es else es ++ (c.args.name, c.args.value) ∷ []) c.self.view_is)
