use Rattle.std.proofs.Common.{◌∙◌, ◌∷◌, ap, reverse, if◌then◌else◌}
use Rattle.hep_machine.specs.Words.{is_among}
use Rattle.hep_names.proofs.Tables.{last-first}
use Rattle.hep_names.proofs.constants.NameSet.add.Goals as goal

pub returns : goal.returns
returns c =
    ap reverse c.in_ok-insert.ensures.keys
    ∙ (last-first c.args.name c.self.inside.names.keys ∙ ap (λ xs. if is_among c.args.name xs then xs else c.args.name ∷ xs) c.self.view_is)
