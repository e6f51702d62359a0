use Rattle.std.proofs.Common.{rules, ◌≡◌, ◌<◌, length, sym, subst, IfSome}
use Rattle.hep_machine.specs.Words.{index_labelled}
use Rattle.hep_control.proofs.Labelled.{index_labelled-below}
use Rattle.hep_control.proofs.labels.Labels.index_labelled.Goals as goal

pub returns-clause-in_unit : goal.returns-clause-in_unit
returns-clause-in_unit c =
    let is : c.copied.result ≡ index_labelled c.args.self.now c.args.label = search rules in
    subst (λ o. IfSome o (λ index. index < length c.args.self.now)) (sym is) (index_labelled-below c.args.self.now c.args.label)
