use Rattle.std.proofs.Common.{◌≡◌, ◌∙◌, ap, ap₂, rules, true}
use Rattle.std.proofs.lemmas.Result.{IfOk-weaker}
use Rattle.clap.specs.Words.{App, app_of, with_subcommand}
use Rattle.clap.proofs.WalkLemmas.{both}
use Rattle.hep_command.proofs.TableLemmas.{is_plain}
use Rattle.hep_command.proofs.program.with_command.Goals as goal
use Rattle.std.proofs.lemmas.Bool.{not-true}

pub returns-in-Ok : goal.returns-in-Ok
returns-in-Ok c = λ app whole.
    let whole_is : app_of c.in_ok-command.command ≡ app = search (rules, whole) in
    let part_is = c.in-Ok.ensures in
    let plain_part : (app_of c.in-Ok.part).top.is_plain ≡ true = ap (λ (a : App). a.top.is_plain) part_is ∙ is_plain c.args.described.now in
    let rest = (both _ _ plain_part).1 in
    let later = (both _ _ rest).1 in
    let no_globals = not-true _ (both _ _ later).0 in
    let tops = ap (λ (a : App). a.top) part_is in
    IfOk-weaker c.subcommand.result _ _ (λ r h. h.shape no_globals ∙ ap₂ with_subcommand whole_is tops) c.subcommand.ensures
