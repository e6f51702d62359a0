use Rattle.std.proofs.Common.{◌≡◌, ◌∙◌, ap, sym}
use Rattle.std.specs.Option.{option_map}
use Rattle.hep_check.specs.Culprits as words
use Rattle.hep_check.proofs.culprit.culprit_in.Goals as goal

pub returns-in_ok-misfit-in-304 : goal.returns-in_ok-misfit-in-304
returns-in_ok-misfit-in-304 c =
    let unit = c.args.symbols.now in
    let s = c.args.statement.now in
    let whole : c.named-in-304.result ≡ words.culprit_in c.args.faults.now unit s 304 =
    c.named-in-304.ensures ∙ (ap (option_map words.a_name) c.in_ok-misfit-in-304.ensures ∙ ap (λ p. option_map words.a_name (words.misfit p unit s)) c.program-program.ensures) in
    whole ∙ ap (words.culprit_in c.args.faults.now unit s) (sym c.in-304.is)
