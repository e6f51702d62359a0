use Rattle.std.proofs.Common.{◌≡◌, ◌∙◌, ap, subst, sym}
use Rattle.hep_warnings.specs.PastColumn72.{behind_warnings}
use Rattle.hep_warnings.specs.UnusedLabels.{label_warnings}
use Rattle.hep_warnings.specs.Lines.{Warnings}
use Rattle.hep_warnings.specs.Merge.{merged}
use Rattle.hep_warnings.specs.Order.{lines_of_warnings, Rise}
use Rattle.hep_warnings.specs.Warnings.{unit_and_name_warnings}
use Rattle.hep_warnings.proofs.Ordered.{by_line}
use Rattle.hep_warnings.proofs.all_warnings.warnings.Goals as goal

pub returns-clause-exact : goal.returns-clause-exact
returns-clause-exact c =
    let program = c.args.program.now in
    let source = c.args.source.now in
    let a : c.in_ok-behind.behind.items ≡ behind_warnings source = c.in_ok-behind.ensures in
    let b : c.in_ok-labels.labels.items ≡ label_warnings program = c.in_ok-labels.ensures ∙ ap label_warnings c.as_slice-units.ensures in
    let d : c.in_ok-others.others.items ≡ unit_and_name_warnings program = c.in_ok-others.ensures ∙ ap unit_and_name_warnings c.as_slice-units.ensures in
    let m = c.in_ok-of_program.ensures ∙ (ap (λ (us : Warnings). merged us c.deref-2.result.now) c.deref.ensures.value
    ∙ ap (λ (us : Warnings). merged c.in_ok-labels.labels.items us) c.deref-2.ensures.value) in
    let o = c.in_ok-found.ensures ∙ (ap (λ (us : Warnings). merged us c.deref-4.result.now) c.deref-3.ensures.value
    ∙ ap (λ (us : Warnings). merged c.in_ok-behind.behind.items us) c.deref-4.ensures.value) in
    o ∙ (ap (λ (us : Warnings). merged us c.in_ok-of_program.of_program.items) a
    ∙ ap (λ (us : Warnings). merged (behind_warnings source) us) (m ∙ (ap (λ (us : Warnings). merged us c.in_ok-others.others.items) b
    ∙ ap (λ (us : Warnings). merged (label_warnings program) us) d)))

pub returns-clause-ordered : goal.returns-clause-ordered
returns-clause-ordered c = λ rise.
    subst (λ (ws : Warnings). Rise 0 (lines_of_warnings ws)) (sym (returns-clause-exact c)) (by_line c.args.source.now c.args.program.now rise)
