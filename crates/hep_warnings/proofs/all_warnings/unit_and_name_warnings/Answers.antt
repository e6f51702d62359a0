use Rattle.std.proofs.Common.{◌≡◌, ◌∙◌, ap}
use Rattle.hep_warnings.specs.CreatedWithLoopVariable.{create_warnings}
use Rattle.hep_warnings.specs.Lines.{Warnings}
use Rattle.hep_warnings.specs.Merge.{merged}
use Rattle.hep_warnings.specs.UnusedNames.{name_warnings}
use Rattle.hep_warnings.specs.UnusedUnits.{unit_warnings}
use Rattle.hep_warnings.proofs.all_warnings.unit_and_name_warnings.Goals as goal

pub returns : goal.returns
returns c =
    let program = c.args.units.now in
    let u : c.in_ok-unused.unused.items ≡ unit_warnings program = c.in_ok-unused.ensures in
    let d : c.in_ok-creates.creates.items ≡ create_warnings program = c.in_ok-creates.ensures in
    let n : c.in_ok-names.names.items ≡ name_warnings program = c.in_ok-names.ensures in
    let m = c.in_ok-behind.ensures ∙ (ap (λ (us : Warnings). merged us c.deref-2.result.now) c.deref.ensures.value
    ∙ ap (λ (us : Warnings). merged c.in_ok-creates.creates.items us) c.deref-2.ensures.value) in
    let o = c.in_ok-found.ensures ∙ (ap (λ (us : Warnings). merged us c.deref-4.result.now) c.deref-3.ensures.value
    ∙ ap (λ (us : Warnings). merged c.in_ok-unused.unused.items us) c.deref-4.ensures.value) in
    o ∙ (ap (λ (us : Warnings). merged us c.in_ok-behind.behind.items) u
    ∙ ap (λ (us : Warnings). merged (unit_warnings program) us) (m ∙ (ap (λ (us : Warnings). merged us c.in_ok-names.names.items) d
    ∙ ap (λ (us : Warnings). merged (create_warnings program) us) n)))
