use Rattle.std.proofs.Common.{◌+◌, ◌++◌, [], ◌∷◌, ◌∙◌, ap, sym, drop}
use Rattle.hep_names.specs.Statements.{rest_after}
use Rattle.hep_names.specs.Tables.{arrays_among}
use Rattle.hep_names.proofs.ArraysAmong.{arrays-turn}
use Rattle.hep_names.proofs.specification.add_each.Goals as goal
use Rattle.hep_source.proofs.Tests.{drop_at}

pub loop-declarator-preserved : goal.loop-declarator-preserved
loop-declarator-preserved c =
    let ds = c.args.declarators.now in
    let i = c.loop-declarator.declarator-index in
    let d = c.declarator-item.result in
    let rest = drop (i + 1) ds in
    let found = rest_after c.loop-declarator.found.items in
    ap (λ more. more ++ arrays_among rest) c.in_ok-add_array.ensures
    ∙ (arrays-turn found (d ∷ []) rest
    ∙ (ap (λ more. found ++ arrays_among more) (sym (drop_at ds i d c.loop-declarator-test.true c.declarator-item.is)) ∙ c.loop-declarator.invariant))
