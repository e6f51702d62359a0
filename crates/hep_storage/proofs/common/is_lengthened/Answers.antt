use Rattle.std.proofs.Common.{◌≡◌, ◌∙◌, ap, subst, sym, IsSome, Some, refl, if◌then◌else◌}
use Rattle.std.specs.Option.{option_eq}
use Rattle.indexmap.specs.IndexMap.{get}
use Rattle.hep_machine.specs.Words.{name_eq, same_block}
use Rattle.hep_names.proofs.BlockNames.{changed}
use Rattle.hep_storage.specs.Lengths.{lengthened}
use Rattle.hep_storage.proofs.common.is_lengthened.Goals as goal

pub returns-in-Some-clause-lengths : goal.returns-in-Some-clause-lengths
returns-in-Some-clause-lengths c = λ b.
    let k = c.args.block in
    let old = get (option_eq name_eq) c.args.lengths.now in
    let is : old k ≡ Some c.in-Some.length.now = sym c.in-Some.ensures.value in
    ((c.get_mut.follows.holds c.lengthened.result).3 (subst IsSome (sym is) refl)).0 b
    ∙ (changed k b (Some c.lengthened.result) (old b)
    ∙ ap (λ o. if same_block k b then Some o else old b) (c.lengthened.ensures ∙ ap (λ o. lengthened o c.args.unit c.args.count) (sym is)))
