use Rattle.std.proofs.Common.{◌+◌, ap, drop, map}
use Rattle.indexmap.specs.IndexSet.{contains}
use Rattle.hep_machine.specs.Words.{name_eq}
use Rattle.hep_names.specs.Lists.{listed}
use Rattle.hep_image.specs.Private.{bare_in_list}
use Rattle.hep_places.proofs.GatheredStarts.{among-next}
use Rattle.hep_places.proofs.bare_actuals.add_references.Goals as goal
use Rattle.hep_source.proofs.Tests.{drop_at}

pub loop-reference-preserved : goal.loop-reference-preserved
loop-reference-preserved c = λ x.
    let rs = c.args.references.now in
    let i = c.loop-reference.reference-index in
    let old = contains name_eq c.loop-reference.names x in
    among-next x (bare_in_list c.args.symbols.now) old _ _ (listed c.reference-item.result) (map listed (drop i rs)) (map listed (drop (i + 1) rs))
    (c.loop-reference.invariant x)
    (ap (map listed) (drop_at rs i c.reference-item.result c.loop-reference-test.true c.reference-item.is))
    (c.in_ok-add_reference.ensures x)
