use Rattle.std.proofs.Common.{◌≡◌, ◌+◌, ◌∷◌, drop, subst}
use Rattle.indexmap.specs.IndexSet.{contains}
use Rattle.hep_machine.specs.Words.{name_eq}
use Rattle.hep_image.specs.Private.{bare_actuals_of}
use Rattle.hep_places.proofs.GatheredStarts.{among-next}
use Rattle.hep_places.proofs.bare_actuals.bare_actuals.Goals as goal
use Rattle.hep_source.proofs.Tests.{drop_at}

pub loop-statement-preserved : goal.loop-statement-preserved
loop-statement-preserved c = λ x.
    let unit = c.args.symbols.now in
    let i = c.loop-statement.statement-index in
    let old = contains name_eq c.loop-statement.names x in
    among-next x (bare_actuals_of unit) old _ _ c.statement-item.result (drop i unit) (drop (i + 1) unit)
    (c.loop-statement.invariant x)
    (subst (λ ss. drop i ss ≡ c.statement-item.result ∷ drop (i + 1) ss) c.statements-statement-items.ensures (drop_at c.statements-statement-items.result.now i c.statement-item.result c.loop-statement-test.true c.statement-item.is))
    (c.in_ok-add_statement.ensures x)
