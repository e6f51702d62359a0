use Rattle.std.proofs.Common.{◌≡◌, length, subst, sym, ◌∙◌}
use Rattle.hep_commit.specs.declared.offer.Offer.{Offer}
use Rattle.hep_commit.specs.Offers.{IsKnownOffer, offered}
use Rattle.hep_commit.proofs.BatchStarts.{count}
use Rattle.hep_commit.proofs.offer.Offer.steps.Goals as goal

pub returns-in-Made-clause-count : goal.returns-in-Made-clause-count
returns-in-Made-clause-count c program =
    subst (λ (o : Offer). IsKnownOffer program o → c.steps.result ≡ length (offered program o).records) (sym c.in-Made.is) (
    λ known. c.steps.ensures.steps ∙ sym (count program c.in-Made.batch.now known))
