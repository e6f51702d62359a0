use Rattle.std.proofs.Common.{[], subst, sym, arith}
use Rattle.hep_private.specs.LastStores.{IsRecent}
use Rattle.hep_private.proofs.LastStoredPlaces.{without-stores}
use Rattle.hep_private.proofs.records.Records.new.Goals as goal

pub invariant_of-result : goal.invariant_of-result
invariant_of-result c = (omega arith, subst (λ recent. IsRecent recent []) (sym c.nothing.ensures) without-stores)
