use Rattle.std.proofs.Common.{[], subst, sym, arith}
use Rattle.hep_private.specs.LastStores.{IsRecent}
use Rattle.hep_private.proofs.LastStoredPlaces.{without-stores}
use Rattle.hep_private.proofs.records.Records.clear.Goals as goal

pub invariant_of-self : goal.invariant_of-self
invariant_of-self c = (omega arith, subst (λ recent. IsRecent recent []) (sym c.nothing-self-inside.ensures) without-stores)
