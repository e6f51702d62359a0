use Rattle.std.proofs.Common.{◌≡◌, suc, ◌+◌, ◌<◌, [], ◌∷◌, ◌++◌, length, take, slice_set, subst, sym, arith, rules}
use Rattle.std.proofs.Math.Seq.{take-suc-set}
use Rattle.hep_private.specs.LastStores.{IsRecent}
use Rattle.hep_private.proofs.LastStoredPlaces.{with-stores}
use Rattle.hep_private.proofs.records.Records.push.Goals as goal

pub invariant_of-self : goal.invariant_of-self
invariant_of-self c =
    let inside = c.self.inside in
    let note = c.args.note in
    let size : length inside.recent ≡ 64 = search rules in
    let many : length inside.items ≡ 1023 = search rules in
    let within : inside.count < length inside.items = search rules in
    let one : suc inside.count ≡ inside.count + 1 = omega arith in
    let items : take (inside.count + 1) (slice_set inside.items inside.count note) ≡ take inside.count inside.items ++ note ∷ [] =
    subst (λ n. take n (slice_set inside.items inside.count note) ≡ take inside.count inside.items ++ note ∷ []) one (take-suc-set inside.items inside.count note within) in (
      search rules,
      subst (λ recent. IsRecent recent (take (inside.count + 1) (slice_set inside.items inside.count note))) (sym c.put_stores.ensures) (
          subst (IsRecent _) (sym items) (with-stores inside.recent (take inside.count inside.items) note size c.self.invariant.1)),
    )
