use Rattle.std.proofs.Common.{◌≡◌, map, length, subst, arith}
use Rattle.hep_control.specs.Successors.{successors_seen, successors_from}
use Rattle.hep_control.proofs.Continuations.{successors-of, successors-length}
use Rattle.hep_control.proofs.control.Control.successors_at.Goals as goal

pub index-requires : goal.index-requires
index-requires c =
    let unit = c.args.self.now in
    let items = c.self.inside.successors.items in
    let all : map successors_seen items ≡ successors_from unit 0 unit = subst (λ u. map successors_seen items ≡ successors_from u 0 u) c.self.view_is c.self.invariant.successors in
    let long : length items ≡ length unit = successors-length unit items all in
    omega (arith, c.requires, long, c.self.inside.successors.ok.0)

pub returns : goal.returns
returns c =
    let unit = c.args.self.now in
    let items = c.self.inside.successors.items in
    let all : map successors_seen items ≡ successors_from unit 0 unit = subst (λ u. map successors_seen items ≡ successors_from u 0 u) c.self.view_is c.self.invariant.successors in
    successors-of unit c.args.index items c.index.result.now all c.requires c.index.ensures
