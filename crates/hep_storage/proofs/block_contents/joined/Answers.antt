use Rattle.std.proofs.Common.{◌≡◌, ◌+◌, ◌∙◌, sym, arith}
use Rattle.hep_storage.proofs.Listings.{joined-places}
use Rattle.hep_storage.proofs.block_contents.joined.Goals as goal

pub returns-in-Some : goal.returns-in-Some
returns-in-Some c =
    let e : c.in-Some.count ≡ c.args.first.count + c.args.second.count = grind (arith, c.in-Some.ensures) in
    joined-places c.args.first c.args.second c.in-Some.count (sym c.is_same.ensures ∙ c.if-not-is_same.false) e
